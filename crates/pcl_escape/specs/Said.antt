-- Commands, without where their data lie in memory.
use Rattle.std.specs.Prelude.{ℕ, List, map}
use Rattle.pcl_base.specs.declared.name.Name.{Name}
use Rattle.pcl_base.specs.declared.value.Value.{Value}
use Rattle.pcl_escape.specs.declared.command.Command.{Command}

-- a command with its place, name, value and data
pub record Said : Type 0 where
  pub at : ℕ
  pub name : Name
  pub value : Value
  pub bytes : List ℕ

-- what a command of the code says
abbrev pub view : Command → Said
view command = record { at = command.at; name = command.name; value = command.value; bytes = command.bytes.now }

-- the same of all commands
abbrev pub views : List Command → List Said
views commands = map view commands
