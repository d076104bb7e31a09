-- What contracts see of a table of macros: the body of each ID, and the definition that is open.
use Rattle.std.specs.Prelude.{◌≡◌, ◌≤◌, ℕ, Bool, true, false, ◌||◌, nat_eq, List, map, filter, Option, None, Some, is_some, IfSome, Result, Ok, Err}
use Rattle.std.specs.Option.{option_map}
use Rattle.std.specs.Map.{lookup}
use Rattle.std.specs.declared.ops.Range.{Range}
use Rattle.indexmap.specs.IndexMap.{IsUnique}
use Rattle.pcl_base.specs.declared.kind.Kind.TheVariants.{MacroControl}
use Rattle.pcl_base.specs.declared.fault.CallFault.{CallFault}
use Rattle.pcl_base.specs.declared.fault.CallFault.TheVariants.{Refused, Memory}
use Rattle.pcl_macros.specs.History.{MacroEvent, MacroBody, defined, body_step, body_after}
use Rattle.pcl_macros.specs.declared.table.Body.{Body}
use Rattle.pcl_macros.specs.declared.table.Definition.{Definition}
use Rattle.pcl_macros.specs.declared.table.Macros.TheInside.{Inside}

-- the definition that is open: of an ID, from a place in the list of commands
pub record Begun : Type 0 where
  pub id : ℕ
  pub from : ℕ

-- macros by their IDs, and the definition that is open
pub record MacroTable : Type 0 where
  pub bodies : List (ℕ × MacroBody)
  pub begun : Option Begun

abbrev pub macro_at : MacroTable → ℕ → Option MacroBody
macro_at table id = lookup (nat_eq id) table.bodies

abbrev pub is_begun : MacroTable → Bool
is_begun table = is_some table.begun

-- the table holds the macros that are there after a history
abbrev pub Holds : MacroTable → List MacroEvent → Type 0
Holds table history = (id : ℕ) → macro_at table id ≡ body_after history id

-- what an event makes of each macro
abbrev pub Follows : MacroTable → MacroTable → MacroEvent → Type 0
Follows old new event = (id : ℕ) → macro_at new id ≡ body_step event id (macro_at old id)

-- an event that leaves alone a definition that is open
abbrev pub Controls : MacroTable → MacroTable → MacroEvent → Type 0
Controls old new event = Follows old new event × (new.begun ≡ old.begun)

-- The end of a definition: the open one is defined and none is open; it is refused exactly where none is. After a fault all
-- is the same.
abbrev pub HasEnd : ℕ → Result (Unit {0}) CallFault → MacroTable → MacroTable → Type 0
HasEnd to (Ok unit) old new = (d : Begun) × (old.begun ≡ Some d) × Follows old new (defined d.id d.from to) × (new.begun ≡ None)
HasEnd to (Err (Refused kind)) old new = (is_begun old ≡ false) × (kind ≡ MacroControl) × (new ≡ old)
HasEnd to (Err Memory) old new = (is_begun old ≡ true) × (new ≡ old)

-- the places of a macro's commands
abbrev pub places_of : Option MacroBody → Option (Range ℕ)
places_of None = None
places_of (Some body) = Some (record { start = body.from; end = body.to })

-- ---- how the table is kept

abbrev pub macro_in : Body → MacroBody
macro_in body = record { from = body.from; to = body.to; permanent = body.is_permanent }

abbrev pub begun_in : Definition → Begun
begun_in definition = record { id = definition.id; from = definition.from }

-- after this many deletions of temporary macros one is there that is permanent, or that was defined or marked after the last of them
abbrev pub is_there : ℕ → Body → Bool
is_there deletions body = body.is_permanent || nat_eq body.deletions deletions

abbrev pub table_view : Inside → MacroTable
table_view a = record {
  bodies = map (λ e. (e.0, macro_in e.1)) (filter (λ e. is_there a.deletions e.1) a.bodies.entries);
  begun = option_map begun_in a.begun;
}

pub record IsMacroMap (a : Inside) : Type 0 where
  pub unique : IsUnique nat_eq a.bodies
  pub earlier : (id : ℕ) → IfSome (lookup (nat_eq id) a.bodies.entries) (λ body. body.is_permanent ≡ false → body.deletions ≤ a.deletions)
