use Rattle.std.proofs.Common.{rules}
use Rattle.pcl_page.proofs.interpreter.Interpreter.new.Goals as goal

pub returns : goal.returns
returns c = (record { is_in = c.in_ok-new.ensures; macros = c.new-2.ensures.holds; begun = search rules }, c.new-3.ensures)
