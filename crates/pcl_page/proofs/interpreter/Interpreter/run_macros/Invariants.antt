use Rattle.std.proofs.Common.{◌≤◌, length}
use Rattle.pcl_page.proofs.Names.{macro_limit, Situation, IsAt, resumed, work_left}
use Rattle.pcl_page.proofs.Progress.{GoesBack}
use Rattle.pcl_page.proofs.interpreter.Interpreter.run_macros.Given as goal

-- what the macros that run have left is what is left of those that ran at first
abbrev pub invariant-loop-macro_run : goal.invariant-loop-macro_run
invariant-loop-macro_run g l =
    ((s : Situation) → IsAt l.dpi s l.fn.self → GoesBack g.S.PageSink.takes l.dpi (g.L.CommandList.commands l.commands)
    (resumed macro_limit l.dpi (g.L.CommandList.commands l.commands) l.fn.self.running.items s) s l.self l.fn.sink l.sink)
    × (length l.self.running.items ≤ macro_limit)

abbrev pub decreases-loop-macro_run : goal.decreases-loop-macro_run
decreases-loop-macro_run g l = work_left (length (g.L.CommandList.commands l.commands)) l.self.performer.performed l.self.running.items
