use Rattle.std.proofs.Common.{◌-◌, length, drop}
use Rattle.pcl_page.proofs.Names.{performance}
use Rattle.pcl_page.proofs.Jobs.{IsReached, rest_of_job}
use Rattle.pcl_page.proofs.interpreter.Interpreter.perform_all.Given as goal

-- what was performed so far and what is left make the whole
abbrev pub invariant-loop-command : goal.invariant-loop-command
invariant-loop-command g l =
    IsReached g.S.PageSink.takes l.dpi
    (performance l.fn.self.performer.environment.profile l.dpi l.end (g.L.CommandList.commands l.commands))
    (rest_of_job l.dpi l.end (g.L.CommandList.commands l.commands) l.place (drop l.place (g.L.CommandList.commands l.commands))) l.self
    l.fn.sink l.sink

abbrev pub decreases-loop-command : goal.decreases-loop-command
decreases-loop-command g l = length (g.L.CommandList.commands l.commands) - l.place
