use Rattle.std.proofs.Common.{◌<◌, arith}
use Rattle.pcl_coders.proofs.Queues.{length-in_window, queue_least}
use Rattle.pcl_coders.proofs.window.Window.least.Goals as goal

pub returns : goal.returns
returns c =
    let a = c.self.inside in
    let some : a.taken < a.put =
    omega (arith, rw (← c.self.view_is) at c.requires, length-in_window a.numbers.now a.taken a.put c.self.invariant.put_within) in
    rw (← c.self.view_is) (queue_least c.self.invariant some).1
