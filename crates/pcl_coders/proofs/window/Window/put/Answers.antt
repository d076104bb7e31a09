use Rattle.std.proofs.Common.{◌<◌, length, arith}
use Rattle.pcl_coders.proofs.Queues.{queue_put}
use Rattle.pcl_coders.proofs.window.Window.put.Goals as goal

pub invariant_of-self : goal.invariant_of-self
invariant_of-self c =
    let room : c.self.inside.put < length c.self.inside.numbers.now = omega (arith, rw (← c.self.view_is) at c.requires) in
    queue_put c.self.invariant room c.loop-stop.invariant.order c.loop-stop.invariant.within c.loop-stop.invariant.above
    (grind (arith, c.loop-stop-test.branch))
