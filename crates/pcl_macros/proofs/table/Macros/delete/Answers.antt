use Rattle.pcl_macros.proofs.Names.{None, option_map, control, begun_in, One}
use Rattle.pcl_macros.proofs.Tables.{follows_only, found_becomes}
use Rattle.pcl_macros.proofs.table.Macros.delete.Goals as goal

pub returns : goal.returns
returns c =
    let d = c.self.inside.deletions in
    let es = c.self.inside.bodies.entries in
    let fs = c.swap_remove.new.self.entries in
    follows_only d d es fs (option_map begun_in c.self.inside.begun) (control One c.args.id) c.self.invariant.unique
    c.swap_remove.ensures.unique c.self.view_is (found_becomes d es fs c.args.id None c.swap_remove.ensures.updates.0)
