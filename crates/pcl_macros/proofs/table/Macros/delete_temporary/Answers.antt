use Rattle.pcl_macros.proofs.Names.{nat_eq, lookup, option_map, control, begun_in, Temporary}
use Rattle.pcl_macros.proofs.Tables.{follows_only, one_more}
use Rattle.pcl_macros.proofs.table.Macros.delete_temporary.Goals as goal

pub returns-in-Some : goal.returns-in-Some
returns-in-Some c =
    let d = c.self.inside.deletions in
    let es = c.self.inside.bodies.entries in
    follows_only d c.in-Some.deletions es es (option_map begun_in c.self.inside.begun) (control Temporary 0) c.self.invariant.unique
    c.self.invariant.unique c.self.view_is (λ q. rw c.in-Some.ensures.1 (one_more d (lookup (nat_eq q) es) (c.self.invariant.earlier q)))
