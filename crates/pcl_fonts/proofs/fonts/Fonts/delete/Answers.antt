use Rattle.pcl_fonts.proofs.Names.{None, refl}
use Rattle.pcl_fonts.proofs.Tables.{follows_at, changed, one_steps}
use Rattle.pcl_fonts.proofs.fonts.Fonts.delete.Goals as goal

pub returns : goal.returns
returns c =
    let id = c.args.id in
    follows_at
    (changed c.self.inside.deletions c.self.inside.entries.entries c.swap_remove.new.self.entries id None c.self.invariant.unique
    c.self.view_is c.swap_remove.ensures.unique c.swap_remove.ensures.updates.0 refl refl) (one_steps id)
