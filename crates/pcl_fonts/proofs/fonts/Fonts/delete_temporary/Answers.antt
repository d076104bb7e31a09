use Rattle.pcl_fonts.proofs.Names.{nat_eq, refl, lookup, control, Temporary}
use Rattle.pcl_fonts.proofs.Tables.{seen, follows, temporary_steps, one_more}
use Rattle.pcl_fonts.proofs.fonts.Fonts.delete_temporary.Goals as goal

pub returns-in-Some : goal.returns-in-Some
returns-in-Some c =
    let d = c.self.inside.deletions in
    let es = c.self.inside.entries.entries in
    follows (control Temporary 0 0) (seen d es c.self.invariant.unique c.self.view_is (λ q. refl))
    (seen c.in-Some.deletions es c.self.invariant.unique refl
    (λ q. rw c.in-Some.ensures.1 (one_more d (lookup (nat_eq q) es) (c.self.invariant.earlier q)))) (λ q. temporary_steps q _)
