use Rattle.std.specs.Prelude.{Some}
use Rattle.pcl_base.specs.declared.dpi.Dpi.TheVariants.{Dpi300, Dpi600}
use Rattle.pcl_shrink.proofs.Everywhere.{fine_alone}
use Rattle.pcl_shrink.proofs.Written.{accepted_for}
use Rattle.pcl_shrink.proofs.shrinking.shrink_fine.Goals as goal

pub returns-in-Ok : goal.returns-in-Ok
returns-in-Ok g c = λ accepted kept.
    let s = c.in-Ok.ensures accepted kept in
    (Dpi300, Some Dpi600, (accepted_for c.args.terms.profile Dpi300 (Some Dpi600) c.args.job.now _ c.args.terms.readers _ s, accepted), s)

pub returns-in-Err-Refused : goal.returns-in-Err-Refused
returns-in-Err-Refused g c = λ accepted kept.
    fine_alone (c.one_meaning.ensures.apart c.args.terms.profile) c.args.terms.readers c.args.job.now _ c.shrink_by.result
    c.in-Err-Refused.field-0-is (c.in-Err-Refused.ensures accepted kept) accepted c.shrink_by.ensures
