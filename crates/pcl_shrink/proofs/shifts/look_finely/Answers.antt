use Rattle.pcl_base.specs.declared.dpi.Dpi.TheVariants.{Dpi600}
use Rattle.pcl_shrink.proofs.Names.{sym, subst, accepted_pages, has_pages, all_kept_within, KeepAllIfAny}
use Rattle.pcl_shrink.proofs.Found.{kept_while_read}
use Rattle.pcl_shrink.proofs.shifts.look_finely.Goals as goal

pub returns : goal.returns
returns g c =
    let h = c.in_ok-asks.ensures.0 in
    let sheets = accepted_pages h in
    let new = c.perform_observed.new.sink in
    let kept = all_kept_within Dpi600 sheets new c.new-2.ensures h.handed.1 in
    let found = subst (KeepAllIfAny Dpi600 sheets) (sym c.finder.view_is) kept in (
      (sheets, has_pages h),
      kept_while_read c.finder.inside.keeper _ c.finish.result c.in_ok-asks.ensures.1 (sheets, has_pages h, found)
          c.finish.ensures.pages c.finish.ensures.asks,
    )
