use Rattle.pcl_preview.proofs.Names.{refl, has_pages}
use Rattle.pcl_preview.proofs.Choices.{dots_kept}
use Rattle.pcl_preview.proofs.page_preview.page_dots.Goals as goal

pub returns : goal.returns
returns c =
    let h = c.in_ok-perform_by.ensures in
    dots_kept c.args.dpi c.args.job.now c.args.page c.checked_sub.result _ (has_pages h) c.checked_sub.ensures refl refl
    h.handed.1 c.ok_or.ensures.value
