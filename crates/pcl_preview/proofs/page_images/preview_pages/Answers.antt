use Rattle.pcl_preview.proofs.Names.{err_from_is_err_and}
use Rattle.pcl_preview.proofs.Showings.{none_shown, all_shown}
use Rattle.pcl_preview.proofs.page_images.preview_pages.Goals as goal

pub returns-in_err-images : goal.returns-in_err-images
returns-in_err-images g c =
    let p = err_from_is_err_and c.from_residual.result c.from_residual.ensures.1 in
    rw (p.1, p.2) (none_shown c.args.form c.args.profile c.args.dpi c.args.job.now c.args.choice _
    c.in_err-images.field-0.0 c.in_err-images.ensures)

pub returns : goal.returns
returns g c = all_shown _ _ _ _ (rw (← c.deref.ensures.value) at c.in_ok-images.ensures) c.write_all.ensures
