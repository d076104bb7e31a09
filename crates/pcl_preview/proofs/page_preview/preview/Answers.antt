use Rattle.pcl_preview.proofs.Names.{err_from_is_err_and}
use Rattle.pcl_preview.proofs.Choices.{unseen, previewed}
use Rattle.pcl_preview.proofs.page_preview.preview.Goals as goal

pub returns-in_err-bitmap : goal.returns-in_err-bitmap
returns-in_err-bitmap g c =
    let p = err_from_is_err_and c.from_residual.result c.from_residual.ensures.1 in
    rw (p.1, p.2) (unseen c.args.dpi c.args.job.now c.args.page _ c.in_err-bitmap.field-0.0 c.in_err-bitmap.ensures)

pub returns : goal.returns
returns g c = previewed _ _ c.in_ok-bitmap.bitmap _ c.in_ok-bitmap.ensures c.write_image.ensures
