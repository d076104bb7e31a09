use Rattle.pcl_preview.proofs.Names.{err_from_is_err_and}
use Rattle.pcl_preview.proofs.Streamings.{none_streamed, streamed_on}
use Rattle.pcl_preview.proofs.streamed_images.stream_pages.Goals as goal

pub returns-in_err-find_pages : goal.returns-in_err-find_pages
returns-in_err-find_pages g c =
    let p = err_from_is_err_and c.from_residual.result c.from_residual.ensures.1 in
    rw (p.1, p.2) (none_streamed c.args.scale c.args.profile c.args.dpi c.args.job.now c.args.choice _
    c.in_err-find_pages.field-0.0 c.in_err-find_pages.ensures)

pub returns : goal.returns
returns g c =
    streamed_on c.args.scale c.args.profile c.args.dpi c.args.job.now c.args.choice _ _ c.write_pages.result c.write_pages.ensures
