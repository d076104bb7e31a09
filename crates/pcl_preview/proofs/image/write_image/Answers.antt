use Rattle.pcl_preview.proofs.Names.{err_from_is_err_and}
use Rattle.pcl_preview.proofs.Writes.{header_is, stopped_in_header, rows_written}
use Rattle.pcl_preview.proofs.image.write_image.Goals as goal

pub returns-in_err-write_bytes : goal.returns-in_err-write_bytes
returns-in_err-write_bytes g c =
    let p = err_from_is_err_and c.from_residual-in_err-write_bytes.result c.from_residual-in_err-write_bytes.ensures.1 in
    let text = header_is c.deref.ensures.value c.in_ok-header.ensures c.size.ensures.value c.dpi.ensures.value in
    rw (p.1, p.2) (stopped_in_header _ _ c.args.bitmap.now _ text c.in_err-write_bytes.ensures)

pub returns : goal.returns
returns g c =
    let text = header_is c.deref.ensures.value c.in_ok-header.ensures c.size.ensures.value c.dpi.ensures.value in
    rows_written _ _ _ c.args.bitmap.now c.write_all.result text c.bytes.ensures.bytes c.in_ok-write_bytes.ensures
    c.write_all.ensures
