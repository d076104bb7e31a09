use Rattle.std.proofs.Common.{◌≡◌, arith, refl}
use Rattle.pcl_cert.proofs.Names.{page_height}
use Rattle.pcl_cert.proofs.KeptLists.{all_rows}
use Rattle.pcl_cert.proofs.page_tables.row_tables.Goals as goal

pub returns : goal.returns
returns c =
    let page = c.args.page.now in
    let height : c.height-row-end.result ≡ page_height page.bitmap.size page.bitmap.dpi =
    rw (c.height-row-end.ensures, c.size.ensures.value, c.dpi.ensures.value) refl in
    rw (c.within.ensures, ← page.size_is, ← page.dpi_is) (all_rows page.bitmap c.loop-row.invariant
    (omega (arith, c.loop-row-test.false, c.loop-row.auto.row-end, height)))
