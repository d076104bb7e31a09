use Rattle.std.proofs.Common.{◌≡◌, refl, arith}
use Rattle.pcl_preview.proofs.Names.{page_height}
use Rattle.pcl_preview.proofs.Counts.{white_below}
use Rattle.pcl_preview.proofs.greymap.black_of_row.Goals as goal

pub returns-else-y-height-clause-count : goal.returns-else-y-height-clause-count
returns-else-y-height-clause-count c =
    let p = c.args.bitmap.now in
    let height : c.height.result ≡ page_height p.size p.dpi = rw (c.height.ensures, c.size.ensures.value, c.dpi.ensures.value) refl in
    white_below p c.args.y c.args.x c.args.width c.size.ensures.picture (omega (arith, height, c.if-y-height.false))
