use Rattle.std.proofs.Common.{◌≤◌, arith}
use Rattle.pcl_preview.proofs.Names.{height_small, page_width, squares_for}
use Rattle.pcl_preview.proofs.Pixels.{few_squares, no_row, pixel_row_more}
use Rattle.pcl_preview.proofs.greymap.append_pixels.Goals as goal

pub loop-row-init : goal.loop-row-init
loop-row-init c =
    let p = c.args.bitmap.now in
    no_row p c.args.side (squares_for (page_width p.size p.dpi) c.args.side) c.args.image.now.items

pub append_row-requires-clause-row : goal.append_row-requires-clause-row
append_row-requires-clause-row c =
    let small : c.height.result ≤ 8400 = rw c.height.ensures (height_small c.size.result c.dpi.result) in
    let few : c.squares-height.result ≤ 8400 = rw c.squares-height.ensures (few_squares c.height.result c.args.side c.requires.0 small) in
    omega (arith, c.loop-row-test.true, c.loop-row.auto.row-end, few)

pub loop-row-preserved : goal.loop-row-preserved
loop-row-preserved c =
    let p = c.args.bitmap.now in
    pixel_row_more p c.args.side (squares_for (page_width p.size p.dpi) c.args.side) c.loop-row.row _ c.loop-row.image.items _
    c.loop-row.invariant c.in_ok-append_row.ensures
