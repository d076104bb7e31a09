use Rattle.std.proofs.Common.{◌≡◌, ◌-◌, sym, ◌∙◌, arith}
use Rattle.pcl_output.proofs.Names.{take-replicate, page_height, page_row_bytes, bitmap_rows, row_small}
use Rattle.pcl_output.proofs.RowsFrom.{row_of_bytes}
use Rattle.pcl_output.proofs.Walking.{row_above_is}
use Rattle.pcl_output.proofs.bitmap_rows.row_above.Goals as goal

pub returns-then-y-gt0-clause-row : goal.returns-then-y-gt0-clause-row
returns-then-y-gt0-clause-row c =
    let picture = c.args.bitmap.now in
    let y = c.args.y in
    let width = page_row_bytes picture.size picture.dpi in
    let at = row_of_bytes (y - 1) (page_height picture.size picture.dpi) width picture.bytes (omega (arith, c.requires.row)) in
    c.row.ensures.bytes ∙ sym at ∙ sym (row_above_is width (bitmap_rows picture) y c.if-y-gt0.true)

pub returns-else-y-gt0-clause-row : goal.returns-else-y-gt0-clause-row
returns-else-y-gt0-clause-row c =
    let picture = c.args.bitmap.now in
    let topmost : 0 ≡ c.args.y = omega arith in
    let width : c.row_bytes.result ≡ page_row_bytes picture.size picture.dpi =
    rw (c.row_bytes.ensures, c.size.ensures.value, c.dpi.ensures.value) in
    rw (width, c.requires.zeros, ← topmost)
    (take-replicate (page_row_bytes picture.size picture.dpi) 600 0 (row_small picture.size picture.dpi))
