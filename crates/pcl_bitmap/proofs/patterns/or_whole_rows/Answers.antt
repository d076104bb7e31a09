use Rattle.std.proofs.Common.{◌*◌, ◌+◌, ◌-◌, drop, refl, ◌∙◌, arith}
use Rattle.pcl_bitmap.proofs.Names.{take_rest, dot_of_row}
use Rattle.pcl_bitmap.proofs.Inked.{none_inked, row_inked, run_or}
use Rattle.pcl_bitmap.proofs.patterns.or_whole_rows.Goals as goal

pub loop-row-init : goal.loop-row-init
loop-row-init c = none_inked c.requires.high (λ i. omega (arith, c.type_inv.page i))

pub loop-row-preserved : goal.loop-row-preserved
loop-row-preserved c =
    let a = c.args in
    let row = c.loop-row.row in
    row_inked c.or_bits.new.target c.loop-row.invariant (omega arith) c.requires.wide (omega arith) c.or_bits.ensures.in_bytes
    (λ px py within.
    let place = 8 * (py * a.row_bytes) + px in
    let bits = drop ((py - a.area.y + a.clip.y) * a.clip.row_bytes) a.rows.now in
    let source = drop ((row - a.area.y + a.clip.y) * a.clip.row_bytes) a.rows.now in
    (c.or_bits.ensures.bits place ∙ rw (take_rest a.rows.now ((row - a.area.y + a.clip.y) * a.clip.row_bytes)) refl)
    ∙ run_or source a.row_bytes a.area.x a.area.width row px py
    (dot_of_row bits (px - a.area.x)) (dot_of_row c.loop-row.page place) c.requires.wide within (λ level _. rw level refl))
