use Rattle.std.proofs.Common.{◌*◌, ◌+◌, ◌-◌, refl, ◌∙◌, arith}
use Rattle.pcl_bitmap.proofs.Names.{dot_of_row}
use Rattle.pcl_bitmap.proofs.Inked.{none_inked, row_inked, run_or}
use Rattle.pcl_bitmap.proofs.squares.or_rows.Goals as goal

pub loop-row-init : goal.loop-row-init
loop-row-init c = none_inked c.requires.high (λ i. omega (arith, c.type_inv.page i))

pub loop-row-preserved : goal.loop-row-preserved
loop-row-preserved c =
    let a = c.args in
    row_inked c.or_bits.new.target c.loop-row.invariant (omega arith) c.requires.wide (omega arith) c.or_bits.ensures.in_bytes
    (λ px py within.
    let place = 8 * (py * a.row_bytes) + px in
    c.or_bits.ensures.bits place
    ∙ run_or a.source.now a.row_bytes a.area.x a.area.width c.loop-row.row px py (dot_of_row a.source.now (px - a.area.x))
    (dot_of_row c.loop-row.page place) c.requires.wide within (λ _ _. refl))
