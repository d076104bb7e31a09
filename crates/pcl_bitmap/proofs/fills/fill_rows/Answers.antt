use Rattle.std.proofs.Common.{◌*◌, ◌+◌, arith}
use Rattle.pcl_bitmap.proofs.Inked.{none_inked, row_inked}
use Rattle.pcl_bitmap.proofs.fills.fill_rows.Goals as goal

pub loop-row-init : goal.loop-row-init
loop-row-init c = none_inked c.requires.high (λ i. omega (arith, c.type_inv.page i))

pub loop-row-preserved : goal.loop-row-preserved
loop-row-preserved c =
    row_inked c.fill_bits.new.target c.loop-row.invariant (omega arith) c.requires.wide (omega arith) c.fill_bits.ensures.in_bytes
    (λ px py _. c.fill_bits.ensures.bits (8 * (py * c.args.row_bytes) + px))
