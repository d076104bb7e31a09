use Rattle.std.proofs.Common.{◌≡◌, length, ◌+◌, ◌*◌, ◌%◌, ap, ◌∙◌, arith}
use Rattle.pcl_bitmap.proofs.Runs.{take_dots}
use Rattle.pcl_bitmap.proofs.Names.{dot_of_row}
use Rattle.pcl_bitmap.proofs.Spread.{spread_dot}
use Rattle.pcl_bitmap.proofs.patterns.write_dots.Goals as goal

pub returns-then-rest-eq0 : goal.returns-then-rest-eq0
returns-then-rest-eq0 c k small =
    let n = length c.args.target.now in
    let spread = c.spread_row.new.target in
    let none : k ≡ c.args.start % (8 * c.args.scale) + k = omega (arith, c.if-rest-eq0.true) in
    rw c.copy_from_slice.ensures.after (take_dots n spread small) ∙ ap (λ m. dot_of_row spread m) none
    ∙ spread_dot c.args.row.now spread c.args.scale c.args.start n c.div_ceil-count.result k (omega arith) c.div_ceil-count.ensures small
    c.spread_row.ensures

pub returns-else-rest-eq0 : goal.returns-else-rest-eq0
returns-else-rest-eq0 c k small =
    c.write_bits-else-rest-eq0.ensures k small ∙ spread_dot c.args.row.now c.spread_row.new.target c.args.scale c.args.start
    (length c.args.target.now) c.div_ceil-count.result k (omega arith) c.div_ceil-count.ensures small c.spread_row.ensures
