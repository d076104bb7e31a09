use Rattle.std.proofs.Common.{◌≡◌, ◌∙◌, ap, ℕ, arith}
use Rattle.pcl_preview.proofs.Counts.{few_rows, none_above, row_more}
use Rattle.pcl_preview.specs.Greymap.{black_in}
use Rattle.pcl_preview.proofs.greymap.black_in_square.Goals as goal

pub loop-row-init : goal.loop-row-init
loop-row-init c = record { counted = none_above c.args.bitmap.now c.args.x c.args.y c.args.side; few = omega arith }

pub loop-row-preserved : goal.loop-row-preserved
loop-row-preserved c =
    let i = c.loop-row.invariant in
    let more = c.black_of_row-black.ensures in
    record {
      counted = row_more c.args.bitmap.now c.args.x c.args.y c.args.side c.loop-row.row c.loop-row.black c.black_of_row-black.result
          i.counted more.count;
      few = omega (arith, i.few, more.bound, c.requires.side);
    }

pub returns-clause-bound : goal.returns-clause-bound
returns-clause-bound c =
    let all : c.loop-row.row ≡ c.args.side = omega (arith, c.loop-row-test.false, c.loop-row.auto.row-end) in
    let black = c.loop-row.invariant.counted ∙ ap (λ (n : ℕ). black_in c.args.bitmap.now c.args.x c.args.y c.args.side n) all in
    rw black (few_rows c.args.bitmap.now c.args.x c.args.y c.args.side c.args.side)
