use Rattle.std.proofs.Common.{◌≡◌, ℕ, ◌<◌, length, drop, sym, ◌∙◌, arith}
use Rattle.pcl_same.proofs.Names.{page_height, Delta, decoded_is, data_of}
use Rattle.pcl_same.proofs.KeptRows.{height_is, white_above, next_above, made_over, makes_more, all_beside, row_differs}
use Rattle.pcl_same.proofs.kept_bitmap.KeptBitmap.first_dot.Goals as goal

pub loop-y-init : goal.loop-y-init
loop-y-init c = record { above = white_above c.args.other.now; makes = λ k lt. absurd (omega arith) }

pub returns-in-Some : goal.returns-in-Some
returns-in-Some c = λ kept is_kept keeps.
    let other = c.args.other.now in
    let y : ℕ = c.loop-y.y in
    let height = height_is other c.height-y-end.ensures c.size.ensures.value c.dpi.ensures.value in
    let down : y < page_height other.size other.dpi = omega (arith, c.loop-y-test.true, height) in
    row_differs other is_kept keeps c.requires.size c.requires.dpi (omega (arith, down)) c.loop-y.invariant.makes down
    (made_over other y c.loop-y.above c.row-row.result.now (data_of c.args.self.now y) c.loop-y.invariant.above c.row-row.ensures.len
    (decoded_is Delta _ _ _ (rw c.row_data.ensures at c.decode.ensures))) c.row-row.ensures.bytes c.row-row.ensures.clear_pads
    c.in-Some.ensures

pub loop-y-preserved : goal.loop-y-preserved
loop-y-preserved c =
    let other = c.args.other.now in
    let held = c.args.self.now in
    let y : ℕ = c.loop-y.y in
    record {
      above = next_above other y (drop (length c.row-row.result.now) c.loop-y.above) c.row-row.ensures.bytes
          c.copy_from_slice.ensures.after c.row-row.ensures.len;
      makes = makes_more other held c.loop-y.invariant.makes (sym (c.in_default.ensures ∙ c.row-row.ensures.bytes)
          ∙ made_over other y c.loop-y.above c.row-row.result.now (data_of held y) c.loop-y.invariant.above c.row-row.ensures.len
          (decoded_is Delta _ _ _ (rw c.row_data.ensures at c.decode.ensures)));
    }

pub returns : goal.returns
returns c = λ kept is_kept keeps.
    let other = c.args.other.now in
    let height = height_is other c.height-y-end.ensures c.size.ensures.value c.dpi.ensures.value in
    let all : c.loop-y.y ≡ page_height other.size other.dpi = omega (arith, c.loop-y-test.false, c.loop-y.auto.y-end, height) in
    all_beside other is_kept keeps c.requires.size c.requires.dpi (omega (arith, all)) c.loop-y.invariant.makes c.size.ensures.picture
    (omega (arith, all))
