use Rattle.std.proofs.Common.{◌≡◌, ◌∙◌, ℕ, List, [], ◌++◌, ◌∷◌, length, drop, ap, arith}
use Rattle.pcl_same.proofs.Names.{page_height}
use Rattle.pcl_same.proofs.KeptRows.{none_kept, more_kept, height_is, white_above, next_above, made_over}
use Rattle.pcl_same.proofs.kept_bitmap.KeptBitmap.new.Goals as goal

pub loop-y-init : goal.loop-y-init
loop-y-init c = record {
  keeps = none_kept c.args.bitmap.now c.new-data.ensures.items
      (c.in_ok-push.ensures.items ∙ ap (λ (ss : List ℕ). ss ++ 0 ∷ []) c.new-starts.ensures.items);
  above = white_above c.args.bitmap.now;
}

pub loop-y-preserved : goal.loop-y-preserved
loop-y-preserved c =
    let bitmap = c.args.bitmap.now in
    let y : ℕ = c.loop-y.y in
    let written = c.in_ok-append_row.ensures in
    let end : c.in-Ok.end ≡ length c.append_row.new.out.items = omega (arith, c.in-Ok.ensures, c.len.ensures) in
    record {
      keeps = more_kept written.bytes c.loop-y.invariant.keeps written.joined
          (c.in_ok-push-2.ensures.items ∙ ap (λ (n : ℕ). c.loop-y.starts.items ++ n ∷ []) end)
          (rw (← c.row-row.ensures.bytes) (made_over bitmap y c.loop-y.above c.row-row.result.now written.bytes
          c.loop-y.invariant.above c.row-row.ensures.len written.decodes));
      above = next_above bitmap y (drop (length c.row-row.result.now) c.loop-y.above) c.row-row.ensures.bytes
          c.copy_from_slice.ensures.after c.row-row.ensures.len;
    }

pub invariant_of-result : goal.invariant_of-result
invariant_of-result c =
    let all : c.loop-y.y ≡ page_height c.size-size.result c.dpi-dpi.result =
    omega (arith, c.loop-y-test.false, c.loop-y.auto.y-end, c.height-y-end.ensures) in
    record {
      count = omega (arith, all, c.loop-y.invariant.keeps.starts_are);
      pieces = λ y lt. (c.loop-y.invariant.keeps.rows y (omega (arith, all, lt))).0;
    }

pub returns : goal.returns
returns c =
    let bitmap = c.args.bitmap.now in
    let height = height_is bitmap c.height-y-end.ensures c.size-size.ensures.value c.dpi-dpi.ensures.value in
    record {
      size = c.size-size.ensures.value;
      resolution = c.dpi-dpi.ensures.value;
      rows = λ y lt. (c.loop-y.invariant.keeps.rows y (omega (arith, c.loop-y-test.false, height, lt))).1;
    }
