use Rattle.std.proofs.Math.Nat.{div-one}
use Rattle.std.proofs.Common.{◌≡◌, ℕ, ◌*◌, ◌+◌, ◌-◌, ◌/◌, List, length, take, length-take, drop, ap, ◌∙◌, arith}
use Rattle.pcl_bitmap.proofs.Names.{take_rest, dot_of_row}
use Rattle.pcl_bitmap.proofs.Inked.{none_inked, row_inked, run_or}
use Rattle.pcl_bitmap.proofs.Cut.{HasLine, same_bits_above}
use Rattle.pcl_bitmap.proofs.Runs.{take_dots, front_dots}
use Rattle.pcl_bitmap.proofs.patterns.or_pattern.Goals as goal
use Rattle.pcl_bitmap.proofs.patterns.or_pattern.Goals.{then-row-area, else-row-area+else-line-clip-eq0}

pub loop-row-init : goal.loop-row-init
loop-row-init c = record {
  rows = none_inked c.requires.high (λ i. omega (arith, c.type_inv.page i));
  held = λ line at_row below. absurd (omega arith);
}

pub loop-row-preserved : goal.loop-row-preserved
loop-row-preserved c =
    let a = c.args in
    let row = c.loop-row.row in
    let w = c.args.clip in
    let count = c.div_ceil-count.result in
    let line = row - a.area.y + w.y in
    let dots : List ℕ = c.if-row-area.dots in
    let held : HasLine dots a.rows.now line w.x w.scale w.row_bytes count =
    elim c.if-row-area.branch [
      | then-row-area t ↦ λ k inside.
          let fits : length (take count c.loop-row.dots) ≡ count = omega (arith, length-take count c.loop-row.dots) in
          rw (t.dots-is, front_dots c.loop-row.dots t.write_dots.new.target {n = count} (omega arith) inside)
          (t.write_dots.ensures k (omega arith)
          ∙ ap (λ (d : List ℕ). dot_of_row d ((w.x + k) / w.scale)) (take_rest a.rows.now (line / w.scale * w.row_bytes)))
      | else-row-area+else-line-clip-eq0 t ↦ λ k inside.
          rw (t.dots-is, ← same_bits_above line w.scale (omega arith) t.if-line-clip-eq0.false)
          (c.loop-row.invariant.held (line - 1) (omega arith) (omega arith) k inside)
    ] in
    record {
      rows = row_inked c.or_bits.new.target c.loop-row.invariant.rows (omega arith) c.requires.wide (omega arith) c.or_bits.ensures.in_bytes
          (λ px py within.
          let place = 8 * (py * a.row_bytes) + px in
          let bits = drop ((py - a.area.y + w.y) / w.scale * w.row_bytes) a.rows.now in
          c.or_bits.ensures.bits place
          ∙ run_or (take count dots) a.row_bytes a.area.x a.area.width row px py (dot_of_row bits ((w.x + (px - a.area.x)) / w.scale))
          (dot_of_row c.loop-row.page place) c.requires.wide within
          (λ level inside. take_dots count dots (omega arith) ∙ rw level (held (px - a.area.x) (omega arith))));
      held = λ next at_row below. let same : next ≡ row - a.area.y + w.y = omega arith in rw same held;
    }

pub or_whole_rows-requires-clause-bits : goal.or_whole_rows-requires-clause-bits
or_whole_rows-requires-clause-bits c j below =
    let one : c.args.clip.scale ≡ 1 = omega arith in rw (div-one (j + c.args.clip.y)) at (rw one at (c.requires.bits j below))

pub returns-then-clip-eq0-clause-dots : goal.returns-then-clip-eq0-clause-dots
returns-then-clip-eq0-clause-dots c px py within =
    let one : c.args.clip.scale ≡ 1 = omega arith in
    let left : c.args.clip.x ≡ 0 = omega arith in
    let column : (0 + (px - c.args.area.x)) / 1 ≡ px - c.args.area.x = omega arith in
    rw (one, left, div-one (py - c.args.area.y + c.args.clip.y), column) (c.or_whole_rows.ensures.dots px py within)
