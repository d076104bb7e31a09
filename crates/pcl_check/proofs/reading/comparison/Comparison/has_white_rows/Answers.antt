use Rattle.std.proofs.Common.{◌≡◌, ◌≤◌, ◌+◌, ◌-◌, ℕ, suc, List, take, drop, sym, ap, ◌∙◌, true, false, refl, arith}
use Rattle.pcl_check.proofs.Names.{drop-drop, more_copies, one_of_copies, bitmap_rows}
use Rattle.pcl_check.proofs.reading.comparison.Comparison.has_white_rows.Goals as goal

-- the rows from a row on, among those from one before it on
rows_after : (rows : List (List ℕ)) {y row : ℕ} → y ≤ row → drop (row - y) (drop y rows) ≡ drop row rows
rows_after rows {y} {row} le = let same : y + (row - y) ≡ row = omega arith in rw (drop-drop (row - y) y rows, same)

pub returns-then-not-has_white_row : goal.returns-then-not-has_white_row
returns-then-not-has_white_row c =
    let rows : List (List ℕ) = bitmap_rows c.args.self.now.bitmap.now in
    let from = rows_after rows {y = c.args.y} {row = c.loop-row.row} (omega arith) in (
      λ yes. absurd cc,
      λ e.
          let one = one_of_copies (c.loop-row.row - c.args.y) c.args.count (drop c.args.y rows) (omega arith) e in
          let no : false ≡ true = c.if-not-has_white_row.ensures.1 (rw from at one) in absurd cc,
    )

pub loop-row-preserved : goal.loop-row-preserved
loop-row-preserved c =
    let rows : List (List ℕ) = bitmap_rows c.args.self.now.bitmap.now in
    let more : c.loop-row.row + 1 - c.args.y ≡ suc (c.loop-row.row - c.args.y) = omega arith in
    rw more
    (more_copies (c.loop-row.row - c.args.y) (drop c.args.y rows) c.loop-row.invariant
    (c.if-not-has_white_row.ensures.0 refl ∙ ap (take 1) (sym (rows_after rows (omega arith)))))
