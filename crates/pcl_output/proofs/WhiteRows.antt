-- Runs of white rows.
use Rattle.std.proofs.Common.{◌≡◌, ℕ, zero, suc, ◌+◌, ◌<◌, ◌≤◌, List, [], ◌∷◌, length, take, drop, sym, subst, arith, add-one}
use Rattle.pcl_output.proofs.Names.{drop_more, length-drop, get_or-drop, take_all, IsWhite, AreWhite, row_at, AreSkippable, IsWhiteRun}
use Rattle.pcl_output.proofs.Walking.{white_at}

pub white_front : (run count : ℕ) (rows : List (List ℕ)) → AreWhite (take run rows) → count ≤ run → AreWhite (take count rows)
white_front zero (suc count) rows w le = absurd (omega arith)
white_front (suc run) (suc count) (row ∷ rows) w le = (w.0, white_front run count rows w.1 (omega arith))
white_front run count rows w le = tt

-- a row among white ones
pub white_below : (rows : List (List ℕ)) (row : ℕ) {run : ℕ} (place : ℕ) → AreWhite (take run (drop row rows)) → place < run
    → row + run ≤ length rows → IsWhite (row_at rows (row + place))
white_below rows row {run} place white lt within =
    subst IsWhite (get_or-drop row rows place []) (white_at run (drop row rows) place white lt (omega (arith, length-drop row rows)))

-- what can be skipped is within the run
pub skippable_within : {rows : List (List ℕ)} {row run count : ℕ} → IsWhiteRun rows row run → AreSkippable rows row count → count ≤ run
skippable_within {rows} {row} {run} {count} is can =
    grind (arith, can.1, λ (past : run < count). is.longest (omega (arith, can.1)) (white_below rows row run can.2 past can.1))

-- the run of a row that is white, and of one that isn't
pub run_more : {rows : List (List ℕ)} {row run : ℕ} → row < length rows → IsWhiteRun rows (row + 1) run → IsWhite (row_at rows row)
    → IsWhiteRun rows row (run + 1)
run_more {rows} {row} {run} lt is white =
    record {
      within = omega (arith, is.within);
      white = rw (add-one, drop_more rows row [] lt) (white, is.white);
      longest = λ before last. is.longest (omega arith) (grind (arith, last));
    }

pub run_none : {rows : List (List ℕ)} {row : ℕ} → row < length rows → (IsWhite (row_at rows row) → ⊥) → IsWhiteRun rows row 0
run_none lt inked = record { within = omega arith; white = tt; longest = λ before white. inked (grind (arith, white)) }

pub run_end : {rows : List (List ℕ)} {row : ℕ} → row ≡ length rows → IsWhiteRun rows row 0
run_end e = record { within = omega arith; white = tt; longest = λ before white. absurd (omega arith) }

-- a run to the end
pub white_to_end : {rows : List (List ℕ)} {row run : ℕ} → IsWhiteRun rows row run → row + run ≡ length rows → AreWhite (drop row rows)
white_to_end {rows} {row} {run} is e = subst AreWhite (take_all run (drop row rows) (omega (arith, length-drop row rows))) is.white

-- ink after a run
pub ink_left : {rows : List (List ℕ)} {row run : ℕ} → IsWhiteRun rows row run → row + run < length rows → AreWhite (drop row rows) → ⊥
ink_left {rows} {row} {run} is lt white =
    let all : AreWhite (take (run + 1) (drop row rows)) = white_front (length rows) (run + 1) (drop row rows)
    (subst AreWhite (sym (take_all (length rows) (drop row rows) (omega (arith, length-drop row rows)))) white) (omega arith) in
    is.longest lt (white_below rows row run all (omega arith) (omega arith))
