-- Elements of each kind by windows.
use Rattle.std.proofs.Common.{◌≡◌, ℕ, ◌+◌, ◌-◌, ◌<◌, ◌≤◌, List, length, length-take, take, drop, arith}
use Rattle.pcl_check.proofs.Names.{slice_index, ext_get_or, get_or-take, get_or-drop, length-drop, run_part, start_within, row_limit, replacement_bytes, run_len_of, near_bytes, far_bytes, IsNotUndercut, AreGoodRuns, AreGoodLiterals, AreGoodReplacements, AreRunStops, AreStartEnds, ArePlaced, AreAfterStarts}
use Rattle.pcl_check.proofs.PlacesFound.{And}

-- ---- runs

module _ {row : List ℕ} (numbers : List ℕ) {ends : List ℕ} {most place : ℕ} (are : AreRunStops row ends 0) where
  pub runs_by_window : IsNotUndercut numbers numbers ends 2 most place → AreGoodRuns row numbers most place
  runs_by_window kept = λ count byte some few within alike.
      let is = are.runs place (omega arith) (omega arith) in
      let run = run_len_of (slice_index ends place - place) is (omega (arith, is.after)) in
      let le = run.longest count byte (omega (arith, length-drop place row)) alike in
      kept (place + count) (omega arith) (omega arith) (omega (arith, le, is.after))

  pub window_by_runs : place ≤ length row → AreGoodRuns row numbers most place → IsNotUndercut numbers numbers ends 2 most place
  window_by_runs le good = λ stop past few within.
      let inside : place < length row = grind (arith, are.last) in
      let is = are.runs place (omega arith) inside in
      let byte : ℕ = slice_index (drop place row) 0 in
      let run = run_len_of (slice_index ends place - place) is (omega (arith, is.after)) in
      let alike = run_part (drop place row) {len = stop - place} byte (omega arith) run.equal in
      grind (arith, good (stop - place) byte (omega arith) (omega arith) (omega (arith, is.within)) alike)

-- ---- literals

module _ (numbers sums ends : List ℕ) {place : ℕ} (placed : ArePlaced numbers sums) (size : length ends ≡ length numbers)
    (all : (k : ℕ) → k < length ends → slice_index ends k ≡ length ends - 1) where
  pub literals_by_window : IsNotUndercut sums sums ends 1 128 place → AreGoodLiterals numbers place
  literals_by_window kept = λ count some few within.
      let far = kept (place + count) (omega arith) (omega arith) (omega (arith, all place (omega (arith, size)), size)) in
      omega (arith, placed place (omega arith), placed (place + count) within)

  pub window_by_literals : place < length numbers → AreGoodLiterals numbers place → IsNotUndercut sums sums ends 1 128 place
  window_by_literals inside good = λ stop past few within.
      grind (arith, all place, good (stop - place), placed place, placed stop, size)

-- ---- replacements

-- a replacement starts at the first byte that differs, or before it
start_reached : {old row ends : List ℕ} (place offset : ℕ) {len : ℕ} → AreStartEnds old row ends 0 → 0 < len
    → place + offset + len ≤ length row → take offset (drop place row) ≡ take offset (drop place old)
    → place + offset + 1 ≤ slice_index ends place
start_reached {old} {row} {ends} place offset are some within alike =
    let is = are.starts place (omega arith) (omega arith) in
    let reached = λ (before : slice_index ends place < length row).
    start_within old row offset (omega (arith, is.after)) (is.differs before) alike in grind (arith, is.after, reached)

-- what comes before such a start is the same
same_before_start : {old row ends : List ℕ} {place : ℕ} (offset : ℕ) → length old ≡ length row → AreStartEnds old row ends 0
    → place < length row → place + offset + 1 ≤ slice_index ends place → take offset (drop place row) ≡ take offset (drop place old)
same_before_start {old} {row} {place} offset size are inside within =
    let is = are.starts place (omega arith) inside in
    ext_get_or 0 (take offset (drop place row)) (take offset (drop place old)) (grind (arith, length-take, length-drop, is.within))
    (λ k below. grind (arith, length-take, get_or-take, get_or-drop, is.same))

-- by the four counts of bytes of a command
abbrev pub AreKeptStarts : List ℕ → List ℕ → List ℕ → ℕ → Type 0
AreKeptStarts numbers sums ends =
    And (And (IsNotUndercut numbers sums ends 1 31) (IsNotUndercut numbers sums ends 2 286))
    (And (IsNotUndercut numbers sums ends 3 541) (IsNotUndercut numbers sums ends 4 796))

-- what a start costs at least
start_cost : (numbers sums ends : List ℕ) {place : ℕ} (offset : ℕ) → AreKeptStarts numbers sums ends place → offset < row_limit
    → place + offset + 1 ≤ slice_index ends place
    → slice_index numbers place ≤ replacement_bytes offset + slice_index sums (place + offset + 1)
start_cost numbers sums ends {place} offset kept small within =
    let stop : ℕ = place + offset + 1 in
    grind (arith, kept.0.0 stop, kept.0.1 stop, kept.1.0 stop, kept.1.1 stop, near_bytes offset, far_bytes offset)

module _ {old row numbers : List ℕ} (sums : List ℕ) {ends : List ℕ} {place : ℕ} (size : length numbers ≡ length row + 1)
    (are : AreStartEnds old row ends 0) (beyond : AreAfterStarts numbers sums) where
  pub replacements_by_windows : length row ≤ row_limit → AreKeptStarts numbers sums ends place → AreGoodReplacements old row numbers place
  replacements_by_windows small kept = λ offset len some few within alike.
      let start : ℕ = place + offset in
      let least = (beyond start (omega (arith, size))).1.least len (omega arith) (omega (arith, size)) in
      let cost = start_cost numbers sums ends offset kept (omega arith) (start_reached place offset are some within alike) in
      grind (arith, cost, least, get_or-drop start numbers len 0)

  window_by_replacements : {cost most : ℕ} → length old ≡ length row → place ≤ length row
      → ((offset : ℕ) → offset < most → replacement_bytes offset ≤ cost) → AreGoodReplacements old row numbers place
      → IsNotUndercut numbers sums ends cost most place
  window_by_replacements same le spelled good = λ stop past few within.
      let inside : place < length row = grind (arith, are.last) in
      let is = are.starts place (omega arith) inside in
      let offset : ℕ = stop - 1 - place in
      let b = beyond (place + offset) (omega (arith, is.within, size)) in
      let alike = same_before_start offset same are inside (omega arith) in
      let kept = good offset b.0 (omega (arith, b.1.above)) (omega (arith, b.1.below)) (omega (arith, b.1.below, size, is.within)) alike in
      grind (arith, kept, b.1.sum_is, get_or-drop (place + offset) numbers b.0 0, spelled offset)

  pub kept_starts : length old ≡ length row → place ≤ length row → AreGoodReplacements old row numbers place
      → AreKeptStarts numbers sums ends place
  kept_starts same le good =
      let kept = λ (cost most : ℕ) (few : (offset : ℕ) → offset < most → replacement_bytes offset ≤ cost).
      window_by_replacements {cost = cost} {most = most} same le few good in (
        (kept 1 31 (λ k few. grind (arith, near_bytes k)), kept 2 286 (λ k few. grind (arith, near_bytes k, far_bytes k))),
        (kept 3 541 (λ k few. grind (arith, near_bytes k, far_bytes k)), kept 4 796 (λ k few. grind (arith, near_bytes k, far_bytes k))),
      )
