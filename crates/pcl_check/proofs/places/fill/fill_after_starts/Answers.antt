use Rattle.std.proofs.Common.{◌≡◌, ℕ, ◌+◌, ◌-◌, ◌<◌, min, List, length, drop, set, sym, below_more, arith}
use Rattle.pcl_check.proofs.Names.{slice_index, get_or-set_same, get_or-set_other, length-drop, take_rest, IsLeastLen}
use Rattle.pcl_check.proofs.places.fill.fill_after_starts.Goals as goal

abbrev IsAfterStart : List ℕ → List ℕ → ℕ → Type 0
IsAfterStart numbers sums start =
    (len : ℕ) × IsLeastLen (drop start numbers) 1 (min (length numbers - 1 - start) 8) 0 1 len (slice_index sums (start + 1))

after_more : {numbers : List ℕ} (sums : List ℕ) {start least : ℕ} → start + 1 < length sums
    → ((k : ℕ) → k < start → IsAfterStart numbers sums k)
    → (len : ℕ) × IsLeastLen (drop start numbers) 1 (min (length (drop start numbers) - 1) 8) 0 1 len least
    → (k : ℕ) → k < start + 1 → IsAfterStart numbers (set sums (start + 1) least) k
after_more {numbers} sums {start} {least} inside before here =
    let count : min (length (drop start numbers) - 1) 8 ≡ min (length numbers - 1 - start) 8 = omega (arith, length-drop start numbers) in
    below_more (IsAfterStart numbers (set sums (start + 1) least)) start
    (λ k less. rw (get_or-set_other sums (start + 1) (k + 1) least 0 (λ e. absurd (omega arith))) (before k less))
    (here.0, rw (get_or-set_same sums (start + 1) least 0 inside, sym count) here.1)

pub loop-start-preserved : goal.loop-start-preserved
loop-start-preserved c =
    let here = rw (take_rest c.args.numbers.now c.loop-start.start) at c.least_after.ensures in
    after_more c.loop-start.sums
    (omega (arith, c.loop-start.auto.sums, c.requires.size, c.loop-start-test.true)) c.loop-start.invariant here
