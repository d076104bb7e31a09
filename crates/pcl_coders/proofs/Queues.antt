-- The queue of a window.
use Rattle.std.proofs.Common.{◌≡◌, ◌≢◌, ℕ, ◌+◌, ◌-◌, ◌<◌, ◌≤◌, List, ◌⊎◌, length, get_or, set, take, drop, ap, ◌∙◌, inl, inr, arith}
use Rattle.pcl_coders.proofs.Names.{slice_index, length-set, cases_lt, length-drop, length-take-le, get_or-drop, get_or-take, get_or-set_same, get_or-set_other, IsLeastOf, IsQueue}

-- the numbers in a window
abbrev pub in_window : List ℕ → ℕ → ℕ → List ℕ
in_window numbers taken put = drop taken (take put numbers)

pub length-in_window : (numbers : List ℕ) (taken put : ℕ) → put ≤ length numbers → length (in_window numbers taken put) ≡ put - taken
length-in_window numbers taken put within =
    length-drop taken (take put numbers) ∙ ap (λ (n : ℕ). n - taken) (length-take-le put numbers within)

pub number_in_window : (numbers : List ℕ) (taken put k : ℕ) → taken + k < put
    → get_or (in_window numbers taken put) k 0 ≡ get_or numbers (taken + k) 0
number_in_window numbers taken put k inside = get_or-drop taken (take put numbers) k 0 ∙ get_or-take put numbers (taken + k) 0 inside

-- the first place of the queue has the least number
pub queue_least : {numbers places : List ℕ} {taken put first stop : ℕ} → IsQueue numbers places taken put first stop → taken < put
    → (first < stop) × IsLeastOf (in_window numbers taken put) (slice_index numbers (slice_index places first))
queue_least {numbers} {places} {taken} {put} {first} {stop} q some =
    let c = q.covers taken (omega arith) some in
    let size = length-in_window numbers taken put q.put_within in (
      omega (arith, c.1, c.2),
      record {
        among = (slice_index places first - taken, grind (arith, q.inside first, c), grind (arith, number_in_window, q.inside first, c));
        below = λ k within.
            let d = q.covers (taken + k) (omega arith) (omega arith) in
            grind (arith, number_in_window numbers taken put k, d, q.grow first d.0);
      },
    )

-- the number that was put in first is taken out
pub queue_take : {numbers places : List ℕ} {taken put first first' stop : ℕ} → IsQueue numbers places taken put first stop → taken < put
    → (slice_index places first ≡ taken → first' ≡ first + 1) → (slice_index places first ≢ taken → first' ≡ first)
    → IsQueue numbers places (taken + 1) put first' stop
queue_take {places} {taken} {first} {first'} {stop} q some out stays =
    let here = q.inside first (omega arith) (queue_least q some).0 in
    let next : (first' ≡ first) × (taken < slice_index places first) ⊎ (first' ≡ first + 1) × (slice_index places first ≡ taken) =
    grind arith in
    record {
      same_size = q.same_size;
      put_within = q.put_within;
      stop_within = q.stop_within;
      taken_within = omega arith;
      order = grind arith;
      inside = λ j low high. grind (arith, q.inside j, q.grow first j);
      grow = λ i j low order high. q.grow i j (grind arith) order high;
      covers = λ k low high. let d = q.covers k (omega arith) high in (d.0, grind (arith, d), d.2, d.3, d.4);
    }

-- a number is put in, and the later places of the queue give way to it
pub queue_put : {numbers places : List ℕ} {taken put first stop end number : ℕ} → IsQueue numbers places taken put first stop
    → put < length numbers → first ≤ end → end ≤ stop → ((k : ℕ) → end ≤ k → k < stop → number ≤ slice_index numbers (slice_index places k))
    → (first < end → slice_index numbers (slice_index places (end - 1)) < number)
    → IsQueue (set numbers put number) (set places end put) taken (put + 1) first (end + 1)
queue_put {numbers} {places} {put} {first} {end} {number} q room low-end high-end above last =
    let new_place : slice_index (set places end put) end ≡ put = grind (arith, get_or-set_same, q.same_size, q.stop_within) in
    let old_place : (j : ℕ) → j < end → slice_index (set places end put) j ≡ slice_index places j =
    λ j before. grind (arith, get_or-set_other) in
    let new_number : slice_index (set numbers put number) put ≡ number = get_or-set_same numbers put number 0 room in
    let old_number : (k : ℕ) → k < put → slice_index (set numbers put number) k ≡ slice_index numbers k =
    λ k before. grind (arith, get_or-set_other) in
    let lower : (i : ℕ) → first ≤ i → i < end → slice_index numbers (slice_index places i) ≤ number =
    λ i low high. grind (arith, q.grow i (end - 1), last) in
    record {
      same_size = grind (arith, length-set, q.same_size);
      put_within = grind (arith, length-set);
      taken_within = grind arith;
      order = grind arith;
      stop_within = grind arith;
      inside = λ j low high. grind (arith, q.inside j, old_place j, new_place);
      grow = λ i j low order high. grind (arith, q.grow i j, q.inside i, q.inside j, old_place, new_place, lower i, old_number, new_number);
      covers = λ k low high.
          elim (cases_lt k put) [
            | inr here ↦ (end, low-end, omega arith, omega (arith, new_place), grind (arith, new_place, new_number))
            | inl before ↦
                let d = q.covers k low before in
                let old = old_number k before in
                elim (cases_lt d.0 end) [
                  | inl stays ↦ (d.0, d.1, omega arith, omega (arith, d.3, old_place d.0 stays), grind (arith, d, old_number, q.inside d.0))
                  | inr gone ↦ (end, low-end, omega arith, omega (arith, new_place), grind (arith, d, above d.0, new_place, new_number))
                ]
          ];
    }
