-- A list over another one from a place on.
use Rattle.std.proofs.Common.{◌≡◌, ℕ, ◌+◌, ◌-◌, ◌<◌, ◌≤◌, min, List, [], ◌++◌, length, get_or, take, drop, replicate, sym, ap, ◌∙◌, inl, inr, append_assoc, add-zero, arith}
use Rattle.pcl_rows.proofs.Names.{cases_lt, append-nil, take-append-le, take_at, drop_at, drop-drop, take_all, drop_all, take-append-drop, length-append, length-take, length-drop, take-take, length-replicate, take-replicate, length-take-le, flat_map, once_each, flat_more, overlaid, take-append-add}

-- where the new bytes fit
pub overlaid_within : (old : List ℕ) (place : ℕ) (new : List ℕ) → place + length new ≤ length old
    → overlaid old place new ≡ take place old ++ (new ++ drop (place + length new) old)
overlaid_within old place new fits = take_all _ _ (omega (arith, length-append {A = ℕ}, length-take {A = ℕ}, length-drop {A = ℕ}))

-- where they don't
pub overlaid_past : (old : List ℕ) {place : ℕ} (new : List ℕ) → place ≤ length old → length old ≤ place + length new
    → overlaid old place new ≡ take (length old) (take place old ++ new)
overlaid_past old {place} new within past =
    rw (← append_assoc) (take-append-le (length old) (take place old ++ new) (drop (place + length new) old)
    (omega (arith, length-append (take place old) new, length-take place old)))

pub length-overlaid : (old : List ℕ) {place : ℕ} (new : List ℕ) → place ≤ length old → length (overlaid old place new) ≡ length old
length-overlaid old new within = omega (arith, length-take {A = ℕ}, length-append {A = ℕ}, length-drop {A = ℕ})

pub overlaid-nil : (old : List ℕ) (place : ℕ) → place ≤ length old → overlaid old place [] ≡ old
overlaid-nil old place within = overlaid_within old place [] (omega arith) ∙ rw add-zero (take-append-drop place old)

-- copies that are cut at the end of the list
pub overlaid_copies : (old : List ℕ) {place : ℕ} (copies : ℕ) {fitting : ℕ} (byte : ℕ) → place ≤ length old
    → fitting ≡ min copies (length old - place)
    → overlaid old place (replicate copies byte) ≡ take place old ++ (replicate fitting byte ++ drop (place + fitting) old)
overlaid_copies old {place} copies {fitting} byte within e =
    elim (cases_lt (length old) (place + copies)) [
      | inl past ↦
          let long : length old ≡ length (take place old) + fitting = omega (arith, length-take place old) in
          rw (overlaid_past old (replicate copies byte) within (omega (arith, length-replicate copies byte)), long, take-append-add)
          (rw (take-replicate fitting copies byte (omega arith), drop_all (place + fitting) old (omega arith), append-nil))
      | inr fits ↦
          let all : fitting ≡ copies = omega arith in
          rw (overlaid_within old place (replicate copies byte) (omega (arith, length-replicate copies byte)), length-replicate, all)
    ]

pub copied_once : {copies : ℕ} (bytes : List ℕ) → copies ≡ 1 → flat_map (λ byte. replicate copies byte) bytes ≡ bytes
copied_once bytes once = rw once (once_each bytes)

-- what lies after the new bytes
pub drop-overlaid : (old : List ℕ) {place : ℕ} (new : List ℕ) → place ≤ length old
    → drop (min (length old) (place + length new)) (overlaid old place new) ≡ drop (place + length new) old
drop-overlaid old {place} new within =
    let end : ℕ = min (length old) (place + length new) in
    elim (cases_lt (length old) (place + length new)) [
      | inl past ↦ drop_all end (overlaid old place new) (omega (arith, length-overlaid old new within))
          ∙ sym (drop_all (place + length new) old (omega arith))
      | inr fits ↦ rw (overlaid_within old place new fits, ← append_assoc (take place old))
          (drop_at (take place old ++ new) (drop (place + length new) old) end (simp (length-append, length-take) (omega arith)))
    ]

-- what stands before it, followed by anything and cut at the length
pub take-overlaid : (old : List ℕ) {place : ℕ} (new rest : List ℕ) → place ≤ length old
    → take (length old) (take (min (length old) (place + length new)) (overlaid old place new) ++ rest)
    ≡ take (length old) (take place old ++ (new ++ rest))
take-overlaid old {place} new rest within =
    let front : List ℕ = take place old ++ new in
    elim (cases_lt (length old) (place + length new)) [
      | inl past ↦
          let long : length old ≤ length front = simp (length-append, length-take) (omega arith) in
          let end : min (length old) (place + length new) ≡ length old = omega arith in
          rw (overlaid_past old new within (omega arith), end, ← append_assoc (take place old), take-append-le (length old) front rest long)
          (rw (take-take (length old) (length old) front (omega arith))
          (take_at (take (length old) front) rest (length old) (length-take-le (length old) front long)))
      | inr fits ↦
          let size : length front ≡ min (length old) (place + length new) = simp (length-append, length-take) (omega arith) in
          rw (overlaid_within old place new fits, ← append_assoc (take place old) new (drop (place + length new) old))
          (rw (take_at front (drop (place + length new) old) _ size, append_assoc))
    ]

-- one list after another
pub overlaid-overlaid : (old : List ℕ) {place : ℕ} (first second : List ℕ) → place ≤ length old
    → overlaid (overlaid old place first) (min (length old) (place + length first)) second ≡ overlaid old place (first ++ second)
overlaid-overlaid old {place} first second within =
    let middle : List ℕ = overlaid old place first in
    let end : ℕ = min (length old) (place + length first) in
    let size : place + length first + length second ≡ place + length (first ++ second) = omega (arith, length-append first second) in
    let rest : drop (end + length second) middle ≡ drop (place + length (first ++ second)) old =
    rw (← drop-drop (length second) end middle, drop-overlaid old first within, drop-drop, size) in
    rw (length-overlaid old first within, take-overlaid old first (second ++ drop (end + length second) middle) within, rest)
    (rw (append_assoc first second (drop (place + length (first ++ second)) old)))

-- copies of each of the first bytes
abbrev pub copied : ℕ → ℕ → List ℕ → List ℕ
copied copies count bytes = flat_map (λ byte. replicate copies byte) (take count bytes)

-- one more byte
pub put_more : (old : List ℕ) {row : List ℕ} {start place : ℕ} (copies : ℕ) {i : ℕ} (bytes : List ℕ) {new : List ℕ} {end : ℕ}
    → start ≤ length old → i < length bytes
    → row ≡ overlaid old start (copied copies i bytes) → place ≡ min (length old) (start + length (copied copies i bytes))
    → new ≡ overlaid row place (replicate copies (get_or bytes i 0)) → end ≡ min (length row) (place + copies)
    → (new ≡ overlaid old start (copied copies (i + 1) bytes)) × (end ≡ min (length old) (start + length (copied copies (i + 1) bytes)))
put_more old {start} {place} copies {i} bytes {new} within more row-is place-is new-is end-is =
    let before : List ℕ = copied copies i bytes in
    let last : List ℕ = replicate copies (get_or bytes i 0) in
    let grown : copied copies (i + 1) bytes ≡ before ++ last = flat_more (λ byte. replicate copies byte) bytes 0 more in
    let size = length-overlaid old before within in (
      rw (new-is, row-is, place-is, grown) (overlaid-overlaid old before last within),
      omega (arith, ap length row-is, size, ap length grown, length-append before last, length-replicate copies (get_or bytes i 0)),
    )
