-- Data after the row's end: they have a reading, whatever they are, and nothing of it counts.
use Rattle.std.proofs.Common.{◌≡◌, ℕ, zero, suc, ◌+◌, ◌-◌, ◌*◌, ◌/◌, ◌%◌, ◌<◌, ◌≤◌, Bool, true, false, List, [], ◌∷◌, ◌++◌, length, min, eqb, take, drop, get_or, replicate, refl, sym, inl, inr, arith}
use Rattle.pcl_rows.proofs.Names.{Begins, Itself, copies_of, cases_lt, cases_order, get_or-drop, take_at, drop_at, take_all, Method, Plain, Runs, Packed, Delta, Head, Count, Literal, Skipped, Repeat, Near, Far, head_bytes, new_count, offset_of, IsFront, IsPastSkipped, IsHead, RowFrom}
use Rattle.pcl_rows.proofs.Beginnings.{Begins-one, Begins-cons, front_parts}
use Rattle.pcl_rows.proofs.Readings.{Fills, Fills-none, Fills-cons, rest_shorter, IsTreatedTo}

-- ---- numbers that bytes are

abbrev pub AreBytes : List ℕ → Type 0
AreBytes bytes = (i : ℕ) → get_or bytes i 0 < 256

pub dropped : (n : ℕ) (bytes : List ℕ) → AreBytes bytes → AreBytes (drop n bytes)
dropped n bytes small i = rw (get_or-drop n bytes i 0) (small (n + i))

after_prefix : (before bytes : List ℕ) → AreBytes (before ++ bytes) → AreBytes bytes
after_prefix before bytes small = rw (← drop_at before bytes (length before) refl) (dropped (length before) (before ++ bytes) small)

after_front : {method : Method} {bytes : List ℕ} {offset copies : ℕ} {new rest : List ℕ} (whole : Bool)
    → IsFront method bytes offset copies new rest whole → AreBytes bytes → AreBytes rest
after_front {new = new} {rest} true f small = after_prefix (head_bytes f.head ++ new) rest (rw (← f.parts.joined) small)
after_front false f small = rw f.parts.rest_is (λ i. omega arith)

pub skipped_bytes : {method : Method} {bytes : List ℕ} (left : List ℕ) → IsPastSkipped method bytes left → AreBytes bytes → AreBytes left
skipped_bytes left (count, joined, packed) small = after_prefix (replicate count 128) left (rw (← joined) small)

pub rest_bytes : {method : Method} {bytes : List ℕ} {offset copies : ℕ} {new rest : List ℕ} {whole : Bool} (left : List ℕ)
    → IsFront method bytes offset copies new rest whole → IsPastSkipped method rest left → AreBytes bytes → AreBytes left
rest_bytes {whole = whole} left front past small = skipped_bytes left past (after_front whole front small)

-- ---- readings

-- bytes 255 to the end, or up to one that is less
further_begins : (bytes : List ℕ) → AreBytes bytes → (full last : ℕ) × (last < 255) × Begins bytes (replicate full 255 ++ last ∷ [])
further_begins [] small = (0, 0, omega arith, (0 ∷ [], refl))
further_begins (byte ∷ bytes) small =
    elim (cases_lt byte 255) [
      | inl less ↦ (0, byte, less, ([], refl))
      | inr full ↦
          let is : byte ≡ 255 = omega (arith, small 0) in
          let more = further_begins bytes (dropped 1 (byte ∷ bytes) small) in (suc more.0, more.1, more.2, (more.3.0, cc (is, more.3.1)))
    ]

-- the head that data begin with, or end within
has_head : (method : Method) (byte : ℕ) (bytes : List ℕ) → AreBytes (byte ∷ bytes)
    → (h : Head) × IsHead method h × Begins (byte ∷ bytes) (head_bytes h)
has_head Plain byte bytes small = (Itself, record { method_is = refl; in_range = tt }, ([], refl))
has_head Runs byte bytes small = (Count byte, record { method_is = refl; in_range = small 0 }, ([], refl))
has_head Packed byte bytes small =
    elim (cases_order byte 128) [
      | inl skipped ↦ (Skipped, record { method_is = refl; in_range = tt }, Begins-one (byte ∷ bytes) 128 (omega arith) (sym skipped))
      | inr (inl literal) ↦ (Literal byte, record { method_is = refl; in_range = literal }, ([], refl))
      | inr (inr repeat) ↦ (Repeat byte, record { method_is = refl; in_range = (repeat, small 0) }, ([], refl))
    ]
has_head Delta byte bytes small =
    elim (cases_lt (byte % 32) 31) [
      | inl near ↦ (
        Near (byte / 32) (byte % 32),
        record { method_is = refl; in_range = (omega (arith, small 0), near) },
        Begins-one (byte ∷ bytes) (32 * (byte / 32) + byte % 32) (omega arith) (omega arith),
      )
      | inr far ↦ let more = further_begins bytes (dropped 1 (byte ∷ bytes) small) in (
        Far (byte / 32) more.0 more.1,
        record { method_is = refl; in_range = (omega (arith, small 0), more.2) },
        Begins-cons (byte ∷ bytes) (replicate more.0 255 ++ more.1 ∷ []) (32 * (byte / 32) + 31) (omega arith) (omega arith)
            more.3,
      )
    ]

-- what some reading makes of a row
has_reading : (method : Method) (most : ℕ) (bytes old : List ℕ) → length bytes ≤ most → AreBytes bytes
    → (made : List ℕ) × Fills method bytes old made
has_reading method most [] old few small = (old, Fills-none method old)
has_reading method zero (byte ∷ bytes) old few small = absurd (omega arith)
has_reading method (suc most) (byte ∷ bytes) old few small =
    let h = has_head method byte bytes small in
    let room : ℕ = length (byte ∷ bytes) - length (head_bytes h.0) in
    let count : ℕ = min (new_count h.0) room in
    let after : List ℕ = drop (length (head_bytes h.0)) (byte ∷ bytes) in
    let parts = front_parts (byte ∷ bytes) h.0 room count (omega arith) h.2 refl refl (eqb count (new_count h.0)) refl in
    let front : IsFront method (byte ∷ bytes) (offset_of h.0) (copies_of h.0) (take count after) (drop count after)
    (eqb count (new_count h.0)) = record { head = h.0; head_is = h.1; offset_is = refl; copies_is = refl; parts = parts } in
    let shorter = rest_shorter (omega arith) front in
    let rest = has_reading method most (drop count after) _ (omega arith) (after_front _ front small) in
    (_, Fills-cons (take count after) old _ h.1 parts rest.1)

-- ---- the row's end

-- where a row is treated to its end, the data that are left don't matter
pub treated_full : {method : Method} {bytes old rest row : List ℕ} (place : ℕ) → length row ≡ length old → length row ≤ place
    → AreBytes rest → IsTreatedTo method bytes old rest row place → RowFrom method bytes old row
treated_full {method} {old = old} {rest = rest} {row = row} place size full small so_far =
    let made = has_reading method (length rest) rest (drop place row) (omega arith) small in
    let r = so_far made.0 made.1 in
    let end = rw (take_all place row full) at r.2 in
    (r.1.whole, r.1.cut, r.1.shown, r.1.parts, cc (end, take_at row made.0 (length old) size, r.1.row_is))
