-- The first place from which no more data is needed.
use Rattle.std.proofs.Common.{◌≡◌, ◌≢◌, ℕ, ◌+◌, ◌-◌, ◌<◌, ◌≤◌, List, length, get_or, drop, replicate, sym, ◌∙◌, arith}
use Rattle.pcl_coders.proofs.Names.{ext_get_or, drop-drop, length-drop, length-replicate, get_or-drop, get_or-replicate, get_or_past, IsTrimmedLen, NeedsNoMore, IsFirstEnd}

-- the bytes of two rows from a place on, one by one
pub ends_by : (old row : List ℕ) (place : ℕ) → length old ≡ length row
    → ((k : ℕ) → place ≤ k → k < length row → get_or row k 0 ≡ get_or old k 0) → NeedsNoMore old row place
ends_by old row place size same =
    ext_get_or 0 (drop place row) (drop place old) (omega (arith, length-drop place row, length-drop place old))
    (λ k below. grind (arith, get_or-drop, length-drop place row, same (place + k)))

pub ends_at : (old row : List ℕ) {place : ℕ} (k : ℕ) → NeedsNoMore old row place → place ≤ k → get_or row k 0 ≡ get_or old k 0
ends_at old row {place} k end low = grind (arith, get_or-drop place row (k - place) 0, get_or-drop place old (k - place) 0)

-- after such a place there are only such places
pub ends_on : (old row : List ℕ) {place q : ℕ} → NeedsNoMore old row place → place ≤ q → NeedsNoMore old row q
ends_on old row {place} {q} end low =
    let at : place + (q - place) ≡ q = omega arith in cc (drop-drop (q - place) place row, drop-drop (q - place) place old)

pub first_end_by : {old row : List ℕ} {len : ℕ} → length old ≡ length row → len ≤ length row
    → ((k : ℕ) → len ≤ k → k < length row → get_or row k 0 ≡ get_or old k 0)
    → (0 < len → get_or row (len - 1) 0 ≢ get_or old (len - 1) 0) → IsFirstEnd old row len
first_end_by {old} {row} {len} size within same differs = record {
  within = within;
  ends = ends_by old row len size same;
  first = λ place end. grind (arith, ends_at old row (len - 1) end, differs);
}

-- a byte of a row of white
pub white_byte : (n k : ℕ) → get_or {A = ℕ} (replicate n 0) k 0 ≡ 0
white_byte n k = grind (arith, get_or-replicate, get_or_past, length-replicate)

pub first_end_of_trimmed : {row : List ℕ} {n len : ℕ} → n ≡ length row → IsTrimmedLen row len → IsFirstEnd (replicate n 0) row len
first_end_of_trimmed {n} {len} size is =
    first_end_by (length-replicate {A = ℕ} n 0 ∙ size) is.within (λ k low high. is.zeros k low ∙ sym (white_byte n k))
    (λ some same. is.last some (same ∙ white_byte n (len - 1)))

-- rows that are the same from a place on
pub record AreSameFrom (old row : List ℕ) (len : ℕ) : Type 0 where
  pub within : len ≤ length row
  pub same : (k : ℕ) → len ≤ k → k < length row → get_or row k 0 ≡ get_or old k 0

pub same_past : (old row : List ℕ) → AreSameFrom old row (length row)
same_past old row = grind arith

pub same_before : {old row : List ℕ} {len : ℕ} → AreSameFrom old row len → 0 < len → get_or old (len - 1) 0 ≡ get_or row (len - 1) 0
    → AreSameFrom old row (len - 1)
same_before {old} {row} {len} from some here = grind (arith, from.same)
