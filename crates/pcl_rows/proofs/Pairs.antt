-- Data of method 1, read pair by pair.
use Rattle.std.proofs.Common.{◌≡◌, ℕ, ◌+◌, ◌*◌, ◌/◌, ◌<◌, ◌≤◌, min, true, false, List, [], ◌∷◌, length, drop, replicate, refl, sym, append-nil, arith, lit<}
use Rattle.pcl_rows.proofs.Names.{slice_index, drop_more, length-drop, length-replicate, get_or-drop, Runs, Count, RowFrom, IsFront, overlaid}
use Rattle.pcl_rows.proofs.Overlays.{overlaid-nil}
use Rattle.pcl_rows.proofs.Readings.{IsTreatedTo, treated_more, treated_all}

-- a count and its byte
pair_front : {count byte : ℕ} {rest : List ℕ} → count < 256 → IsFront Runs (count ∷ byte ∷ rest) 0 (count + 1) (byte ∷ []) rest true
pair_front {count} small = record {
  head = Count count;
  head_is = record { method_is = refl; in_range = small };
  offset_is = refl;
  copies_is = refl;
  parts = record { complete = refl; joined = refl };
}

-- a count without its byte
lone_front : {count : ℕ} → count < 256 → IsFront Runs (count ∷ []) 0 (count + 1) [] [] false
lone_front {count} small = record {
  head = Count count;
  head_is = record { method_is = refl; in_range = small };
  offset_is = refl;
  copies_is = refl;
  parts = record { padding = 0 ∷ []; missing = 0 ∷ []; complete = refl; lacking = refl; lacks = lit< tt; new_is = refl; rest_is = refl };
}

-- one more pair
pub pair_more : {bytes old : List ℕ} (row : List ℕ) {pair place count : ℕ} {row' : List ℕ} {place' : ℕ} → length row ≡ length old
    → place ≤ length row → pair < length bytes / 2 → slice_index bytes (2 * pair) < 256 → count ≡ slice_index bytes (2 * pair)
    → row' ≡ overlaid row place (replicate (count + 1) (slice_index bytes (2 * pair + 1))) → place' ≡ min (length row) (place + (count + 1))
    → IsTreatedTo Runs bytes old (drop (2 * pair) bytes) row place → IsTreatedTo Runs bytes old (drop (2 * (pair + 1)) bytes) row' place'
pair_more {bytes} {old} row {pair} {place} {count} size within lt small count-is row-is place-is so_far =
    let at : ℕ = 2 * pair in
    let byte : ℕ = slice_index bytes (at + 1) in
    let after : List ℕ = drop (2 * (pair + 1)) bytes in
    let next : at + 1 + 1 ≡ 2 * (pair + 1) = omega arith in
    let two : drop at bytes ≡ count ∷ byte ∷ after =
    cc (drop_more bytes at 0 (omega arith), drop_more bytes (at + 1) 0 (omega arith), next, count-is) in
    treated_more row {start = place} size within (omega arith) (pair_front (omega arith))
    (rw append-nil row-is) (rw (append-nil, length-replicate) place-is) (rw two at so_far)

-- what is left after all pairs
rest_all : {bytes old : List ℕ} (rest : List ℕ) {row : List ℕ} {place : ℕ} → length rest ≤ 1 → (0 < length rest → slice_index rest 0 < 256)
    → length row ≡ length old → place ≤ length row → IsTreatedTo Runs bytes old rest row place → RowFrom Runs bytes old row
rest_all [] {place = place} few small size within so_far = treated_all place size so_far
rest_all (count ∷ []) {row} {place} few small size within so_far =
    treated_all place size (treated_more row {start = place} size within (omega arith) (lone_front (small (lit< tt)))
    (sym (overlaid-nil row place within)) (omega arith) so_far)
rest_all (count ∷ byte ∷ rest) few small size within so_far = absurd (omega arith)

pub pairs_all : {bytes old row : List ℕ} {pair place : ℕ} → ((i : ℕ) → slice_index bytes i < 256) → length bytes / 2 ≤ pair
    → length row ≡ length old → place ≤ length row → IsTreatedTo Runs bytes old (drop (2 * pair) bytes) row place
    → RowFrom Runs bytes old row
pairs_all {bytes} {pair} small end size within so_far =
    let at : ℕ = 2 * pair in
    rest_all (drop at bytes) (omega (arith, length-drop at bytes))
    (λ some. omega (arith, small at, get_or-drop at bytes 0 0)) size within so_far
