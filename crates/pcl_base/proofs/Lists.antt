-- Facts of lists that the crates share: fronts and what is after them, copies, and bytes that are given more than once.
use Rattle.std.proofs.Common.{◌≡◌, ◌≢◌, ℕ, zero, suc, ◌+◌, ◌-◌, ◌*◌, ◌<◌, ◌≤◌, List, [], ◌∷◌, ◌++◌, length, take, drop, replicate, get_or, refl, sym, ap, ◌∙◌, arith, add-one}
use Rattle.pcl_base.proofs.Names.{slice_index, flat_map, All, ext_get_or, get_or-take, get_or-drop, get_or-replicate, take_at, take_more, take-take, take-replicate, drop-drop, drop-take, length-append, length-take, length-replicate, append-nil, get_or_past, take-append-le, take_all, drop_at, replicate-append-replicate, flat_map-append, take-add, one-add}

-- ---- fronts

-- two fronts of one length, of one list, are one, and so is what stands after them
pub same_fronts : (a b : List ℕ) {x y : List ℕ} → length a ≡ length b → a ++ x ≡ b ++ y → (a ≡ b) × (x ≡ y)
same_fronts [] [] l e = (refl, e)
same_fronts (c ∷ a) (d ∷ b) {x} {y} l e =
    let r : (a ≡ b) × (x ≡ y) = same_fronts a b (cc) (cc) in
    let i : c ≡ d = cc in (cc (r.0), r.1)
same_fronts _ _ l e = absurd cc

pub joined_front : {old new : List ℕ} (more : List ℕ) → new ≡ old ++ more → take (length old) new ≡ old
joined_front {old} more e = cc (take_at old more (length old) refl)

-- what stays of a list stays of its front
pub front_stays : {before now : List ℕ} (now' more : List ℕ) → now ≡ before ++ more → take (length now) now' ≡ now
    → take (length before) now' ≡ before
front_stays {before} {now} now' more joined front =
    let short : length before ≤ length now = omega (arith, ap length joined, length-append before more) in
    cc (take-take (length before) (length now) now' short, take_at before more (length before) refl)

pub full_front : (n : ℕ) (said : List ℕ) (byte : ℕ) → length (take n said) ≡ n → take n said ≡ take n (said ++ byte ∷ [])
full_front n said byte e = sym (take-append-le n said (byte ∷ []) (omega (arith, length-take n said)))

pub longer_front : (n : ℕ) (said : List ℕ) (byte : ℕ) → length (take n said) < n → take n said ++ byte ∷ [] ≡ take n (said ++ byte ∷ [])
longer_front n said byte h =
    let short : length said < n = omega (arith, length-take n said) in
    cc (take_all n said (omega arith), take_all n (said ++ byte ∷ []) (simp length-append (omega arith)))

-- a prefix of two parts, and its parts
pub parts_of : (a : List (List ℕ)) {b : List (List ℕ)} (all : List (List ℕ)) → a ++ b ≡ take (length (a ++ b)) all
    → (a ≡ take (length a) all) × (b ≡ take (length b) (drop (length a) all))
parts_of a {b} all e = (
  cc (take_at a b (length a) refl, take-take (length a) (length (a ++ b)) all (simp length-append (omega arith))),
  cc (drop_at a b (length a) refl, drop-take (length a) (length b) all, length-append a b),
)

pub of_parts : (a : List (List ℕ)) {b : List (List ℕ)} (all : List (List ℕ)) → a ≡ take (length a) all
    → b ≡ take (length b) (drop (length a) all) → a ++ b ≡ take (length (a ++ b)) all
of_parts a {b} all p q = cc (length-append a b, take-add (length a) (length b) all)

-- ---- places of two lists that are alike for a while

pub alike_at : (old row : List ℕ) (place : ℕ) {count : ℕ} (k : ℕ) → take count (drop place row) ≡ take count (drop place old) → k < count
    → slice_index row (place + k) ≡ slice_index old (place + k)
alike_at old row place {count} k alike lt =
    let at = get_or-drop place row k 0 in
    cc (at, get_or-drop place old k 0, get_or-take count (drop place row) k 0 lt, get_or-take count (drop place old) k 0 lt)

pub rest_of_alike : (old row : List ℕ) (place count : ℕ) → take (1 + count) (drop place row) ≡ take (1 + count) (drop place old)
    → take count (drop (place + 1) row) ≡ take count (drop (place + 1) old)
rest_of_alike old row place count alike =
    cc (drop-drop 1 place row, drop-drop 1 place old, drop-take 1 count (drop place row), drop-take 1 count (drop place old))

pub start_within : (old row : List ℕ) {place start : ℕ} (offset : ℕ) → place ≤ start → slice_index old start ≢ slice_index row start
    → take offset (drop place row) ≡ take offset (drop place old) → place + offset ≤ start
start_within old row {place} {start} offset order differs alike = grind (arith, alike_at old row place (start - place) alike)

-- ---- copies of one element

pub more_copies : (n : ℕ) {row : List ℕ} (all : List (List ℕ)) → replicate n row ≡ take n all → row ∷ [] ≡ take 1 (drop n all)
    → replicate (suc n) row ≡ take (suc n) all
more_copies n {row} all e one = cc (add-one n, take-add n 1 all, replicate-append-replicate n 1 row)

pub one_of_copies : (n count : ℕ) {row : List ℕ} (all : List (List ℕ)) → n < count → replicate count row ≡ take count all
    → row ∷ [] ≡ take 1 (drop n all)
one_of_copies n zero all lt e = absurd (omega arith)
one_of_copies zero (suc count) {row} (first ∷ all) lt e = let head : row ≡ first = cc in cc
one_of_copies (suc n) (suc count) {row} (first ∷ all) lt e = one_of_copies n count all (omega arith) (cc)
one_of_copies _ _ _ lt e = absurd cc

pub all_zeros : (row : List ℕ) → All (λ byte. byte ≡ 0) row → row ≡ replicate (length row) 0
all_zeros row h = ext_get_or 0 row (replicate (length row) 0) (sym (length-replicate (length row) 0))
    (λ k below. h k 0 below ∙ sym (get_or-replicate (length row) k 0 0 below))

pub run_part : (wanted : List ℕ) {run len : ℕ} (byte : ℕ) → len ≤ run → take run wanted ≡ replicate run byte
    → take len wanted ≡ replicate len byte
run_part wanted {run} {len} byte part all = sym (take-take len run wanted part) ∙ ap (take len) all ∙ take-replicate len run byte part

pub run_byte : (row : List ℕ) (place count byte k : ℕ) → take count (drop place row) ≡ replicate count byte → k < count
    → slice_index row (place + k) ≡ byte
run_byte row place count byte k alike lt =
    cc (get_or-drop place row k 0, get_or-take count (drop place row) k 0 lt, get_or-replicate count k byte 0 lt)

pub rest_of_run : (row : List ℕ) (place count : ℕ) {byte : ℕ} → take (suc count) (drop place row) ≡ replicate (suc count) byte
    → take count (drop (place + 1) row) ≡ replicate count byte
rest_of_run row place count alike = cc (drop-drop 1 place row, drop-take 1 count (drop place row), one-add count, ap (drop 1) alike)

pub first_of_run : (wanted : List ℕ) {count : ℕ} (byte : ℕ) → 0 < count → take count wanted ≡ replicate count byte
    → take count wanted ≡ replicate count (slice_index wanted 0)
first_of_run wanted {count} byte some alike = cc (get_or-replicate count 0 byte 0 some, get_or-take count wanted 0 0 some)

pub run_from_rest : (wanted : List ℕ) {len : ℕ} (byte : ℕ) → 1 ≤ len → take (len + 1) wanted ≡ replicate (len + 1) byte
    → take len (drop 1 wanted) ≡ replicate len (slice_index (drop 1 wanted) 0)
run_from_rest wanted {len} byte some alike = first_of_run (drop 1 wanted) byte some (rest_of_run wanted 0 len (rw add-one at alike))

-- ---- each byte given so often

pub once_each : (bytes : List ℕ) → flat_map (λ byte. replicate 1 byte) bytes ≡ bytes
once_each [] = refl
once_each (byte ∷ bytes) = ap (λ (rest : List ℕ). byte ∷ rest) (once_each bytes)

pub length-copied : (copies : ℕ) (bytes : List ℕ) → length (flat_map (λ byte. replicate copies byte) bytes) ≡ copies * length bytes
length-copied copies [] = omega arith
length-copied copies (b ∷ bytes) = rw (length-append, length-copied copies bytes, length-replicate) (omega arith)

-- what each of some elements gives, and what the next one gives
pub flat_more : {X : Type 0} (f : X → List ℕ) (xs : List X) {i : ℕ} (d : X) → i < length xs
    → flat_map f (take (i + 1) xs) ≡ flat_map f (take i xs) ++ f (get_or xs i d)
flat_more f xs {i} d lt = rw (take_more xs i d lt, flat_map-append, append-nil)

-- ---- single bytes and numbers

pub first_byte : (wanted : List ℕ) → 0 < length wanted → take 1 wanted ≡ slice_index wanted 0 ∷ []
first_byte [] some = absurd (omega arith)
first_byte (b ∷ wanted) some = refl

pub single_byte : (bytes : List ℕ) → length bytes ≡ 1 → (byte : ℕ) × (bytes ≡ byte ∷ [])
single_byte (b ∷ []) e = (b, refl)
single_byte _ e = absurd (omega arith)

-- numbers that never grow from one place to the next never grow
pub falls_on : (numbers : List ℕ) → ((k : ℕ) → k + 1 < length numbers → slice_index numbers (k + 1) ≤ slice_index numbers k)
    → (place gap : ℕ) → slice_index numbers (place + gap) ≤ slice_index numbers place
falls_on numbers falls place zero = grind arith
falls_on numbers falls place (suc gap) =
    grind (arith, falls_on numbers falls place gap, falls (place + gap), get_or_past numbers (place + gap + 1) 0)
