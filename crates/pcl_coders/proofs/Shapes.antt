-- What the elements of each method give, and how many bytes they have.
use Rattle.std.proofs.Common.{◌≡◌, ℕ, ◌+◌, ◌-◌, ◌*◌, ◌/◌, ◌%◌, ◌<◌, ◌≤◌, ◌⊎◌, List, [], ◌∷◌, ◌++◌, length, replicate, refl, ap, ◌∙◌, inl, inr, arith}
use Rattle.pcl_coders.proofs.Names.{flat_map, nat_tests, append-nil, length-append, length-replicate, once_each, single_byte, Plain, Runs, Packed, Delta, Head, Itself, Count, Literal, Skipped, Repeat, Near, Far, method_of, IsInRange, head_bytes, new_count, offset_of, copies_of, given_by, replacement, replacement_bytes}

-- one byte that is repeated
pub given_copies : (copies : ℕ) {bytes : List ℕ} {byte : ℕ} → bytes ≡ byte ∷ []
    → flat_map (λ b. replicate copies b) bytes ≡ replicate copies byte
given_copies copies {byte} e = ap (flat_map (λ b. replicate copies b)) e ∙ append-nil (replicate copies byte)

-- copies of one byte
pub record IsRepeat (h : Head) (bytes : List ℕ) (least most : ℕ) : Type 0 where
  pub count : ℕ
  pub byte : ℕ
  pub above : least ≤ count
  pub below : count ≤ most
  pub given_is : given_by h bytes ≡ replicate count byte
  pub bytes_are : length (head_bytes h ++ bytes) ≡ 2

-- bytes that stand in the data
pub record IsLiteral (h : Head) (bytes : List ℕ) (most head : ℕ) : Type 0 where
  pub above : 1 ≤ length (given_by h bytes)
  pub below : length (given_by h bytes) ≤ most
  pub bytes_are : length (head_bytes h ++ bytes) ≡ head + length (given_by h bytes)

-- copies of the one byte after a head of one byte
repeats : (h : Head) {bytes : List ℕ} {least most : ℕ} → length (head_bytes h) ≡ 1 → length bytes ≡ 1 → least ≤ copies_of h
    → copies_of h ≤ most → IsRepeat h bytes least most
repeats h {bytes} one alone low high =
    let b = single_byte bytes alone in
    let size = length-append (head_bytes h) bytes in
    record { count = copies_of h; byte = b.0; above = low; below = high; given_is = given_copies _ b.1; bytes_are = omega arith }

pub plain_shape : (h : Head) {bytes : List ℕ} → method_of h ≡ Plain → length bytes ≡ new_count h → (offset_of h ≡ 0) × IsLiteral h bytes 1 0
plain_shape Itself {bytes} m c = let l = ap length (once_each bytes) in (refl, grind arith)
plain_shape h m c = absurd cc

pub runs_shape : (h : Head) {bytes : List ℕ} → method_of h ≡ Runs → IsInRange h → length bytes ≡ new_count h
    → (offset_of h ≡ 0) × IsRepeat h bytes 1 256
runs_shape (Count n) m r c = (refl, repeats (Count n) refl c (omega arith) (omega arith))
runs_shape h m r c = absurd cc

pub packed_shape : (h : Head) (bytes : List ℕ) → method_of h ≡ Packed → IsInRange h → length bytes ≡ new_count h
    → 0 < offset_of h + length (given_by h bytes) → (offset_of h ≡ 0) × (IsRepeat h bytes 2 128 ⊎ IsLiteral h bytes 128 1)
packed_shape (Literal n) bytes m r c some = let l = ap length (once_each bytes) in (refl, inr (grind arith))
packed_shape (Repeat n) bytes m r c some = (refl, inl (repeats (Repeat n) refl c (omega (arith, r.1)) (omega (arith, r.0))))
packed_shape Skipped [] m r c some = absurd (omega arith)
packed_shape Skipped (b ∷ bytes) m r c some = absurd (omega arith)
packed_shape h bytes m r c some = absurd cc

pub near_bytes : (offset : ℕ) → offset < 31 → replacement_bytes offset ≡ 1
near_bytes offset below = grind (arith, nat_tests)

pub far_bytes : (offset : ℕ) → 31 ≤ offset → replacement_bytes offset ≡ 2 + (offset - 31) / 255
far_bytes offset above = grind (arith, nat_tests)

pub delta_shape : (h : Head) {bytes : List ℕ} → method_of h ≡ Delta → IsInRange h → length bytes ≡ new_count h
    → IsLiteral h bytes 8 (replacement_bytes (offset_of h))
delta_shape (Near more offset) {bytes} m r c = grind (arith, near_bytes, ap length (once_each bytes))
delta_shape (Far more full last) {bytes} m r c =
    grind (arith, ap length (once_each bytes), far_bytes (31 + 255 * full + last), length-append, length-replicate)
delta_shape h m r c = absurd cc

-- the head of a replacement
pub record IsReplacementHead (offset len : ℕ) (h : Head) : Type 0 where
  pub method_is : method_of h ≡ Delta
  pub in_range : IsInRange h
  pub offset_is : offset_of h ≡ offset
  pub count_is : new_count h ≡ len
  pub copies_is : copies_of h ≡ 1
  pub bytes_are : length (head_bytes h) ≡ replacement_bytes offset

pub replacement_is : {offset len : ℕ} → 1 ≤ len → len ≤ 8 → IsReplacementHead offset len (replacement offset len)
replacement_is {offset} {len} some few =
    grind (arith, nat_tests, length-append (replicate ((offset - 31) / 255) 255) ((offset - 31) % 255 ∷ []), length-replicate)
