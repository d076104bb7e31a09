-- The element at the front of data: no element begins another.
use Rattle.std.proofs.Common.{◌≡◌, ℕ, zero, suc, ◌+◌, ◌*◌, ◌/◌, ◌%◌, ◌<◌, ◌==◌, true, false, nat_lt, List, [], ◌∷◌, ◌++◌, length, take, drop, replicate, refl, sym, ap, ◌∙◌, append_assoc, add-zero, arith}
use Rattle.pcl_rows.proofs.Names.{nat_tests, append-nil, length-append, take_at, drop_at, once_each, Method, Head, Itself, Count, Literal, Skipped, Repeat, Near, Far, method_of, IsInRange, head_bytes, new_count, offset_of, Element, IsElement, element_bytes, given_by, Front, literal, further, front_of}

-- the element there; no data gives nothing
abbrev pub first_of : Method → List ℕ → Front
first_of method [] = record { offset = 0; given = []; rest = [] }
first_of method (byte ∷ bytes) = front_of method byte bytes

-- an offset that goes on
further_at : (full offset count : ℕ) {last : ℕ} (after : List ℕ) → last < 255
    → further offset count (replicate full 255 ++ last ∷ after) ≡ literal (offset + 255 * full + last) count after
further_at zero offset count {last} after lt = let other : (last == 255) ≡ false = grind (arith, nat_tests) in rw (other, add-zero)
further_at (suc full) offset count {last} after lt =
    let place : (offset + 255) + 255 * full + last ≡ offset + 255 * suc full + last = omega arith in
    further_at full (offset + 255) count after lt ∙ ap (λ (n : ℕ). literal n count after) place

-- data that begins with a whole head: its new bytes follow, as many as there are
pub front_at : (head : Head) (tail : List ℕ) → IsInRange head → first_of (method_of head) (head_bytes head ++ tail)
    ≡ record { offset = offset_of head; given = given_by head (take (new_count head) tail); rest = drop (new_count head) tail }
front_at Itself tail r = grind arith
front_at (Count count) tail r = grind (arith, append-nil)
front_at (Literal control) tail r =
    let low : nat_lt control 128 ≡ true = grind (arith, nat_tests) in
    rw (low, once_each (take (control + 1) tail))
front_at Skipped tail r = refl
front_at (Repeat control) tail r =
    let high : nat_lt control 128 ≡ false = grind (arith, nat_tests) in
    let other : (control == 128) ≡ false = grind (arith, nat_tests) in
    rw (high, other) (grind (arith, append-nil))
front_at (Near count offset) tail r =
    let low : (32 * count + offset) % 32 ≡ offset = omega arith in
    let high : (32 * count + offset) / 32 ≡ count = omega arith in
    let near : (offset == 31) ≡ false = grind (arith, nat_tests) in
    rw (low, high, near, once_each (take (count + 1) tail))
front_at (Far count full last) tail r =
    let low : (32 * count + 31) % 32 ≡ 31 = omega arith in
    let high : (32 * count + 31) / 32 ≡ count = omega arith in
    rw (low, high, append_assoc, once_each (take (count + 1) tail)) (further_at full 31 (count + 1) tail r.1)

-- a whole element, and the data after it
pub element_at : {method : Method} {e : Element} (more : List ℕ) {bytes : List ℕ} → IsElement method e → bytes ≡ element_bytes e ++ more
    → first_of method bytes ≡ record { offset = offset_of e.head; given = given_by e.head e.bytes; rest = more }
element_at {e = e} more is joined =
    rw (joined, ← is.head_is.method_is, append_assoc) (front_at e.head (e.bytes ++ more) is.head_is.in_range
    ∙ rw (take_at e.bytes more (new_count e.head) is.complete, drop_at e.bytes more (new_count e.head) is.complete))

head_needs_byte : (h : Head) → 0 < length (head_bytes h) + new_count h
head_needs_byte h = grind arith

-- an element has a byte
pub spelling_has_byte : (method : Method) (e : Element) → IsElement method e → 0 < length (element_bytes e)
spelling_has_byte method e p = omega (arith, length-append (head_bytes e.head) e.bytes, p.complete, head_needs_byte e.head)

-- after an element are fewer bytes
pub shorter_after : {e : Element} (more : List ℕ) {bytes : List ℕ} {method : Method} → IsElement method e → bytes ≡ element_bytes e ++ more
    → length more < length bytes
shorter_after {e} more {method} is joined =
    omega (arith, ap length joined, length-append (element_bytes e) more, spelling_has_byte method e is)

-- bytes that an element lacks are no whole element
pub cut_is_not_whole : {method : Method} {d e : Element} {bytes : List ℕ} (missing rest : List ℕ) → IsElement method d → IsElement method e
    → bytes ++ missing ≡ element_bytes d → 0 < length missing → bytes ≡ element_bytes e ++ rest → ⊥
cut_is_not_whole {d} {e} {bytes} missing rest p q lacking lacks whole =
    let one = element_at [] p (lacking ∙ sym (append-nil (element_bytes d))) in
    let joined : bytes ++ missing ≡ element_bytes e ++ (rest ++ missing) = cc (whole, append_assoc (element_bytes e) rest missing) in
    let other = element_at (rest ++ missing) q joined in
    omega (arith, ap (λ (front : Front). length front.rest) (sym one ∙ other), length-append rest missing)
