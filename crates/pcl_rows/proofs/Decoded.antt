-- The row that is computed element by element is the one that the data's elements make.
use Rattle.std.proofs.Common.{◌≡◌, ℕ, zero, suc, ◌+◌, ◌*◌, ◌%◌, ◌<◌, ◌≤◌, List, [], ◌∷◌, ◌++◌, length, take, drop, replicate, refl, sym, ap, ◌∙◌, inl, inr, append_assoc, length-append, add-zero, arith}
use Rattle.pcl_rows.proofs.Names.{flat_map, cases_lt, take-append-le, take_at, drop_at, take_all, drop_all, take-append-drop, length-replicate, drop-nil, Method, Head, Far, method_of, IsInRange, head_bytes, new_count, offset_of, Element, IsElement, element_bytes, given_by, IsHead, base, after_element, IsCutIntoElements, treated, Decodes, Front, further}
use Rattle.pcl_rows.specs.Decoding.{treated_by, decoded}
use Rattle.pcl_rows.proofs.Readings.{after_none}
use Rattle.pcl_rows.proofs.Spellings.{first_of, front_at, element_at, shorter_after}

-- ---- the front of cut data

-- bytes that hold the whole head of a cut element
with_head : (d : Element) {shown : List ℕ} (missing : List ℕ) → shown ++ missing ≡ element_bytes d
    → length (head_bytes d.head) ≤ length shown → (tail : List ℕ) × (shown ≡ head_bytes d.head ++ tail)
with_head d {shown} missing lacking long =
    let n : ℕ = length (head_bytes d.head) in
    let front = take_at (head_bytes d.head) d.bytes n refl in
    (drop n shown, cc (take-append-le n shown missing long, front, take-append-drop n shown))

-- an offset that data ends within
further_cut : (full last offset count : ℕ) (bytes missing padding : List ℕ) → length bytes ≤ full
    → bytes ++ missing ≡ (replicate full 255 ++ last ∷ []) ++ padding
    → ((further offset count bytes).given ≡ []) × ((further offset count bytes).rest ≡ [])
further_cut full last offset count [] missing padding short e = (refl, refl)
further_cut zero last offset count (byte ∷ bytes) missing padding short e = absurd (omega arith)
further_cut (suc full) last offset count (byte ∷ bytes) missing padding short e =
    let is : byte ≡ 255 = cc in rw is (further_cut full last (offset + 255) count bytes missing padding (omega arith) cc)

-- data that ends within a head gives nothing
front_cut : (head : Head) (bytes missing padding : List ℕ) → length bytes < length (head_bytes head)
    → bytes ++ missing ≡ head_bytes head ++ padding
    → ((first_of (method_of head) bytes).given ≡ []) × ((first_of (method_of head) bytes).rest ≡ [])
front_cut head [] missing padding short e = (refl, refl)
front_cut (Far count full last) (byte ∷ bytes) missing padding short e =
    let is : byte ≡ 32 * count + 31 = cc in
    let low : (32 * count + 31) % 32 ≡ 31 = omega arith in
    let within : length bytes ≤ full = omega (arith, length-append {A = ℕ}, length-replicate {A = ℕ}) in
    rw (is, low) (further_cut full last 31 _ bytes missing padding within cc)
front_cut head (byte ∷ bytes) missing padding short e = absurd (omega arith)

-- ---- whole data

treated_none : (n : ℕ) (method : Method) (old : List ℕ) → treated_by n method [] old ≡ old
unfolding treated_by
treated_none n method old = grind arith

treated_step : (n : ℕ) (method : Method) (bytes old : List ℕ) {front : Front} → first_of method bytes ≡ front
    → treated_by (suc n) method bytes old ≡ take front.offset old
    ++ (front.given ++ treated_by n method front.rest (drop (front.offset + length front.given) old))
unfolding treated_by
treated_step n method [] old e = rw (← e) (sym (treated_none n method old))
treated_step n method (byte ∷ bytes) old e = rw (← e)

-- after the new bytes of a cut element stands no data
treated_tail : (n : ℕ) (h : Head) {shown : List ℕ} (tail old : List ℕ) → IsInRange h → shown ≡ head_bytes h ++ tail
    → length tail ≤ new_count h
    → treated_by (suc n) (method_of h) shown old ≡ after_element h (drop (length (head_bytes h)) shown) (λ more. more) old
treated_tail n h tail old r is few =
    rw (is, drop_at (head_bytes h) tail (length (head_bytes h)) refl)
    (treated_step n (method_of h) (head_bytes h ++ tail) old (front_at h tail r)
    ∙ rw (take_all (new_count h) tail few, drop_all (new_count h) tail few, treated_none))

treated_cut : (n : ℕ) {cut : Element} (shown missing old : List ℕ) → IsElement (method_of cut.head) cut
    → shown ++ missing ≡ element_bytes cut → 0 < length missing → length shown ≤ n
    → treated_by n (method_of cut.head) shown old ≡ after_element cut.head (drop (length (head_bytes cut.head)) shown) (λ more. more) old
treated_cut n {cut} [] missing old is e some fits =
    treated_none n (method_of cut.head) old ∙ sym (after_none cut.head old (drop-nil (length (head_bytes cut.head))))
treated_cut zero (byte ∷ rest) missing old is e some fits = absurd (omega arith)
treated_cut (suc n) {cut} shown missing old is e some fits =
    let h : Head = cut.head in
    elim (cases_lt (length shown) (length (head_bytes h))) [
      | inl short ↦
          let none = front_cut h shown missing cut.bytes short e in
          treated_step n (method_of h) shown old refl
          ∙ rw (none.0, none.1, treated_none, add-zero) (take-append-drop (first_of (method_of h) shown).offset old)
          ∙ sym (after_none h old (drop_all (length (head_bytes h)) shown (omega arith)))
      | inr long ↦
          let t = with_head cut missing e long in
          let whole = simp length-append at (ap length e) in
          treated_tail n h t.0 old is.head_is.in_range t.1 (omega (arith, is.complete, ap length t.1, length-append (head_bytes h) t.0))
    ]

pub treated_is : (n : ℕ) (whole : List Element) {method : Method} {bytes : List ℕ} {cut : Element} {shown : List ℕ} (old : List ℕ)
    → IsCutIntoElements method bytes whole cut shown → length bytes ≤ n → treated_by n method bytes old ≡ treated whole cut shown old
treated_is n [] {cut = cut} {shown = shown} old r fits =
    let head : IsHead (method_of cut.head) cut.head = record { method_is = refl; in_range = r.element.head_is.in_range } in
    let is : IsElement (method_of cut.head) cut = record { head_is = head; complete = r.element.complete } in
    rw (r.joined, ← r.element.head_is.method_is)
    (treated_cut n shown r.lacking.0 old is r.lacking.1 r.lacking.2 (omega (arith, ap length r.joined)))
treated_is zero (e ∷ es) {shown = shown} old r fits =
    absurd (omega (arith, shorter_after (flat_map element_bytes es ++ shown) r.elements.0 (r.joined ∙ simp append_assoc)))
treated_is (suc n) (e ∷ es) {method} {bytes} {cut} {shown} old r fits =
    let more = flat_map element_bytes es ++ shown in
    let is = r.elements.0 in
    let rest : IsCutIntoElements method more es cut shown =
    record { elements = r.elements.1; joined = refl; element = r.element; lacking = r.lacking } in
    let joined : bytes ≡ element_bytes e ++ more = r.joined ∙ simp append_assoc in
    treated_step n method bytes old (element_at more is joined)
    ∙ rw (treated_is n es (drop (offset_of e.head + length (given_by e.head e.bytes)) old) rest
    (omega (arith, shorter_after more is joined)))

-- the row that Decodes holds of is the one that is computed
pub decoded_is : (method : Method) (seed bytes row : List ℕ) → Decodes method seed bytes row → row ≡ decoded method seed bytes
unfolding decoded
decoded_is method seed bytes row d =
    d.4 ∙ ap (take (length (base method seed))) (sym (treated_is (length bytes) d.0 (base method seed) d.3 (omega arith)))
