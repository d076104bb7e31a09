-- Whole data for a row is a walk from its first place, of the same cost, and each such walk is data.
use Rattle.std.proofs.Common.{◌≡◌, ℕ, ◌+◌, ◌-◌, ◌<◌, ◌≤◌, ◌⊎◌, List, [], ◌∷◌, ◌++◌, length, take, drop, refl, sym, ap, ◌∙◌, subst, inl, inr, append_assoc, arith}
use Rattle.pcl_coders.proofs.Names.{flat_map, append-nil, take_all, drop_at, drop-drop, length-append, length-take, length-drop, length-replicate, drop-nil, length-copied, Method, Delta, Head, Near, Far, head_bytes, new_count, offset_of, Element, IsElement, AreElements, element_bytes, given, given_by, stop, reach, base, after_element, after_elements, RowFrom, IsRowData, IsCutIntoElements, after_none, some_element, spelling_has_byte, decoded_is, Walk, total, Agrees, StepsOver, NeedsNoMore, element_cost}

-- the untreated bytes stay after the elements
abbrev pub kept : List ℕ → List ℕ
kept rest = rest

pub length-base : (method : Method) (seed : List ℕ) → length (base method seed) ≡ length seed
length-base Delta seed = refl
length-base _ seed = length-replicate (length seed) 0

pub total_is : (es : List Element) → total element_cost es ≡ length (flat_map element_bytes es)
total_is [] = refl
total_is (e ∷ es) = omega (arith, total_is es, length-append (element_bytes e) (flat_map element_bytes es))

-- an element gives a byte, or leaves none
given_or_nothing_left : (h : Head) (bytes : List ℕ) → length bytes ≡ new_count h → (offset_of h ≡ 0) ⊎ (0 < length (given_by h bytes))
given_or_nothing_left (Near m o) bytes e = inr (omega (arith, length-copied 1 bytes))
given_or_nothing_left (Far m f l) bytes e = inr (omega (arith, length-copied 1 bytes))
given_or_nothing_left h bytes e = inl refl

-- elements within the row that make the wanted bytes are a walk
pub walk_from_elements : (method : Method) (old row : List ℕ) (es : List Element) (place : ℕ) → length old ≡ length row
    → AreElements method es → reach es ≤ length row - place
    → after_elements es kept (drop place old) ≡ drop place row → Walk (StepsOver method old row) (NeedsNoMore old row) place es
walk_from_elements method old row [] place size are within made = sym made
walk_from_elements method old row (e ∷ es) place size are within made =
    let before : List ℕ = take (offset_of e.head) (drop place old) in
    let rest : List ℕ = after_elements es kept (drop (stop e) (drop place old)) in
    let len : length (before ++ given e) ≡ stop e =
    omega (arith, length-append before (given e), length-take (offset_of e.head) (drop place old), length-drop place old) in
    let same : drop (stop e) (drop place row) ≡ rest =
    cc (append_assoc before (given e) rest, drop_at (before ++ given e) rest (stop e) len) in
    let next : after_elements es kept (drop (place + stop e) old) ≡ drop (place + stop e) row =
    cc (drop-drop (stop e) place old, drop-drop (stop e) place row) in
    let walk = walk_from_elements method old row es (place + stop e) size are.1 (omega arith) next in
    (place + stop e, record { element = are.0; agrees = cc; next_is = refl }, walk)

-- how far an element that agrees with the row goes
pub stop_within : (method : Method) (old row : List ℕ) (place : ℕ) (e : Element) → length old ≡ length row → IsElement method e
    → Agrees (drop place old) (drop place row) e → stop e ≤ length row - place
stop_within method old row place e size is agrees =
    grind (arith, given_or_nothing_left e.head e.bytes is.complete, ap length agrees, length-append, length-take, length-drop)

-- a walk makes the wanted bytes
pub walk_makes : (method : Method) (old row : List ℕ) (es : List Element) (place : ℕ) → length old ≡ length row
    → Walk (StepsOver method old row) (NeedsNoMore old row) place es
    → AreElements method es × (reach es ≤ length row - place) × (after_elements es kept (drop place old) ≡ drop place row)
walk_makes method old row [] place size w = (tt, omega arith, sym w)
walk_makes method old row (e ∷ es) place size w =
    let within = stop_within method old row place e size w.1.element w.1.agrees in
    let rest = walk_makes method old row es w.0 size w.2 in
    let made : after_elements es kept (drop (stop e) (drop place old)) ≡ drop (stop e) (drop place row) =
    cc (drop-drop (stop e) place old, drop-drop (stop e) place row, rest.2) in
    ((w.1.element, rest.0), omega (arith, rest.1, w.1.next_is), cc)

-- after the elements a cut one with no bytes changes nothing
after_elements_cut : (es : List Element) (h : Head) {none : List ℕ} (old : List ℕ) → none ≡ []
    → after_elements es (after_element h none (λ rest. rest)) old ≡ after_elements es kept old
after_elements_cut [] h {none} old e = after_none h old e
after_elements_cut (d ∷ es) h old e =
    ap (λ (bs : List ℕ). take (offset_of d.head) old ++ (given d ++ bs)) (after_elements_cut es h (drop (stop d) old) e)

-- whole elements decode to what they make
pub elements_decode : {method : Method} (old : List ℕ) (es : List Element) → AreElements method es
    → RowFrom method (flat_map element_bytes es) old (take (length old) (after_elements es kept old))
elements_decode {method} old es are =
    let e = some_element method in
    let parts : IsCutIntoElements method (flat_map element_bytes es) es e.0 [] = record {
      elements = are;
      joined = sym (append-nil (flat_map element_bytes es));
      element = e.1;
      lacking = (element_bytes e.0, refl, spelling_has_byte method e.0 e.1);
    } in
    (es, e.0, [], parts, cc (after_elements_cut es e.0.head old (drop-nil (length (head_bytes e.0.head)))))

-- how many bytes there are after elements that stop within the row
length-after : (es : List Element) (old : List ℕ) → reach es ≤ length old → length (after_elements es kept old) ≡ length old
length-after [] old within = refl
length-after (e ∷ es) old within = grind (arith, length-append, length-take, length-drop, length-after es (drop (stop e) old))

-- whole data for a row is a walk
pub walk_of_data : {method : Method} {seed row bytes : List ℕ} → length seed ≡ length row → IsRowData method seed row bytes
    → (es : List Element) × Walk (StepsOver method (base method seed) row) (NeedsNoMore (base method seed) row) 0 es
    × (total element_cost es ≡ length bytes)
walk_of_data {method} {seed} {row} {bytes} size has =
    let old : List ℕ = base method seed in
    let same : length old ≡ length row = length-base method seed ∙ size in
    let w = has.whole in
    let read = rw (← w.2) at (elements_decode old w.0 w.1) in
    let cut = has.decodes ∙ sym (decoded_is method seed bytes (take (length old) (after_elements w.0 kept old)) read) in
    let made : after_elements w.0 kept old ≡ row =
    sym (take_all (length old) (after_elements w.0 kept old) (omega (arith, length-after w.0 old (omega (arith, w.3))))) ∙ sym cut in
    (w.0, walk_from_elements method old row w.0 0 same w.1 (omega (arith, w.3)) made, total_is w.0 ∙ ap length (sym w.2))

-- a walk is whole data
pub data_of_walk : {method : Method} {seed row : List ℕ} (es : List Element) → length seed ≡ length row → total element_cost es ≤ 65535
    → Walk (StepsOver method (base method seed) row) (NeedsNoMore (base method seed) row) 0 es
    → IsRowData method seed row (flat_map element_bytes es)
data_of_walk {method} {seed} {row} es size small walk =
    let old : List ℕ = base method seed in
    let same : length old ≡ length row = length-base method seed ∙ size in
    let m = walk_makes method old row es 0 same walk in
    record {
      whole = (es, m.0, refl, omega (arith, m.1));
      decodes = decoded_is method seed (flat_map element_bytes es) row (subst (RowFrom method (flat_map element_bytes es) old)
          (take_all (length old) (after_elements es kept old) (omega (arith, ap length m.2)) ∙ m.2) (elements_decode old es m.0));
      fits = omega (arith, total_is es);
    }
