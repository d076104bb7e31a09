-- What a reading of data makes of a row, an element at a time.
use Rattle.std.proofs.Common.{◌≡◌, ℕ, zero, suc, ◌+◌, ◌-◌, ◌*◌, ◌<◌, ◌≤◌, ◌↔◌, min, Bool, true, false, List, [], ◌∷◌, ◌++◌, length, take, drop, replicate, refl, sym, ap, ◌∙◌, append_assoc, add-zero, arith, zero-add}
use Rattle.pcl_rows.proofs.Names.{MatchBool, flat_map, take-add, drop-nil, take_min, drop_min, take-append-drop, length-append, drop-drop, take_all, length-copied, Method, Plain, Runs, Packed, Delta, Head, Itself, Count, Skipped, Near, head_bytes, copies_of, offset_of, Element, IsHead, IsElement, AreElements, element_bytes, given_by, reach, after_element, base, IsCutIntoElements, treated, RowFrom, Decodes, IsWhole, IsWholeFront, IsCutFront, IsFront, IsPastSkipped, overlaid, one-add, Front}
use Rattle.pcl_rows.proofs.Overlays.{drop-overlaid, take-overlaid}
use Rattle.pcl_rows.proofs.Spellings.{element_at, shorter_after, spelling_has_byte, cut_is_not_whole}

-- what data makes of untreated bytes, before what lies past the row is dropped
pub record Fills (method : Method) (bytes old row : List ℕ) : Type 0 where
  pub whole : List Element
  pub cut : Element
  pub shown : List ℕ
  pub parts : IsCutIntoElements method bytes whole cut shown
  pub row_is : row ≡ treated whole cut shown old

-- an element without new bytes changes nothing
pub after_none : (h : Head) {new : List ℕ} (old : List ℕ) → new ≡ [] → after_element h new (λ rest. rest) old ≡ old
after_none h old none = rw (none, add-zero) (take-append-drop (offset_of h) old)

-- an element of each method
pub some_element : (method : Method) → (e : Element) × IsElement method e
some_element Plain =
    (record { head = Itself; bytes = 0 ∷ [] }, record { head_is = record { method_is = refl; in_range = tt }; complete = refl })
some_element Runs =
    (record { head = Count 0; bytes = 0 ∷ [] }, record { head_is = record { method_is = refl; in_range = omega arith }; complete = refl })
some_element Packed =
    (record { head = Skipped; bytes = [] }, record { head_is = record { method_is = refl; in_range = tt }; complete = refl })
some_element Delta = (
  record { head = Near 0 0; bytes = 0 ∷ [] },
  record { head_is = record { method_is = refl; in_range = (omega arith, omega arith) }; complete = refl },
)

-- no data changes nothing
pub Fills-none : (method : Method) (old : List ℕ) → Fills method [] old old
Fills-none method old =
    let e = some_element method in record {
      whole = [];
      cut = e.0;
      shown = [];
      parts = record { elements = tt; joined = refl; element = e.1; lacking = (element_bytes e.0, refl, spelling_has_byte method e.0 e.1) };
      row_is = sym (after_none e.0.head old (drop-nil (length (head_bytes e.0.head))));
    }

none_is_nothing : {method : Method} (whole : List Element) {cut : Element} {shown old : List ℕ}
    → IsCutIntoElements method [] whole cut shown → treated whole cut shown old ≡ old
none_is_nothing [] {cut} {old = old} r = after_none cut.head old (rw (← r.joined) (drop-nil (length (head_bytes cut.head))))
none_is_nothing (e ∷ es) {shown = shown} r =
    absurd (omega (arith, shorter_after (flat_map element_bytes es ++ shown) r.elements.0 (r.joined ∙ simp append_assoc)))

-- what an element gives, and then the rest
abbrev pub with_front : Head → List ℕ → List ℕ → List ℕ → List ℕ
with_front h new old rest = take (offset_of h) old ++ (given_by h new ++ rest)

-- an element that is whole or cut, and then a reading of the rest
pub Fills-cons : {method : Method} {bytes : List ℕ} {h : Head} (new : List ℕ) {rest : List ℕ} (old : List ℕ) {row : List ℕ} (whole : Bool)
    → IsHead method h → MatchBool whole (IsWholeFront bytes h new rest) (IsCutFront bytes h new rest)
    → Fills method rest (drop (offset_of h + length (given_by h new)) old) row → Fills method bytes old (with_front h new old row)
Fills-cons {h = h} new old true is front f = record {
  whole = record { head = h; bytes = new } ∷ f.whole;
  cut = f.cut;
  shown = f.shown;
  parts = record {
    elements = (record { head_is = is; complete = front.complete }, f.parts.elements);
    joined = rw (front.joined, f.parts.joined) (simp append_assoc);
    element = f.parts.element;
    lacking = f.parts.lacking;
  };
  row_is = ap (with_front h new old) f.row_is;
}
Fills-cons {bytes = bytes} {h} new old false is cut f =
    let nothing = rw cut.rest_is at f in
    record {
      whole = [];
      cut = record { head = h; bytes = cut.padding };
      shown = bytes;
      parts = record {
        elements = tt;
        joined = refl;
        element = record { head_is = is; complete = cut.complete };
        lacking = (cut.missing, cut.lacking, cut.lacks);
      };
      row_is = rw (nothing.row_is ∙ none_is_nothing nothing.whole nothing.parts, cut.new_is);
    }

-- bytes that stand for themselves lie over the row from its start on
Fills-plain : (bytes old : List ℕ) → Fills Plain bytes old (bytes ++ drop (length bytes) old)
Fills-plain [] old = Fills-none Plain old
Fills-plain (byte ∷ bytes) old =
    rw (← (rw one-add at (drop-drop (length bytes) 1 old)))
    (Fills-cons {h = Itself} (byte ∷ []) old true (record { method_is = refl; in_range = tt }) (record { complete = refl; joined = refl })
    (Fills-plain bytes (drop 1 old)))

-- they are whole elements, which reach as far as they are long
pub plain_elements : (bytes : List ℕ) → (es : List Element) × AreElements Plain es × (bytes ≡ flat_map element_bytes es)
    × (reach es ≡ length bytes)
plain_elements [] = ([], tt, refl, refl)
plain_elements (byte ∷ bytes) =
    let element : Element = record { head = Itself; bytes = byte ∷ [] } in
    let rest = plain_elements bytes in
    let is : IsElement Plain element = record { head_is = record { method_is = refl; in_range = tt }; complete = refl } in
    (element ∷ rest.0, (is, rest.1), cc, omega (arith, rest.3))

pub row_of_plain : (bytes old : List ℕ) → RowFrom Plain bytes old (overlaid old 0 bytes)
row_of_plain bytes old =
    let f = Fills-plain bytes old in (f.whole, f.cut, f.shown, f.parts, rw (zero-add, f.row_is))

-- the bytes of a row that was treated up to a place, where all the data makes the rest of it
abbrev pub IsTreatedTo : Method → List ℕ → List ℕ → List ℕ → List ℕ → ℕ → Type 0
IsTreatedTo method bytes old rest row place =
    (made : List ℕ) → Fills method rest (drop place row) made
    → (all : List ℕ) × Fills method bytes old all × (take (length old) all ≡ take (length old) (take place row ++ made))

-- one more element
pub treated_more : {method : Method} {bytes old rest : List ℕ} (row : List ℕ) {place start : ℕ} {offset copies : ℕ} {new rest' : List ℕ}
    {whole : Bool} {row' : List ℕ} {place' : ℕ} → length row ≡ length old → place ≤ length row → start ≡ min (length row) (place + offset)
    → IsFront method rest offset copies new rest' whole → row' ≡ overlaid row start (flat_map (λ byte. replicate copies byte) new)
    → place' ≡ min (length row) (start + length (flat_map (λ byte. replicate copies byte) new))
    → IsTreatedTo method bytes old rest row place → IsTreatedTo method bytes old rest' row' place'
treated_more row {place} {start} {new = new} {whole = whole} {row' = row'} {place'} size within start-is front row-is place-is
    so_far made f =
    let h : Head = front.head in
    let g : List ℕ = given_by h new in
    let laid = rw front.copies_is at row-is in
    let end = rw front.copies_is at place-is in
    let inside : start ≤ length row = omega arith in
    let begin : start ≡ min (place + offset_of h) (length row) = omega (arith, front.offset_is) in
    let after : drop place' row' ≡ drop (offset_of h + length g) (drop place row) =
    rw (laid, end, drop-overlaid row g inside, ← drop-drop (length g) start row, begin, drop_min)
    (rw (← drop-drop (offset_of h) place row, ← drop-drop (length g) (offset_of h) (drop place row))) in
    let before : take place row ++ with_front h new (drop place row) made ≡ take start row ++ (g ++ made) =
    rw (begin, take_min, take-add, append_assoc) in
    let r = so_far (with_front h new (drop place row) made)
    (Fills-cons new (drop place row) whole front.head_is front.parts (rw after at f)) in
    (r.0, r.1, cc (r.2, take-overlaid row g made inside))

-- controls that give nothing stand before data that makes the row
Fills-skipped : {method : Method} (count : ℕ) {rest old row : List ℕ} → (0 < count → method ≡ Packed) → Fills method rest old row
    → Fills method (replicate count 128 ++ rest) old row
Fills-skipped zero packed f = f
Fills-skipped (suc count) {old = old} packed f =
    Fills-cons {h = Skipped} [] old true (record { method_is = sym (packed (omega arith)); in_range = tt })
    (record { complete = refl; joined = refl }) (Fills-skipped count (λ some. packed (omega arith)) f)

pub treated_skipped : {method : Method} {bytes old data' : List ℕ} (rest row : List ℕ) (place : ℕ) → IsPastSkipped method data' rest
    → IsTreatedTo method bytes old data' row place → IsTreatedTo method bytes old rest row place
treated_skipped rest row place (count, joined, packed) so_far made f = so_far made (rw joined (Fills-skipped count packed f))

pub past_skipped_length : {method : Method} (bytes rest : List ℕ) → IsPastSkipped method bytes rest → length rest ≤ length bytes
past_skipped_length bytes rest (count, joined, packed) = omega (arith, ap length joined, length-append (replicate count 128) rest)

-- where all data is treated
pub treated_all : {method : Method} {bytes old row : List ℕ} (place : ℕ) → length row ≡ length old
    → IsTreatedTo method bytes old [] row place → RowFrom method bytes old row
treated_all {method} {old} {row} place size so_far =
    let r = so_far (drop place row) (Fills-none method (drop place row)) in
    let all = rw take-append-drop at r.2 in
    (r.1.whole, r.1.cut, r.1.shown, r.1.parts, cc (all, take_all (length old) row (omega arith), r.1.row_is))

-- where none is
pub treated_none : {method : Method} {bytes old : List ℕ} → IsTreatedTo method bytes old bytes old 0
treated_none made f = (made, f, refl)

-- ---- whole data

-- a whole element has a byte
front_has_byte : {method : Method} {bytes : List ℕ} {h : Head} {new rest : List ℕ} → IsHead method h → IsWholeFront bytes h new rest
    → length rest < length bytes
front_has_byte {h = h} {new} {rest} is front =
    shorter_after {e = record { head = h; bytes = new }} rest (record { head_is = is; complete = front.complete }) front.joined

-- a whole element, and then whole data
pub whole_cons : {method : Method} {bytes : List ℕ} {h : Head} {new rest : List ℕ} {room : ℕ} → IsHead method h
    → IsWholeFront bytes h new rest → offset_of h + length (given_by h new) ≤ room
    → IsWhole method rest (room - (offset_of h + length (given_by h new))) → IsWhole method bytes room
whole_cons {method} {h = h} {new} is front fits (es, are, joined, within) =
    let first : IsElement method (record { head = h; bytes = new }) = record { head_is = is; complete = front.complete } in
    (record { head = h; bytes = new } ∷ es, (first, are), rw (front.joined, joined), omega arith)

pub whole_uncons : {method : Method} {bytes : List ℕ} {h : Head} {new rest : List ℕ} {room : ℕ} → IsHead method h
    → IsWholeFront bytes h new rest → IsWhole method bytes room
    → (offset_of h + length (given_by h new) ≤ room) × IsWhole method rest (room - (offset_of h + length (given_by h new)))
whole_uncons is front ([], are, joined, within) = absurd (omega (arith, front_has_byte is front, ap length joined))
whole_uncons {h = h} {new} {rest} is front (e ∷ es, are, joined, within) =
    let first : Element = record { head = h; bytes = new } in
    let mine = element_at {e = first} rest (record { head_is = is; complete = front.complete }) front.joined in
    let same = sym mine ∙ element_at (flat_map element_bytes es) are.0 joined in
    let offsets : offset_of h ≡ offset_of e.head = ap (λ (x : Front). x.offset) same in
    let sizes : length (given_by h new) ≡ length (given_by e.head e.bytes) = ap (λ (x : Front). length x.given) same in
    (omega arith, (es, are.1, ap (λ (x : Front). x.rest) same, omega arith))

-- bytes that stand for themselves are whole where they don't pass the row
plain_fits : (bytes : List ℕ) {room : ℕ} → IsWhole Plain bytes room → length bytes ≤ room
plain_fits [] w = omega arith
plain_fits (byte ∷ bytes) w =
    let one = whole_uncons {h = Itself} {new = byte ∷ []} {rest = bytes} (record { method_is = refl; in_range = tt })
    (record { complete = refl; joined = refl }) w in
    omega (arith, one.0, plain_fits bytes one.1)

pub plain_is_whole : (bytes : List ℕ) (room : ℕ) → (length bytes ≤ room) ↔ IsWhole Plain bytes room
plain_is_whole bytes room =
    let es = plain_elements bytes in ((λ fits. (es.0, es.1, es.2, omega (arith, es.3))), plain_fits bytes)

-- ---- what a loop over the elements uses

pub rest_shorter : {method : Method} {bytes : List ℕ} {offset copies : ℕ} {new rest : List ℕ} {whole : Bool} → 0 < length bytes
    → IsFront method bytes offset copies new rest whole → length rest < length bytes
rest_shorter {whole = true} some front = front_has_byte front.head_is front.parts
rest_shorter {whole = false} some front = omega (arith, ap length front.parts.rest_is)

stop_of_front : {method : Method} {bytes : List ℕ} {offset copies : ℕ} {new rest : List ℕ} {whole : Bool}
    (front : IsFront method bytes offset copies new rest whole) {stopped : ℕ} → stopped ≡ offset + copies * length new
    → stopped ≡ offset_of front.head + length (given_by front.head new)
stop_of_front {new} front e =
    omega (arith, e, front.offset_is, ap (λ (k : ℕ). k * length new) front.copies_is, length-copied (copies_of front.head) new)

-- a whole element that stops within the room
pub whole_more : {method : Method} {all bytes : List ℕ} {limit room offset copies stopped : ℕ} {new rest : List ℕ}
    → IsFront method bytes offset copies new rest true → stopped ≡ offset + copies * length new → stopped ≤ room
    → (IsWhole method all limit ↔ IsWhole method bytes room) → IsWhole method all limit ↔ IsWhole method rest (room - stopped)
whole_more front stop-is fits so_far =
    let stop = stop_of_front front stop-is in (
      λ w. rw stop (whole_uncons front.head_is front.parts (so_far.0 w)).1,
      λ w. so_far.1 (whole_cons front.head_is front.parts (omega arith) (rw stop at w)),
    )

-- one that doesn't
pub whole_past : {method : Method} {bytes : List ℕ} {room offset copies : ℕ} {stopped : ℕ} {new rest : List ℕ}
    → IsFront method bytes offset copies new rest true → stopped ≡ offset + copies * length new → room < stopped
    → IsWhole method bytes room → ⊥
whole_past front stop-is past w = omega (arith, stop_of_front front stop-is, (whole_uncons front.head_is front.parts w).0)

-- a cut one
pub whole_cut : {method : Method} {bytes : List ℕ} {room offset copies : ℕ} {new rest : List ℕ} → 0 < length bytes
    → IsFront method bytes offset copies new rest false → IsWhole method bytes room → ⊥
whole_cut some front ([], are, joined, within) = omega (arith, ap length joined)
whole_cut some front (e ∷ es, are, joined, within) =
    cut_is_not_whole front.parts.missing (flat_map element_bytes es)
    (record { head_is = front.head_is; complete = front.parts.complete }) are.0 front.parts.lacking front.parts.lacks joined

-- the row that data makes of a row of the bytes that its method begins with
pub decodes_from : (method named : Method) (seed bytes row : List ℕ) {old : List ℕ} → method ≡ named → RowFrom named bytes old row
    → old ≡ base named seed → Decodes method seed bytes row
decodes_from method named seed bytes row m made e = rw (m, ← e) made
