-- What stands at the front of data.
use Rattle.std.proofs.Common.{◌≡◌, ℕ, ◌+◌, ◌-◌, ◌<◌, ◌≤◌, min, eqb, Bool, true, false, List, [], ◌∷◌, ◌++◌, length, get_or, take, drop, replicate, refl, sym, ap, ◌∙◌, append_assoc, arith}
use Rattle.pcl_rows.proofs.Names.{append-nil, take_all, take-append-drop, length-append, length-take-le, length-drop, length-replicate, nil_from_length, take_more, drop_all, drop_min, MatchBool, eqb-true, eqb-false, Method, IsHead, Head, head_bytes, new_count, copies_of, offset_of, Begins, Opens, IsWholeFront, IsCutFront}

pub Begins-cons : (bytes front : List ℕ) (byte : ℕ) → 0 < length bytes → byte ≡ get_or bytes 0 0 → Begins (drop 1 bytes) front
    → Begins bytes (byte ∷ front)
Begins-cons [] front byte h e b = absurd (omega arith)
Begins-cons (x ∷ bytes) front byte h e b = (b.0, cc (e, b.1))

pub Begins-one : (bytes : List ℕ) (byte : ℕ) → 0 < length bytes → byte ≡ get_or bytes 0 0 → Begins bytes (byte ∷ [])
Begins-one bytes byte h e = Begins-cons bytes [] byte h e ([], refl)

-- data and what it lacks of these bytes are these bytes and what stands after them
Begins-after : (bytes front : List ℕ) (b : Begins bytes front) → bytes ++ b.0 ≡ front ++ drop (length front) bytes
Begins-after [] [] b = b.1
Begins-after [] (byte ∷ front) b = rw append-nil b.1
Begins-after (x ∷ bytes) [] b = rw (b.1, append-nil bytes)
Begins-after (x ∷ bytes) (byte ∷ front) b = cc (Begins-after bytes front (b.0, cc), b.1)

-- bytes 255, and one that is less
pub Begins-further : (bytes : List ℕ) (full last : ℕ) → full < length bytes → take full bytes ≡ replicate full 255
    → last ≡ get_or bytes full 0 → Begins bytes (replicate full 255 ++ last ∷ [])
Begins-further bytes full last within all e =
    let size : length (replicate full 255 ++ last ∷ []) ≡ full + 1 = simp (length-append, length-replicate) in
    ([], rw (append-nil, size, take_more bytes full 0 within, all, e))

-- bytes 255 alone
pub Begins-full : (bytes : List ℕ) → bytes ≡ replicate (length bytes) 255 → Begins bytes (replicate (length bytes) 255 ++ 0 ∷ [])
Begins-full bytes all =
    let size : length bytes ≤ length {A = ℕ} (replicate (length bytes) 255 ++ 0 ∷ []) =
    simp (length-append, length-replicate) (omega arith) in
    (0 ∷ [], cc (take_all _ bytes size, all))

-- what a head says, where data begins with its bytes
pub opens_with : {method : Method} {bytes : List ℕ} (h : Head) → IsHead method h → Begins bytes (head_bytes h)
    → Opens method bytes (length (head_bytes h)) (offset_of h) (new_count h) (copies_of h)
opens_with h is begins =
    record { head = h; head_is = is; len_is = refl; offset_is = refl; count_is = refl; copies_is = refl; begins = begins }

-- only a head of one byte has no new bytes
head_without_new : (h : Head) → new_count h ≡ 0 → length (head_bytes h) ≤ 1
head_without_new h e = grind arith

module _ (bytes : List ℕ) (h : Head) (room count : ℕ) (some : 0 < length bytes) (begins : Begins bytes (head_bytes h))
    (room-is : room ≡ length bytes - length (head_bytes h)) (count-is : count ≡ min (new_count h) room) where
  abbrev beyond : List ℕ
  beyond = drop (length (head_bytes h)) bytes

  size : length beyond ≡ room
  size = length-drop (length (head_bytes h)) bytes ∙ sym room-is

  pub front_parts : (whole : Bool) → eqb count (new_count h) ≡ whole
      → MatchBool whole (IsWholeFront bytes h (take count beyond) (drop count beyond))
      (IsCutFront bytes h (take count beyond) (drop count beyond))
  front_parts true e =
      let all : count ≡ new_count h = eqb-true count (new_count h) e in
      let long : length (head_bytes h) ≤ length bytes = grind (arith, head_without_new h) in
      let joined = Begins-after bytes (head_bytes h) begins in
      let none : begins.0 ≡ [] = nil_from_length begins.0
      (omega (arith, ap length joined, length-append bytes begins.0, length-append (head_bytes h) beyond, size)) in
      record {
        complete = length-take-le count beyond (omega (arith, size)) ∙ all;
        joined = rw (append_assoc, take-append-drop) (rw (none, append-nil) at joined);
      }
  front_parts false e =
      let few : count ≡ new_count h → ⊥ = eqb-false count (new_count h) e in
      let pad : List ℕ = replicate (new_count h - room) 0 in
      let pad_size : length pad ≡ new_count h - room = length-replicate (new_count h - room) 0 in
      record {
        padding = beyond ++ pad;
        missing = begins.0 ++ pad;
        complete = omega (arith, length-append beyond pad, size);
        lacking = cc (Begins-after bytes (head_bytes h) begins, append_assoc bytes begins.0 pad, append_assoc (head_bytes h) beyond pad);
        lacks = omega (arith, length-append begins.0 pad);
        new_is = take_all count beyond (omega (arith, size));
        rest_is = drop_all count beyond (omega (arith, size));
      }

-- the same, by the parts that are read
pub front_read : (bytes : List ℕ) (h : Head) {room count said : ℕ} {back new rest : List ℕ} → 0 < length bytes
    → Begins bytes (head_bytes h) → room ≡ length bytes - length (head_bytes h) → count ≡ min (new_count h) room
    → said ≡ new_count h → back ≡ drop (length bytes - room) bytes → new ≡ take count back → rest ≡ drop count back
    → MatchBool (eqb count said) (IsWholeFront bytes h new rest) (IsCutFront bytes h new rest)
front_read bytes h {room} {count} some begins room-is count-is said-is back-is new-is rest-is =
    let skipped : length bytes - room ≡ min (length (head_bytes h)) (length bytes) = omega arith in
    rw (said-is, new-is, rest-is, back-is, skipped, drop_min)
    (front_parts bytes h room count some begins room-is count-is (eqb count (new_count h)) refl)
