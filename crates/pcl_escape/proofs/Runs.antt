-- What the bytes of a job are: whole pieces, and what first fails after them.
use Rattle.std.proofs.Common.{◌≡◌, ℕ, zero, suc, ◌+◌, ◌<◌, true, is_some, List, [], ◌∷◌, ◌++◌, length, Option, Result, append_assoc, length-append, add-zero, arith}
use Rattle.pcl_escape.proofs.Names.{Profile, flat_map, AllByRecursion, Refusal, Prefix, prefix_bytes, Reads, Parameter, Piece, combined, IsPrefix, IsPiece, ArePieces, IsMiddle, IsEnd, parameter_bytes, spelling, Fails, IsUngrouped, in_parameter, place_after}
use Rattle.pcl_escape.proofs.Steps.{Inside, is_middle, is_end, is_wrong, Stays, parameter_step, grouped_stays, middle_grouped}
use Rattle.pcl_escape.proofs.Lines.{last_joined}
use Rattle.pcl_escape.proofs.Starts.{Outside, whole_piece, sequence, wrong, start_step, piece_long}

-- ---- what bytes are

-- what stands after the last whole piece: nothing, or what first fails
pub data Last (profile : Profile) (at : ℕ) : List ℕ → Type 0 where
  no_more : Last profile at []
  first_fault : {bytes : List ℕ} (refusal : Refusal) → Fails profile at bytes refusal → Last profile at bytes

-- bytes outside sequences are whole pieces and what stands after them
pub data Reading (profile : Profile) (at : ℕ) : List ℕ → Type 0 where
  reading : (pieces : List Piece) (after : List ℕ) → ArePieces profile pieces after
      → Last profile (at + length (flat_map spelling pieces)) after
      → Reading profile at (flat_map spelling pieces ++ after)

-- ---- one more in front

-- the place after two parts
pub place_further : (at : ℕ) (front more : List ℕ) → (at + length front) + length more ≡ at + length (front ++ more)
place_further at front more = simp length-append (omega arith)

-- a piece in front of a reading
piece_first : (profile : Profile) (piece : Piece) {at : ℕ} {bytes : List ℕ} → IsPiece profile piece bytes
    → Reading profile (at + length (spelling piece)) bytes
    → Reading profile at (spelling piece ++ bytes)
piece_first profile piece is (reading pieces after each last) =
    rw (← append_assoc (spelling piece)) (reading (piece ∷ pieces) after (is, each) (rw place_further at last))

-- what fails at once is a reading without pieces
failing : {profile : Profile} {at : ℕ} {bytes : List ℕ} {refusal : Refusal} → Fails profile at bytes refusal → Reading profile at bytes
failing {at} {bytes} {refusal} f = reading [] bytes tt (first_fault refusal (rw (add-zero at) f))

-- with a group character, the bytes after it may be any
pub grouped_any : (group : Option ℕ) (bytes : List ℕ) → is_some group ≡ true → IsUngrouped group bytes
grouped_any group bytes g = grind arith

middle_more : {profile : Profile} {prefix : Prefix} (middle : List Parameter) {parameter : Parameter}
    → AllByRecursion (IsMiddle profile prefix) middle
    → IsMiddle profile prefix parameter → AllByRecursion (IsMiddle profile prefix) (middle ++ parameter ∷ [])
middle_more [] each is = (is, tt)
middle_more (first ∷ middle) each is = (each.0, middle_more middle each.1 is)

-- what fewer bytes are
abbrev Shorter : Profile → List ℕ → Type 0
Shorter profile bytes = (at : ℕ) (more : List ℕ) → length more < length bytes → Reading profile at more

-- ESC, a prefix and middle parameters in front of what a step reads there
sequence_first : {profile : Profile} (n : ℕ) (prefix : Prefix) (at : ℕ) (middle : List Parameter)
    {bytes : List ℕ} {read : Result Reads Refusal}
    → length bytes < n → Shorter profile bytes → IsPrefix prefix → IsUngrouped prefix.group bytes
    → AllByRecursion (IsMiddle profile prefix) middle
    → Inside profile prefix (place_after at prefix middle) bytes read → Stays read
    → Reading profile at (27 ∷ (prefix_bytes prefix ++ (flat_map parameter_bytes middle ++ bytes)))
sequence_first zero prefix at middle h next is apart each inside stays = absurd (omega arith)
sequence_first {profile} (suc n) prefix at middle h next is apart each (is_middle parameter more m) stays =
    let shorter : length more < length (parameter_bytes parameter ++ more) = simp length-append (omega arith) in
    let grouped = middle_grouped m in
    rw (← last_joined parameter_bytes middle parameter more)
    (sequence_first n prefix at (middle ++ parameter ∷ []) (omega arith) (λ at rest k. next at rest (omega arith)) is
    (grouped_any prefix.group more grouped) (middle_more middle each m) (parameter_step profile)
    (grouped_stays grouped (parameter_step profile)))
sequence_first {profile} (suc n) prefix at middle h next is apart each (is_end parameter sent more m) stays =
    let end : IsEnd profile prefix parameter sent = record { field = m.field; letter = m.letter; checks = m.checks; stays = stays } in
    rw (append_assoc (prefix_bytes prefix), append_assoc (flat_map parameter_bytes middle), append_assoc (parameter_bytes parameter) sent)
    at (piece_first profile (combined prefix middle parameter sent) {at = at} (is, each, end)
    (next _ more (simp length-append (omega arith))))
sequence_first (suc n) prefix at middle h next is apart each (is_wrong f) stays = failing (in_parameter prefix middle is apart each f)

-- a step outside sequences, and what the bytes after it are, say what all the bytes are
reading_after : {profile : Profile} {at : ℕ} {bytes : List ℕ} {read : Result Reads Refusal} → Outside profile at bytes read
    → Shorter profile bytes → Reading profile at bytes
reading_after {profile} (whole_piece piece more is alone) next =
    let long = piece_long profile piece more is in piece_first profile piece is (next _ more (simp length-append (omega arith)))
reading_after {at} (sequence prefix bytes read is apart inside stays) next =
    sequence_first (suc (length bytes)) prefix at [] (omega arith) (λ at more h. next at more (simp length-append (omega arith)))
    is apart tt inside stays
reading_after (wrong f) next = failing f

-- any bytes are so
pub is_read : (profile : Profile) (n at : ℕ) (bytes : List ℕ) → length bytes < n → Reading profile at bytes
is_read profile zero at bytes h = absurd (omega arith)
is_read profile (suc n) at [] h = reading [] [] tt no_more
is_read profile (suc n) at (byte ∷ bytes) h =
    reading_after (start_step profile) (λ place more k. is_read profile n place more (omega arith))
