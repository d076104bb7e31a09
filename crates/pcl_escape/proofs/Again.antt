-- All steps: bytes that are whole pieces are read as these, and the first fault is found; so what is read says what the bytes are.
use Rattle.std.proofs.Common.{◌≡◌, ℕ, zero, suc, ◌+◌, ◌-◌, ◌<◌, List, [], ◌∷◌, ◌++◌, length, Option, Some, None, Result, Ok, Err, refl, ap, ◌⊎◌, inl, inr, ◌∙◌, append_assoc, append-nil, length-append, add-zero, zero-add, ◌&&◌, ◌==◌, not, is_some, false, arith}
use Rattle.pcl_escape.proofs.Names.{Profile, nat_tests, flat_map, AllByRecursion, JobFault, Refused, Memory, Refusal, Prefix, prefix_bytes, joined, Said, Reads, step_at, parameter_at, with_front, and_then, scan_outcome, Yields, Parameter, Piece, combined, IsPrefix, IsPiece, ArePieces, IsMiddle, IsReading, parameter_bytes, spelling, command_of, parameter_commands, first_place, commands_from, commands_of, Fails, in_parameter, in_line, IsUngrouped, place_after, IsFault, IsFaultOf, unknown_control, lone_escape, no_sequence, unknown_two, no_group, bad_group}
use Rattle.pcl_escape.specs.inner.Scan.{start_at, sequence_at, prefix_at, read_outcome, named_at}
use Rattle.pcl_escape.proofs.Lines.{foreign}
use Rattle.pcl_escape.proofs.Steps.{Inside, inside_shorter, is_middle, is_end, is_wrong, Stays, parameter_step, parameter_joined, inside_reads, grouped_stays, middle_grouped}
use Rattle.pcl_escape.proofs.Starts.{Outside, whole_piece, sequence, start_step, inside_again, exit_first, parts_apart, piece_step, piece_long}
use Rattle.pcl_escape.proofs.Runs.{no_more, first_fault, Reading, reading, is_read, place_further, grouped_any}

-- ---- fronts and places

-- two fronts are one
pub with_fronts : (front more : List Said) (read : Result (List Said) Refusal)
    → with_front front (with_front more read) ≡ with_front (front ++ more) read
with_fronts front more read = grind (arith, append_assoc front more)

-- an empty front changes nothing
no_front : (read : Result (List Said) Refusal) → with_front [] read ≡ read
no_front read = grind arith

-- the place after the front of the bytes
place_of : (at : ℕ) (front rest : List ℕ) → at + (length (front ++ rest) - length rest) ≡ at + length front
place_of at front rest = simp length-append (omega arith)

-- a place after a sequence's step, counted from ESC and from the first parameter
place_in : (at : ℕ) (prefix : Prefix) (more : List ℕ) {rest : ℕ} → rest < length more
    → at + (length (27 ∷ (prefix_bytes prefix ++ more)) - rest) ≡ first_place at prefix + (length more - rest)
place_in at prefix more h = simp length-append (omega arith)

-- ---- one step, and the others

-- there is more to read: bytes are left, or a sequence goes on
abbrev pub GoesOn : Option Prefix → List ℕ → Type 0
GoesOn inside bytes = (length bytes == 0 && not (is_some inside)) ≡ false

-- each step outside a sequence takes a byte
start_shorter : {profile : Profile} {at : ℕ} {bytes : List ℕ} {reads : Reads} → Outside profile at bytes (Ok reads)
    → length reads.rest < length bytes
start_shorter {profile} (whole_piece piece rest is alone) = let long = piece_long profile piece rest is in simp length-append (omega arith)
start_shorter (sequence prefix more same is n inside stays) = let shorter = inside_shorter inside in simp length-append (omega arith)

-- a step takes a byte
pub step_shorter : (profile : Profile) (inside : Option Prefix) (at : ℕ) (bytes : List ℕ) {reads : Reads} → GoesOn inside bytes
    → step_at profile inside at bytes ≡ Ok reads → length reads.rest < length bytes
step_shorter profile None at [] goes e = absurd cc
step_shorter profile None at (byte ∷ bytes) goes e = start_shorter (rw e at (start_step profile {at = at} {byte = byte} {rest = bytes}))
step_shorter profile (Some prefix) at bytes goes e =
    inside_shorter (rw e at (parameter_step profile {prefix = prefix} {at = at} {bytes = bytes}))

-- two ways to go on that agree on what the step read
after_same : (read : Result Reads Refusal) (f g : Reads → Result (List Said) Refusal)
    → ((reads : Reads) → read ≡ Ok reads → f reads ≡ g reads) → and_then read f ≡ and_then read g
after_same read f g h = grind (arith, h)

-- more steps than there are bytes give what any such number of steps gives
enough : (profile : Profile) (n m : ℕ) (inside : Option Prefix) (at : ℕ) (bytes : List ℕ) → length bytes < n → length bytes < m
    → read_outcome profile n inside at bytes ≡ read_outcome profile m inside at bytes
unfolding read_outcome
enough profile zero m inside at bytes h k = absurd (omega arith)
enough profile (suc n) zero inside at bytes h k = absurd (omega arith)
enough profile (suc n) (suc m) None at [] h k = refl
enough profile (suc n) (suc m) inside at bytes h k = after_same (step_at profile inside at bytes) _ _
    (λ reads e. let shorter = step_shorter profile inside at bytes (grind (arith, nat_tests)) e in
    enough profile n m reads.inside _ reads.rest (omega arith) (omega arith))

-- as many steps as it takes
abbrev pub all_at : Profile → Option Prefix → ℕ → List ℕ → Result (List Said) Refusal
all_at profile inside at bytes = read_outcome profile (suc (length bytes)) inside at bytes

-- the steps after one of the bytes, which begin at a place
abbrev pub rest_at : Profile → ℕ → List ℕ → Reads → Result (List Said) Refusal
rest_at profile start bytes reads = all_at profile reads.inside (start + (length bytes - length reads.rest)) reads.rest

-- the first step, and then the others
pub one_step : (profile : Profile) (inside : Option Prefix) (at : ℕ) (bytes : List ℕ) → GoesOn inside bytes
    → all_at profile inside at bytes ≡ and_then (step_at profile inside at bytes) (rest_at profile at bytes)
unfolding read_outcome
one_step profile inside at bytes goes =
    let same = after_same (step_at profile inside at bytes) _ (rest_at profile at bytes)
    (λ reads e. enough profile (length bytes) (suc (length reads.rest))
    reads.inside _ reads.rest (step_shorter profile inside at bytes goes e) (omega arith)) in grind (arith, nat_tests, same)

-- ---- sequences

-- the steps from a parameter on, whose command has the place at; its bytes begin at the place begin
abbrev steps_in : Profile → Prefix → ℕ → ℕ → List ℕ → Result (List Said) Refusal
steps_in profile prefix at start bytes = and_then (parameter_at profile prefix at bytes) (rest_at profile start bytes)

-- what middle parameters say
abbrev middle_commands : Prefix → ℕ → ℕ → List Parameter → List Said
middle_commands prefix at start [] = []
middle_commands prefix at start (parameter ∷ middle) =
    let next = start + length (parameter_bytes parameter) in command_of prefix at parameter [] ∷ middle_commands prefix next next middle

-- the place of the command after these parameters, of which the first begins at the place begin, and its command has the place at
abbrev place_from : ℕ → ℕ → List Parameter → ℕ
place_from at start [] = at
place_from at start (parameter ∷ middle) =
    let next = start + length (parameter_bytes parameter) in place_from next next middle

place_from_is : (start : ℕ) (middle : List Parameter) → place_from start start middle ≡ start + length (flat_map parameter_bytes middle)
place_from_is start [] = rw add-zero refl
place_from_is start (parameter ∷ middle) = rw (place_from_is (start + length (parameter_bytes parameter)) middle, place_further) refl

-- in a sequence that begins at ESC the parameters begin after its prefix
place_in_sequence : (at : ℕ) (prefix : Prefix) (middle : List Parameter)
    → place_from at (first_place at prefix) middle ≡ place_after at prefix middle
place_in_sequence at prefix [] = refl
place_in_sequence at prefix (parameter ∷ middle) =
    place_from_is _ middle ∙ place_further (first_place at prefix) (parameter_bytes parameter) (flat_map parameter_bytes middle)

-- with the last one, they say what the sequence says
all_commands : (prefix : Prefix) (at start : ℕ) (middle : List Parameter) (end : Parameter) (bytes : List ℕ)
    → parameter_commands prefix at start middle end bytes
    ≡ middle_commands prefix at start middle ++ command_of prefix (place_from at start middle) end bytes ∷ []
all_commands prefix at start [] end bytes = refl
all_commands prefix at start (parameter ∷ middle) end bytes =
    rw (all_commands prefix (start + length (parameter_bytes parameter)) (start + length (parameter_bytes parameter)) middle end bytes) refl

-- the steps from middle parameters on
middle_on : (profile : Profile) (prefix : Prefix) (middle : List Parameter) (at start : ℕ) (bytes : List ℕ)
    → AllByRecursion (IsMiddle profile prefix) middle
    → steps_in profile prefix at start (flat_map parameter_bytes middle ++ bytes) ≡ with_front (middle_commands prefix at start middle)
    (steps_in profile prefix (place_from at start middle) (start + length (flat_map parameter_bytes middle)) bytes)
middle_on profile prefix [] at start bytes each = rw (add-zero, no_front) refl
middle_on profile prefix (parameter ∷ middle) at start bytes each =
    let next = start + length (parameter_bytes parameter) in
    let after = flat_map parameter_bytes middle ++ bytes in
    let on = one_step profile (Some prefix) next after (grind (arith, nat_tests)) in
    rw (append_assoc (parameter_bytes parameter), inside_reads (is_middle parameter after each.0))
    (rw (
      place_of start (parameter_bytes parameter),
      on,
      middle_on profile prefix middle next next bytes each.1,
      with_fronts,
      place_further,
    ) refl)

-- the steps from ESC on are those from the first parameter on, whose command has the place of ESC
first_on : (profile : Profile) (prefix : Prefix) (at : ℕ) {bytes : List ℕ} {read : Result Reads Refusal} → IsPrefix prefix
    → IsUngrouped prefix.group bytes
    → Inside profile prefix at bytes read → Stays read
    → all_at profile None at (27 ∷ (prefix_bytes prefix ++ bytes)) ≡ steps_in profile prefix at (first_place at prefix) bytes
first_on profile prefix at {bytes} {read} is apart inside stays =
    rw (one_step profile None at (27 ∷ (prefix_bytes prefix ++ bytes)) (grind (arith, nat_tests)))
    (rw (inside_again prefix.parameterized prefix.group is apart inside stays, inside_reads inside)
    (after_same read _ _ (λ reads f. rw (place_in at prefix bytes (inside_shorter (rw f at inside))) refl)))

-- a sequence begins with a middle parameter, or with what stands after these
sequence_on : (profile : Profile) {prefix : Prefix} (at : ℕ) (middle : List Parameter) {bytes : List ℕ} {read : Result Reads Refusal}
    → IsPrefix prefix
    → IsUngrouped prefix.group bytes → AllByRecursion (IsMiddle profile prefix) middle
    → Inside profile prefix (place_from at (first_place at prefix) middle) bytes read → Stays read
    → all_at profile None at (27 ∷ (prefix_bytes prefix ++ (flat_map parameter_bytes middle ++ bytes)))
    ≡ with_front (middle_commands prefix at (first_place at prefix) middle)
    (and_then read (rest_at profile (first_place at prefix + length (flat_map parameter_bytes middle)) bytes))
sequence_on profile {prefix} at [] is apart each inside stays =
    rw (first_on profile prefix at is apart inside stays, inside_reads inside, add-zero, no_front) refl
sequence_on profile {prefix} at (parameter ∷ middle) {bytes} is apart each inside stays =
    let grouped = middle_grouped each.0 in
    let first = is_middle parameter (flat_map parameter_bytes middle ++ bytes) each.0 in
    let on = middle_on profile prefix (parameter ∷ middle) at (first_place at prefix) bytes each in
    rw (append_assoc (parameter_bytes parameter))
    (first_on profile prefix at is (grouped_any prefix.group _ grouped) first (grouped_stays grouped first))
    ∙ rw (append_assoc (parameter_bytes parameter), inside_reads inside) at on

-- what holds where there is no group character holds where there may be one
ungrouped_front : (group : Option ℕ) (bytes : List ℕ) → IsUngrouped None bytes → IsUngrouped group bytes
ungrouped_front group bytes n = grind arith

-- the steps from a sequence on
combined_on : (profile : Profile) (prefix : Prefix) (at : ℕ) (middle : List Parameter) (end : Parameter) (sent bytes : List ℕ)
    → IsPiece profile (combined prefix middle end sent) bytes
    → all_at profile None at (spelling (combined prefix middle end sent) ++ bytes) ≡
    with_front (commands_from at (combined prefix middle end sent))
    (all_at profile None (at + length (spelling (combined prefix middle end sent))) bytes)
combined_on profile prefix at middle end sent bytes is =
    let field = end.field in
    let apart = parts_apart field.sign field.whole field.fraction end.letter (sent ++ bytes) is.2.field.0 is.2.letter in
    let begins = ungrouped_front prefix.group (parameter_bytes end ++ (sent ++ bytes))
    (rw (parameter_joined field end.letter (sent ++ bytes)) apart) in
    let first = first_place at prefix in
    let place : first + length (flat_map parameter_bytes middle) + (length (parameter_bytes end ++ (sent ++ bytes)) - length bytes)
    ≡ at + length (spelling (combined prefix middle end sent)) = simp length-append (omega arith) in
    let whole : spelling (combined prefix middle end sent) ++ bytes
    ≡ 27 ∷ (prefix_bytes prefix ++ (flat_map parameter_bytes middle ++ (parameter_bytes end ++ (sent ++ bytes)))) =
    rw (append_assoc (prefix_bytes prefix), append_assoc (flat_map parameter_bytes middle), append_assoc (parameter_bytes end) sent) refl in
    let last = is_end end sent bytes (record { field = is.2.field; letter = is.2.letter; checks = is.2.checks }) in
    ap (all_at profile None at) whole ∙ sequence_on profile at middle is.0 begins is.1 last is.2.stays
    ∙ rw (place, with_fronts, all_commands prefix at first middle end sent) refl

-- ---- pieces

-- the steps from any piece on
piece_again : (profile : Profile) (piece : Piece) (at : ℕ) (bytes : List ℕ) → IsPiece profile piece bytes
    → all_at profile None at (spelling piece ++ bytes) ≡
    with_front (commands_from at piece) (all_at profile None (at + length (spelling piece)) bytes)
piece_again profile (combined prefix middle end sent) at bytes is = combined_on profile prefix at middle end sent bytes is
piece_again profile piece at bytes is =
    let long = piece_long profile piece bytes is in
    let some : 0 < length (spelling piece ++ bytes) = simp length-append (omega arith) in
    rw (one_step profile None at (spelling piece ++ bytes) (grind (arith, nat_tests)), piece_step profile piece at bytes is tt)
    (rw (place_of at (spelling piece) bytes) refl)

-- pieces are read so
pieces_again : (profile : Profile) (pieces : List Piece) (at : ℕ) (after : List ℕ) → ArePieces profile pieces after
    → all_at profile None at (flat_map spelling pieces ++ after)
    ≡ with_front (commands_of at pieces) (all_at profile None (at + length (flat_map spelling pieces)) after)
pieces_again profile [] at after each = rw (add-zero, no_front) refl
pieces_again profile (piece ∷ pieces) at after each =
    rw (append_assoc (spelling piece), piece_again profile piece at (flat_map spelling pieces ++ after) each.0)
    (rw (pieces_again profile pieces (at + length (spelling piece)) after each.1, with_fronts, place_further) refl)

-- the fault at a place outside sequences is found
fault_found : {profile : Profile} {at : ℕ} {bytes : List ℕ} {refusal : Refusal} → Fails profile at bytes refusal
    → all_at profile None at bytes ≡ Err refusal
unfolding read_outcome start_at sequence_at prefix_at named_at
fault_found {profile} {at} (in_parameter prefix middle is apart each f) =
    rw (sequence_on profile at middle is apart each (is_wrong (rw (← place_in_sequence at prefix middle) at f)) tt) refl
fault_found {profile} {at} (in_line {bytes = rest} field lines line f x e each ends l p) =
    let bytes = joined lines ++ (line ++ rest) in
    rw (← parameter_joined field 88 bytes, exit_first profile at field bytes f x e (foreign lines line rest each ends l p)) refl
fault_found (unknown_control c s o) = grind (arith, nat_tests)
fault_found lone_escape = refl
fault_found (no_sequence t p) = rw (t, p) refl
fault_found (unknown_two t o) = grind (arith, nat_tests)
fault_found (no_group p u) = grind (arith, nat_tests)
fault_found (bad_group p u g) = grind (arith, nat_tests)

-- ---- whole jobs

-- a reading of the job is what is read
pub reading_again : {profile : Profile} {job : List ℕ} {commands : List Said} → IsReading profile job commands
    → scan_outcome profile job ≡ Ok commands
unfolding read_outcome
reading_again {profile} r = rw (r.spelled, r.said) (simp append-nil at (pieces_again profile r.pieces 0 [] r.each))

-- a first fault of the job is what is found
pub fault_found_of : {profile : Profile} {job : List ℕ} {fault : Refusal} → IsFault profile job fault → scan_outcome profile job ≡ Err fault
fault_found_of {profile} f = rw (f.spelled, pieces_again profile f.front 0 f.after f.each, zero-add, fault_found f.fails) refl

-- each job has the one or the other
known : {profile : Profile} {job : List ℕ} → Reading profile 0 job
    → ((commands : List Said) × IsReading profile job commands) ⊎ ((fault : Refusal) × IsFault profile job fault)
known (reading pieces after each no_more) =
    inl (commands_of 0 pieces, record { pieces = pieces; each = each; spelled = append-nil (flat_map spelling pieces); said = refl })
known (reading pieces after each (first_fault fault f)) =
    inr (fault, record { front = pieces; each = each; after = after; spelled = refl; fails = rw zero-add at f })

pub job_known : (profile : Profile) (job : List ℕ)
    → ((commands : List Said) × IsReading profile job commands) ⊎ ((fault : Refusal) × IsFault profile job fault)
job_known profile job = known (is_read profile (suc (length job)) 0 job (omega arith))

-- so what is read says what the job is
pub reading_of : {profile : Profile} {job : List ℕ} {commands : List Said} → scan_outcome profile job ≡ Ok commands
    → IsReading profile job commands
reading_of {profile} {job} {commands} e = elim (job_known profile job) [
  | inl r ↦ let same : r.0 ≡ commands = (let again = reading_again r.1 in cc) in rw same at r.1
  | inr f ↦ absurd (let found = fault_found_of f.1 in cc)
]

pub fault_of : {profile : Profile} (job : List ℕ) (fault : Refusal) → scan_outcome profile job ≡ Err fault → IsFault profile job fault
fault_of {profile} job fault e = elim (job_known profile job) [
  | inl r ↦ absurd (let again = reading_again r.1 in cc)
  | inr f ↦ let same : f.0 ≡ fault = (let found = fault_found_of f.1 in cc) in rw same at f.1
]

-- what yields a fault finds the first one
pub fault_of_scan : (profile : Profile) (job : List ℕ) (fault : JobFault) (commands : List Said)
    → Yields (Err fault) commands (scan_outcome profile job)
    → IsFaultOf profile job fault
fault_of_scan profile job (Refused fault) commands y = fault_of job fault y
fault_of_scan profile job Memory commands y = tt
