-- The lines after a universal exit: what is skipped is what they are, both ways.
use Rattle.std.proofs.Common.{◌≡◌, ℕ, zero, suc, ◌+◌, ◌-◌, ◌<◌, ◌≤◌, true, false, ◌==◌, not, nat_eq, if◌then◌else◌, IsTrue, List, [], ◌∷◌, ◌++◌, length, take, drop, ◌⊎◌, inl, inr, Result, Ok, Err, refl, sym, ap, subst, ◌∙◌, append_assoc, append-nil, length-append, length-drop, take-append-drop, take_at, drop_at, add-zero, eqb-true, arith}
use Rattle.pcl_escape.proofs.Names.{cases_Bool, codes, flat_map, flat_map-append, bytes_eq, is_job_line, names_language, names_pcl, HasNoFeed, IsLine, joined, AreOtherLines, AreLines, to_other_bytes, to_pcl, line_len, lines_at}
use Rattle.pcl_escape.specs.inner.Lines.{lines_from}
use Rattle.pcl_escape.proofs.Fields.{by_test}

-- ---- one line

-- a line ends at its LF, or at the end
abbrev pub Ends : List ℕ → List ℕ → Type 0
Ends line after = ((text : List ℕ) × (line ≡ text ++ 10 ∷ []) × HasNoFeed text) ⊎ ((after ≡ []) × HasNoFeed line)

-- a line of the job language has bytes
pub line_long : (bytes : List ℕ) → is_job_line bytes ≡ true → 0 < line_len bytes
line_long bytes e = grind arith

-- a line has no more bytes than there are
pub line_within : (bytes : List ℕ) → line_len bytes ≤ length bytes
line_within [] = omega arith
line_within (byte ∷ bytes) = grind (arith, line_within bytes)

-- the line at the front ends so
line_ends : (bytes : List ℕ) → Ends (take (line_len bytes) bytes) (drop (line_len bytes) bytes)
line_ends [] = inr (refl, tt)
line_ends (byte ∷ bytes) = by_test (λ (n : ℕ). Ends (take n (byte ∷ bytes)) (drop n (byte ∷ bytes))) (byte == 10)
    (λ e. inl ([], ap (λ (b : ℕ). b ∷ []) (eqb-true byte 10 e), tt))
    (λ e. elim (line_ends bytes) [
      | inl fed ↦ inl (byte ∷ fed.0, ap (λ (bs : List ℕ). byte ∷ bs) fed.1, (e, fed.2))
      | inr last ↦ inr (last.0, (e, last.1))
    ])

-- a word without LF at the front is in the line at the front
word_in_line : (word bytes : List ℕ) → HasNoFeed word → bytes_eq word (take (length word) bytes) ≡ true
    → bytes_eq word (take (length word) (take (line_len bytes) bytes)) ≡ true
word_in_line (c ∷ word) (byte ∷ bytes) none e =
    let same : nat_eq c byte ≡ true = grind arith in
    let other = rw (eqb-true c byte same) at none.0 in
    rw (other, same) (word_in_line word bytes none.1 (grind arith))
word_in_line [] bytes none e = refl
word_in_line _ _ none e = absurd cc

-- a word at the front of a line is at the front of what it begins
word_before : (word line after : List ℕ) → bytes_eq word (take (length word) line) ≡ true
    → bytes_eq word (take (length word) (line ++ after)) ≡ true
word_before [] line after e = refl
word_before (c ∷ word) [] after e = absurd cc
word_before (c ∷ word) (byte ∷ line) after e = grind (arith, word_before word line after)

-- the line at the front is a line
line_is : (bytes : List ℕ) → is_job_line bytes ≡ true → IsLine (take (line_len bytes) bytes) (drop (line_len bytes) bytes)
line_is bytes e = (word_in_line (codes "@PJL") bytes (refl, (refl, (refl, (refl, tt)))) e, line_ends bytes)

-- a line goes on where there is no LF
text_again : (text after : List ℕ) → HasNoFeed text → line_len (text ++ after) ≡ length text + line_len after
text_again [] after none = omega arith
text_again (byte ∷ text) after none = rw none.0 (omega (arith, text_again text after none.1))

-- a line is found as it ends
found_again : {line after : List ℕ} → Ends line after → line_len (line ++ after) ≡ length line
found_again {after} (inl (text, same, none)) = rw (same, append_assoc, text_again text (10 ∷ after) none) (simp length-append)
found_again {line} (inr (same, none)) = rw (same, text_again line [] none) (omega arith)

-- ---- one step

-- the bytes after a line are fewer
shorter_after : (bytes : List ℕ) → is_job_line bytes ≡ true → length (drop (line_len bytes) bytes) < length bytes
shorter_after bytes e = simp length-drop (omega (arith, line_long bytes e, line_within bytes))

-- any number of steps that is enough
lines_enough : (n m place : ℕ) (bytes : List ℕ) → length bytes < n → length bytes < m → lines_from n place bytes ≡ lines_from m place bytes
unfolding lines_from
lines_enough zero m place bytes h k = absurd (omega arith)
lines_enough (suc n) zero place bytes h k = absurd (omega arith)
lines_enough (suc n) (suc m) place bytes h k =
    grind (arith, shorter_after bytes, lines_enough n m (place + line_len bytes) (drop (line_len bytes) bytes))

-- a line is skipped, or ends the skipping
at_line : {line after : List ℕ} (place : ℕ) → IsLine line after
    → lines_at place (line ++ after) ≡ (if not (names_language line) then lines_at (place + length line) after
    else (if names_pcl line then Ok after else Err place))
unfolding lines_from
at_line {line} {after} place is =
    let some = line_long line is.0 in
    let within = line_within line in
    let fewer : length after < length (line ++ after) = simp length-append (omega arith) in
    rw (found_again is.1, take_at line after _ refl, drop_at line after _ refl, word_before (codes "@PJL") line after is.0)
    (rw (lines_enough (length (line ++ after)) (suc (length after)) (place + length line) after fewer (omega arith)) refl)

-- so do other bytes than a line of the job language
pub at_other_bytes : (place : ℕ) {bytes : List ℕ} → false ≡ is_job_line bytes → lines_at place bytes ≡ Ok bytes
unfolding lines_from
at_other_bytes place e = rw (← e) refl

-- the line at the front, cut off
pub record IsCut (bytes line after : List ℕ) : Type 0 where
  pub job : true ≡ is_job_line bytes
  pub line_is : line ≡ take (line_len bytes) bytes
  pub after_is : after ≡ drop (line_len bytes) bytes

-- is skipped, or ends the skipping
pub at_cut : (place : ℕ) {bytes line after : List ℕ} → IsCut bytes line after
    → lines_at place bytes ≡ (if not (names_language line) then lines_at (place + (length bytes - length after)) after
    else (if names_pcl line then Ok after else Err place))
at_cut place {bytes} {line} {after} cut =
    let is : IsLine line after = rw (cut.line_is, cut.after_is) (line_is bytes (sym cut.job)) in
    let whole : bytes ≡ line ++ after = rw (cut.line_is, cut.after_is) (sym (take-append-drop (line_len bytes) bytes)) in
    let len : length (line ++ after) - length after ≡ length line = simp length-append (omega arith) in
    rw (whole, len) (at_line place is)

-- ---- from the steps to the lines

-- what the bytes are, and what the lines in front of them give
pub data Lines (place : ℕ) : List ℕ → Result (List ℕ) ℕ → Type 0 where
  skipped : (lines : List (List ℕ)) (rest : List ℕ) → AreLines lines rest → Lines place (joined lines ++ rest) (Ok rest)
  foreign : (lines : List (List ℕ)) (line rest : List ℕ) → AreOtherLines lines (line ++ rest) → IsLine line rest
      → IsTrue (names_language line) → names_pcl line ≡ false
      → Lines place (joined lines ++ (line ++ rest)) (Err (place + length (joined lines)))

-- a last one is joined to the others
pub last_joined : {A : Type 0} (f : A → List ℕ) (all : List A) (last : A) (rest : List ℕ)
    → flat_map f (all ++ last ∷ []) ++ rest ≡ flat_map f all ++ (f last ++ rest)
last_joined f all last rest = simp (flat_map-append, append-nil, append_assoc)

-- one more line that asks for no language
more_lines : {line : List ℕ} {all : List (List ℕ)} {rest : List ℕ} → IsLine line (joined all ++ rest) → names_language line ≡ false
    → AreLines all rest → AreLines (line ∷ all) rest
more_lines {line} is none (to_other_bytes lines each e) = to_other_bytes (line ∷ lines) (is, none, each) e
more_lines {line} {rest} is none (to_pcl lines last each ends l p) =
    to_pcl (line ∷ lines) last (rw (last_joined (λ (bs : List ℕ). bs) lines last rest) at is, none, each) ends l p

-- a line in front
line_first : {place : ℕ} {line after : List ℕ} {read : Result (List ℕ) ℕ} → IsLine line after → names_language line ≡ false
    → Lines (place + length line) after read → Lines place (line ++ after) read
line_first {line} is none (skipped lines rest each) =
    rw (← append_assoc line (joined lines) rest) (skipped (line ∷ lines) rest (more_lines is none each))
line_first {place} {line} is none (foreign lines last rest each ends l p) =
    let further : place + length line + length (joined lines) ≡ place + length (line ++ joined lines) = simp length-append (omega arith) in
    rw (further, ← append_assoc line (joined lines) (last ++ rest)) (foreign (line ∷ lines) last rest (is, none, each) ends l p)

-- what the steps give says what the bytes are
lines_split : (n : ℕ) {place : ℕ} {bytes : List ℕ} → length bytes < n → Lines place bytes (lines_at place bytes)
lines_split zero h = absurd (omega arith)
lines_split (suc n) {place} {bytes} h = elim (cases_Bool (is_job_line bytes)) [
  | inr other ↦ rw (at_other_bytes place (sym other)) (skipped [] bytes (to_other_bytes [] tt other))
  | inl job ↦
      let line = take (line_len bytes) bytes in
      let after = drop (line_len bytes) bytes in
      let is = line_is bytes job in
      let shorter = shorter_after bytes job in
      subst (λ (bs : List ℕ). Lines place bs (lines_at place bs)) (take-append-drop (line_len bytes) bytes)
      (rw (at_line place is) (by_test (Lines place (line ++ after)) (not (names_language line))
      (λ l. line_first is (grind arith) (lines_split n (omega arith)))
      (λ l. let asks : names_language line ≡ true = grind arith in by_test (Lines place (line ++ after)) (names_pcl line)
      (λ p. rw (← append-nil line) (skipped (line ∷ []) after (to_pcl [] line tt is asks p)))
      (λ p. subst (λ (k : ℕ). Lines place (line ++ after) (Err k)) (add-zero place) (foreign [] line after tt is asks p)))))
]

pub lines_are : (place : ℕ) (bytes : List ℕ) → Lines place bytes (lines_at place bytes)
lines_are place bytes = lines_split (suc (length bytes)) (omega arith)

-- what stands after lines is no longer than what stands before them
skipped_within : {place : ℕ} {bytes rest : List ℕ} → Lines place bytes (Ok rest) → length rest ≤ length bytes
skipped_within (skipped lines rest each) = simp length-append (omega arith)

pub lines_within : (place : ℕ) (bytes rest : List ℕ) → lines_at place bytes ≡ Ok rest → length rest ≤ length bytes
lines_within place bytes rest e = skipped_within (rw e at (lines_are place bytes))

-- ---- from the lines to the steps

-- lines that ask for no language are skipped
others_again : (lines : List (List ℕ)) (place : ℕ) (after : List ℕ) → AreOtherLines lines after
    → lines_at place (joined lines ++ after) ≡ lines_at (place + length (joined lines)) after
others_again [] place after each = rw add-zero refl
others_again (line ∷ lines) place after each =
    let further : place + length line + length (joined lines) ≡ place + length (line ++ joined lines) = simp length-append (omega arith) in
    rw (append_assoc line (joined lines) after, at_line place each.0, each.1)
    (others_again lines (place + length line) after each.2 ∙ rw further refl)

-- so are all lines, and one that asks for another language is found
pub lines_again : {place : ℕ} {bytes : List ℕ} {read : Result (List ℕ) ℕ} → Lines place bytes read → lines_at place bytes ≡ read
lines_again {place} (skipped all rest (to_other_bytes lines each e)) = others_again lines place rest each ∙ at_other_bytes _ (sym e)
lines_again {place} (skipped all rest (to_pcl lines line each ends l p)) =
    rw (last_joined (λ (bs : List ℕ). bs) lines line rest) (others_again lines place (line ++ rest) each ∙ at_line _ ends ∙ rw (l, p) refl)
lines_again {place} (foreign lines line rest each ends l p) = others_again lines place (line ++ rest) each ∙ at_line _ ends ∙ rw (l, p) refl
