-- Reading row tables: where the lists stand in the bytes.
use Rattle.std.proofs.Common.{◌≡◌, ℕ, ◌+◌, ◌-◌, ◌*◌, ◌<◌, ◌≤◌, false, List, [], ◌∷◌, ◌++◌, length, take, drop, Result, Ok, Err, sym, ap, ◌∙◌, arith, nat_lt, if◌then◌else◌}
use Rattle.pcl_cert.proofs.Names.{w16, AllByRecursion, numbers_from, count_at_front, list_from, lists_within, IsListAt, ltb-false, le-ltb, drop-drop, length-drop, length-append, map_push, CertFault, Short, Places, ends_in_zero, FailsAs, beyond, uint_at, list_after, lists_at}
use Rattle.pcl_cert.specs.ReadingCertificates.{list_at}
use Rattle.pcl_cert.proofs.FieldsRead.{step_ok, passed, same_ok}
use Rattle.pcl_cert.proofs.Numbers.{numbers_of_front}
use Rattle.pcl_cert.proofs.Loops.{Stands, fails_same, goes_on}
use Rattle.pcl_cert.proofs.PagesRead.{lists_are_many}

-- where a loop stands that has read this many lists: the rest of the bytes, and where the lists begin
pub record StandsInLists (count most done : ℕ) (bytes rest : List ℕ) (starts : List ℕ) : Type 0 where
  pub read : Stands (λ n. lists_at n most) count done bytes rest (lists_within bytes starts)
  pub suffix : rest ≡ drop (length bytes - length rest) bytes
  pub within : length rest ≤ length bytes
  pub whole : AllByRecursion (IsListAt bytes) starts
  pub many : length starts ≡ done

-- ---- one list

pub after_ok : {X : Type 0} (read : Result (X × List ℕ) CertFault) (rest : List ℕ) → beyond read ≡ Ok rest
    → (x : X) × (read ≡ Ok (x, rest))
after_ok (Ok x) rest e = (x.0, ap (λ (bytes : List ℕ). Ok (x.0, bytes)) (same_ok e))
after_ok (Err fault) rest e = absurd cc

pub after_fails : {X : Type 0} (fault : CertFault) (read : Result (X × List ℕ) CertFault) → FailsAs fault (beyond read) → FailsAs fault read
after_fails fault (Ok x) = fails_same fault (λ e. absurd cc)
after_fails fault (Err other) = fails_same fault (λ e. cc)

-- what is found where the count is good and the numbers are there
pub list_checked : {most : ℕ} (bytes : List ℕ) {count : ℕ} {rest : List ℕ} → uint_at w16 bytes ≡ Ok (count, rest)
    → count ≤ most → 2 * count ≤ length rest → beyond (list_at most bytes)
    ≡ (if ends_in_zero (numbers_from count (take (2 * count) rest)) then Err Places else Ok (drop (2 * count) rest))
unfolding list_at
list_checked {most} bytes {count} {rest} read few long =
    let good : nat_lt most count ≡ false = le-ltb _ _ few in
    let there : nat_lt (length rest) (2 * count) ≡ false = le-ltb _ _ long in
    rw (read, good, there, numbers_of_front count rest) (grind arith)

-- a list that is read stands there, whole
pub record IsFound (most : ℕ) (bytes : List ℕ) (numbers rest : List ℕ) : Type 0 where
  pub numbers_are : numbers ≡ list_from bytes
  pub whole : 2 + 2 * count_at_front bytes ≤ length bytes
  pub rest_is : rest ≡ drop (2 + 2 * count_at_front bytes) bytes
  pub few : count_at_front bytes ≤ most
  pub ends : ends_in_zero numbers ≡ false

pub list_found : {most : ℕ} {bytes numbers rest : List ℕ} → list_at most bytes ≡ Ok (numbers, rest) → IsFound most bytes numbers rest
unfolding list_at
list_found {most} {bytes} {numbers} {rest} e =
    let long = (passed (nat_lt (length bytes) 2) Short (step_ok (uint_at w16 bytes) e).1).0 in
    let read : list_after most (count_at_front bytes, drop 2 bytes) ≡ Ok (numbers, rest) = rw long at e in
    let few = passed (nat_lt most (count_at_front bytes)) Places read in
    let there = passed (nat_lt (length (drop 2 bytes)) (2 * count_at_front bytes)) Short few.1 in
    let ends = passed (ends_in_zero (list_from bytes)) Places there.1 in
    let made = same_ok ends.1 in
    let numbers_are : numbers ≡ list_from bytes = sym (ap (λ (x : List ℕ × List ℕ). x.0) made) in
    record {
      numbers_are = numbers_are;
      whole = omega (arith, ltb-false _ _ long, ltb-false _ _ there.0, length-drop 2 bytes);
      rest_is = sym (ap (λ (x : List ℕ × List ℕ). x.1) made) ∙ drop-drop (2 * count_at_front bytes) 2 bytes;
      few = ltb-false _ _ few.0;
      ends = rw numbers_are ends.0;
    }

-- ---- many lists

pub all_both : {X : Type 0} (P : X → Type 0) (xs ys : List X) → AllByRecursion P xs → AllByRecursion P ys → AllByRecursion P (xs ++ ys)
all_both P [] ys all others = others
all_both P (x ∷ xs) ys all others = (all.0, all_both P xs ys all.1 others)

-- one list more was read
pub next_list : {count most done : ℕ} {bytes rest starts : List ℕ} (numbers after : List ℕ)
    → done < count → list_at most rest ≡ Ok (numbers, after) → StandsInLists count most done bytes rest starts
    → StandsInLists count most (done + 1) bytes after (starts ++ (length bytes - length rest) ∷ [])
next_list {count} {most} {done} {bytes} {rest} {starts} numbers after lt read stands =
    let start : ℕ = length bytes - length rest in
    let found = list_found read in
    let taken : length after ≡ length rest - (2 + 2 * count_at_front rest) =
    ap length found.rest_is ∙ length-drop (2 + 2 * count_at_front rest) rest in
    let place : start + (2 + 2 * count_at_front rest) ≡ length bytes - length after = omega (arith, taken, found.whole, stands.within) in
    record {
      read = rw (map_push (λ (s : ℕ). list_from (drop s bytes)) starts start, ← stands.suffix, ← found.numbers_are)
          (goes_on (lists_are_many most) stands.read numbers after lt read);
      suffix = rw (← place) (found.rest_is ∙ ap (drop (2 + 2 * count_at_front rest)) stands.suffix
          ∙ drop-drop (2 + 2 * count_at_front rest) start bytes);
      within = omega (arith, taken, stands.within);
      whole = all_both (IsListAt bytes) starts (start ∷ []) stands.whole
          (record { whole = rw (← stands.suffix) (omega (arith, found.whole, stands.within)) }, tt);
      many = omega (arith, length-append starts (start ∷ []), stands.many);
    }
