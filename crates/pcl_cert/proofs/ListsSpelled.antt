-- Lists of row tables: whatever is read is spelled so, and what is spelled is read.
use Rattle.std.proofs.Common.{◌≡◌, ℕ, zero, suc, ◌+◌, ◌*◌, ◌^◌, ◌<◌, false, List, [], ◌∷◌, ◌++◌, length, take, drop, Option, Some, None, Ok, refl, ap, ◌∙◌, arith}
use Rattle.pcl_cert.proofs.Names.{w16, to_be_bytes, flat_map, AllByRecursion, nat_lt, le-ltb, drop_at, take-append-drop, length-append, flat_map-cons, Format, One, Two, IsList, list_bytes, lists_bytes, HasLists, count_at_front, lists_at}
use Rattle.pcl_cert.specs.RowTables.{numbers_from}
use Rattle.pcl_cert.specs.ReadingCertificates.{list_at, places_at}
use Rattle.pcl_cert.proofs.FieldsRead.{AreBytes, rest_bytes, front_bytes, step_ok, same_ok, two_bytes}
use Rattle.pcl_cert.proofs.Numbers.{length_numbers, list_spelled}
use Rattle.pcl_cert.proofs.Lists.{list_found}
use Rattle.pcl_cert.proofs.PagesRead.{lists_are_many}
use Rattle.pcl_cert.proofs.Spelled.{Spells, number_spells, many_spell}

-- ---- numbers

numbers_small : (n : ℕ) (bytes : List ℕ) → AreBytes bytes → AllByRecursion (λ k. k < 2 ^ 16) (numbers_from n bytes)
unfolding numbers_from
numbers_small zero bytes are = tt
numbers_small (suc n) bytes are =
    (two_bytes.below (take 2 bytes) (front_bytes 2 bytes are), numbers_small n (drop 2 bytes) (rest_bytes 2 bytes are))

pub text_len : (numbers : List ℕ) → length (flat_map (to_be_bytes w16) numbers) ≡ 2 * length numbers
text_len [] = refl
text_len (n ∷ numbers) = omega (arith, ap length (flat_map-cons (to_be_bytes w16) n numbers), text_len numbers)

pub numbers_again : (numbers rest : List ℕ) → AllByRecursion (λ k. k < 2 ^ 16) numbers
    → numbers_from (length numbers) (flat_map (to_be_bytes w16) numbers ++ rest) ≡ numbers
unfolding numbers_from
numbers_again [] rest small = refl
numbers_again (n ∷ numbers) rest small = rw (two_bytes.again n small.0, numbers_again numbers rest small.1) refl

-- ---- one list

list_again : {most : ℕ} {numbers rest : List ℕ} → most < 2 ^ 16 → IsList most numbers
    → list_at most (list_bytes numbers ++ rest) ≡ Ok (numbers, rest)
unfolding list_at
list_again {most} {numbers} {rest} few is =
    let count : ℕ = length numbers in
    let text : List ℕ = flat_map (to_be_bytes w16) numbers in
    let short : nat_lt most count ≡ false = le-ltb _ _ is.short in
    let there : nat_lt (length (text ++ rest)) (2 * count) ≡ false =
    le-ltb _ _ (omega (arith, length-append text rest, text_len numbers)) in
    let head = (number_spells two_bytes).again count (text ++ rest) (omega (arith, is.short)) in
    rw (head, short, there, numbers_again numbers rest is.small, is.ends, drop_at text rest (2 * count) (text_len numbers))

pub list_spells : {most : ℕ} → most < 2 ^ 16 → Spells (list_at most) list_bytes (IsList most)
list_spells few = record {
  found = λ bytes x are e.
      let found = list_found e in
      let text : list_bytes x.0 ≡ take (2 + 2 * count_at_front bytes) bytes =
      ap list_bytes found.numbers_are ∙ list_spelled bytes are found.whole in (
        record {
          joined = cc (found.rest_is, text, take-append-drop (2 + 2 * count_at_front bytes) bytes);
          rest_are = rw found.rest_is (rest_bytes (2 + 2 * count_at_front bytes) bytes are);
        },
        record {
          short = omega (arith, found.few, ap length found.numbers_are, length_numbers (count_at_front bytes) (drop 2 bytes));
          small = rw found.numbers_are (numbers_small (count_at_front bytes) (drop 2 bytes) (rest_bytes 2 bytes are));
          ends = found.ends;
        },
      );
  again = λ numbers rest is. list_again few is;
}

-- ---- the lists of a page

two_again : (rows : ℕ) {most : ℕ} → most < 2 ^ 16 → (places : Option (List (List ℕ))) (rest : List ℕ) → HasLists Two rows most places
    → places_at Two rows most (lists_bytes places ++ rest) ≡ Ok (places, rest)
unfolding places_at
two_again rows few None rest is = absurd is
two_again rows {most} few (Some lists) rest is =
    let spell = many_spell (lists_are_many most) (list_spells few) (4 * rows) in rw (spell.again lists rest is) refl

pub places_spell : (format : Format) (rows : ℕ) {most : ℕ} → most < 2 ^ 16
    → Spells (places_at format rows most) lists_bytes (HasLists format rows most)
unfolding places_at
places_spell One rows {most} few = record {
  found = λ bytes x are e. rw (← same_ok e) (record { joined = refl; rest_are = are }, refl);
  again = λ places rest is. rw is refl;
}
places_spell Two rows {most} few =
    let lists = many_spell (lists_are_many most) (list_spells few) (4 * rows) in
    record {
      found = λ bytes x are e.
          let a = step_ok (lists_at (4 * rows) most bytes) e in rw (← same_ok a.2) (lists.found bytes a.0 are a.1);
      again = two_again rows few;
    }
