-- Lists that are put one after the other, and the tables that they stand for.
use Rattle.std.proofs.Common.{◌≡◌, ℕ, zero, suc, ◌+◌, ◌-◌, ◌*◌, ◌^◌, ◌<◌, ◌≤◌, true, false, List, [], ◌∷◌, ◌++◌, length, take, drop, get_or, replicate, refl, sym, ap, subst, ◌∙◌, append_assoc, arith, inl, inr}
use Rattle.pcl_cert.proofs.Names.{nat_eq, AllByRecursion, cases_lt, ext_get_or, get_or_append_left, get_or-append_right, get_or-replicate, get_or_past, get_or-take, length-append, length-replicate, length-take, length-drop, drop_at, append-nil, take-append-le, drop-append-le, map_push, length-map, drop_of_length-le, IsList, list_bytes, ends_in_zero, numbers_from, count_at_front, list_from, lists_within, IsListAt, table_of, AreLeastTables, Method, Plain, Runs, Packed, Delta, method_code, base, IsLeastTable, length-base, page_height, page_row_bytes, Picture, row_at, row_above, bitmap_rows, length_rows, method_small, Lists, IsTrimmed, HasListMore, HasRowMore, HoldsRows, HoldsRowsOf, AreWhole, listed}
use Rattle.pcl_cert.proofs.FieldsRead.{two_bytes}
use Rattle.pcl_cert.proofs.Lists.{all_both}
use Rattle.pcl_cert.proofs.Numbers.{numbers_of_front}
use Rattle.pcl_cert.proofs.ListsSpelled.{numbers_again, text_len}

-- ---- tables of lists

pub table_length : (n : ℕ) (list : List ℕ) → length (table_of n list) ≡ n
table_length n list = omega (arith, length-take {A = ℕ}, length-append {A = ℕ}, length-replicate {A = ℕ})

pub table_number : {n : ℕ} (list : List ℕ) {k : ℕ} → k < n → get_or (table_of n list) k 0 ≡ get_or list k 0
table_number {n} list {k} lt =
    let front = get_or_append_left list (replicate n 0) 0 k in
    let after = get_or-append_right list (replicate n 0) (length list) k 0 refl in
    grind (arith, get_or-take n (list ++ replicate n 0) k 0 lt, get_or-replicate {A = ℕ} n (k - length list) 0 0, get_or_past list k 0)

-- ---- numbers without the zeros at their end

end_of_front : (numbers : List ℕ) (k : ℕ) → k < length numbers → ends_in_zero (take (suc k) numbers) ≡ nat_eq (get_or numbers k 0) 0
end_of_front (n ∷ numbers) zero within = refl
end_of_front (n ∷ m ∷ numbers) (suc k) within = end_of_front (m ∷ numbers) k (omega arith)
end_of_front numbers k within = absurd (omega arith)

pub trimmed_is : {numbers : List ℕ} {len : ℕ} → len ≤ length numbers → ((k : ℕ) → len ≤ k → k < length numbers → get_or numbers k 0 ≡ 0)
    → (0 < len → nat_eq (get_or numbers (len - 1) 0) 0 ≡ false) → IsTrimmed numbers (take len numbers)
trimmed_is {numbers} {len} within zeros ends = record {
  len = len;
  within = within;
  front = refl;
  zeros = zeros;
  ends = grind (arith, end_of_front numbers (len - 1), ends);
}

-- a trimmed list stands for the numbers
pub table_of_trimmed : {numbers list : List ℕ} → IsTrimmed numbers list → table_of (length numbers) list ≡ numbers
table_of_trimmed {numbers} {list} is =
    ext_get_or 0 (table_of (length numbers) list) numbers (table_length (length numbers) list) (λ k lt.
    let in_numbers : k < length numbers = omega (arith, table_length (length numbers) list) in
    let front = get_or-take is.len numbers k 0 in
    let past = get_or_past (take is.len numbers) k 0 in
    grind (arith, table_number list in_numbers, is.front, length-take is.len numbers, is.zeros k))

-- ---- a list more

numbers_stay : (n : ℕ) (bytes more : List ℕ) → 2 * n ≤ length bytes → numbers_from n (bytes ++ more) ≡ numbers_from n bytes
numbers_stay n bytes more long =
    sym (numbers_of_front n (bytes ++ more)) ∙ ap (numbers_from n) (take-append-le (2 * n) bytes more long) ∙ numbers_of_front n bytes

-- a list that is whole stays where more bytes come
list_stays : {bytes : List ℕ} (more : List ℕ) {start : ℕ} → IsListAt bytes start
    → (list_from (drop start (bytes ++ more)) ≡ list_from (drop start bytes)) × IsListAt (bytes ++ more) start
list_stays {bytes} more {start} is =
    let list : List ℕ = drop start bytes in
    let room : 2 + 2 * count_at_front list ≤ length list = omega (arith, is.whole, length-drop start bytes) in
    let moved : drop start (bytes ++ more) ≡ list ++ more = drop-append-le start bytes more (omega (arith, is.whole)) in
    let front = take-append-le 2 list more (omega (arith, room)) in
    let numbers = numbers_stay (count_at_front list) (drop 2 list) more (omega (arith, room, length-drop 2 list)) in
    let whole = length-append bytes more in
    (rw (moved, front, drop-append-le 2 list more (omega (arith, room))) numbers, record { whole = rw (moved, front) (omega arith) })

lists_stay : (bytes more starts : List ℕ) → AllByRecursion (IsListAt bytes) starts
    → (lists_within (bytes ++ more) starts ≡ lists_within bytes starts) × AllByRecursion (IsListAt (bytes ++ more)) starts
lists_stay bytes more [] whole = (refl, tt)
lists_stay bytes more (start ∷ starts) whole =
    let first = list_stays more whole.0 in
    let others = lists_stay bytes more starts whole.1 in (rw (first.0, others.0), (first.1, others.1))

small_front : (numbers : List ℕ) (len : ℕ) → ((k : ℕ) → get_or numbers k 0 < 2 ^ 16) → AllByRecursion (λ n. n < 2 ^ 16) (take len numbers)
small_front [] zero small = tt
small_front (n ∷ numbers) (suc len) small = (small 0, small_front numbers len (λ k. small (suc k)))
small_front numbers len small = tt

pub list_more : {old new : Lists} {numbers list : List ℕ} → AreWhole old → length numbers < 2 ^ 16
    → ((k : ℕ) → get_or numbers k 0 < 2 ^ 16) → IsTrimmed numbers list → new.bytes.items ≡ old.bytes.items ++ list_bytes list
    → new.starts.items ≡ old.starts.items ++ length old.bytes.items ∷ [] → HasListMore old new numbers
list_more {old} {new} {numbers} {list} whole few small is bytes_are starts_are =
    let bytes : List ℕ = old.bytes.items in
    let text : List ℕ = list_bytes list in
    let start : ℕ = length bytes in
    let size : length list ≤ length numbers = omega (arith, ap length is.front, length-take is.len numbers) in
    let small_list : AllByRecursion (λ n. n < 2 ^ 16) list = rw is.front (small_front numbers is.len small) in
    let count : count_at_front text ≡ length list = two_bytes.again (length list) (omega (arith, size, few)) in
    let front : list_from text ≡ list = rw count (rw append-nil at (numbers_again list [] small_list)) in
    let there : drop start (bytes ++ text) ≡ text = drop_at bytes text start refl in
    let stay = lists_stay bytes text old.starts.items whole in
    let placed = map_push (λ (s : ℕ). list_from (drop s (bytes ++ text))) old.starts.items start in
    record {
      list = list;
      trimmed = is;
      small = small_list;
      lists = rw (bytes_are, starts_are, placed, stay.0, there, front);
      whole = rw (bytes_are, starts_are) (all_both (IsListAt (bytes ++ text)) old.starts.items (start ∷ []) stay.1
          (record { whole = rw there (omega (arith, count, length-append bytes text, text_len list)) }, tt));
    }

-- ---- a row's list more

pub row_more : {method : Method} {seed row : List ℕ} {old new : Lists} {numbers : List ℕ} → length seed ≡ length row
    → IsLeastTable method seed row numbers → HasListMore old new numbers → HasRowMore method seed row old new
row_more {method} {seed} {row} {numbers} same least more =
    let is = more.trimmed in
    let size : length numbers ≡ length row + 1 = least.table_is.size in
    let width : ℕ = length row in
    let last : get_or numbers width 0 ≡ 0 = least.table_is.feasible.ends width
    (drop_of_length-le row (omega arith) ∙ sym (drop_of_length-le (base method seed) (omega (arith, length-base method seed, same)))) in
    let len_is : length more.list ≡ is.len = omega (arith, ap length is.front, length-take is.len numbers, is.within) in
    record {
      list = more.list;
      lists = more.lists;
      whole = more.whole;
      is_list = record {
        short = elim (cases_lt width is.len) [
          | inl full ↦
              let all : is.len ≡ suc width = omega (arith, is.within, size) in
              let ends : ends_in_zero more.list ≡ true =
              rw (is.front, all) (end_of_front numbers width (omega (arith, size)) ∙ rw last refl) in
              absurd cc
          | inr shorter ↦ omega (arith, len_is, shorter)
        ];
        small = more.small;
        ends = is.ends;
      };
      least = rw (← size, table_of_trimmed is) least;
    }

-- ---- rows

-- the lists of a row are put after the others, one after the other
pub record HasFourMore (seed row : List ℕ) (old new : Lists) : Type 0 where
  pub first : Lists
  pub second : Lists
  pub third : Lists
  pub plain : HasRowMore Plain seed row old first
  pub runs : HasRowMore Runs seed row first second
  pub packed : HasRowMore Packed seed row second third
  pub delta : HasRowMore Delta seed row third new

abbrev four_lists : {seed row : List ℕ} {old new : Lists} → HasFourMore seed row old new → List (List ℕ)
four_lists more = more.plain.list ∷ more.runs.list ∷ more.packed.list ∷ more.delta.list ∷ []

four_least : {seed row : List ℕ} {old new : Lists} (more : HasFourMore seed row old new) (method : Method)
    → IsLeastTable method seed row (table_of (length row + 1) (get_or (four_lists more) (method_code method) []))
four_least more Plain = more.plain.least
four_least more _ = assumption

listed_length : (lists : Lists) → length (listed lists) ≡ length lists.starts.items
listed_length lists = length-map lists.starts.items (λ (s : ℕ). list_from (drop s lists.bytes.items))

pub one_row_more : {width : ℕ} {rows : List (List ℕ)} {done : ℕ} {old new : Lists} → HoldsRows width rows done old
    → length (row_at rows done) ≡ width → HasFourMore (row_above width rows done) (row_at rows done) old new
    → HoldsRows width rows (done + 1) new
one_row_more {width} {rows} {done} {old} {new} holds wide more =
    let four : List (List ℕ) = four_lists more in
    let all : listed new ≡ listed old ++ four =
    rw (more.delta.lists, more.packed.lists, more.runs.lists, more.plain.lists) (simp append_assoc) in
    let before : length (listed old) ≡ 4 * done = listed_length old ∙ holds.size in
    record {
      size = omega (arith, sym (listed_length new), ap length all, length-append (listed old) four, before);
      whole = more.delta.whole;
      lists_are = rw all (all_both (IsList width) (listed old) four holds.lists_are (
          subst (λ (n : ℕ). AllByRecursion (IsList n) four) wide
          (more.plain.is_list, (more.runs.is_list, (more.packed.is_list, (more.delta.is_list, tt))))));
      least = λ y method lt. rw all (elim (cases_lt y done) [
        | inl earlier ↦
            let code = method_small method in
            rw (get_or_append_left (listed old) four [] (4 * y + method_code method) (omega (arith, before))) (holds.least y method earlier)
        | inr le ↦
            let last : y ≡ done = omega arith in
            let place : 4 * y + method_code method - 4 * done ≡ method_code method = omega arith in
            let after = get_or-append_right (listed old) four (4 * done) (4 * y + method_code method) [] before (omega arith) in
            rw (after, place, last) (rw wide at (four_least more method))
      ]);
    }

-- all rows are there
pub all_rows : (picture : Picture) {done : ℕ} {lists : Lists} → HoldsRowsOf picture done lists → done ≡ page_height picture.size picture.dpi
    → AreLeastTables (page_row_bytes picture.size picture.dpi) (bitmap_rows picture) (listed lists)
all_rows picture {lists} holds all =
    let count : length (bitmap_rows picture) ≡ page_height picture.size picture.dpi =
    length_rows (page_height picture.size picture.dpi) (page_row_bytes picture.size picture.dpi) picture.bytes in
    record {
      size = omega (arith, listed_length lists, holds.size, all, count);
      lists_are = holds.lists_are;
      least = λ row method lt. holds.least row method (omega (arith, all, count, lt));
    }
