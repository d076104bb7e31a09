-- A table that is filled one row upwards.
use Rattle.std.proofs.Common.{◌≡◌, ℕ, zero, suc, ◌+◌, ◌-◌, ◌<◌, ◌≤◌, Bool, true, false, List, [], length, drop, refl, subst, ◌∙◌, inl, inr, arith}
use Rattle.pcl_plan.proofs.Names.{cases_lt, drop_more, Method, IsLeastLength, RowNumbers, AreWhite, Node, row_at, row_above, number_in, node_number, end_numbers, rest, skipping, IsReadable, IsLeastStart, IsDirect, AreRowNumbers, IsRowRight, AreRowsRightFrom, AreSkippable, IsWhiteRun, node, white_front, white_below, skippable_within, ink_left}
use Rattle.pcl_plan.proofs.RightRows.{at_row, row_stays, end_number, white_row_right}
use Rattle.pcl_plan.proofs.InkedRows.{inked_row_right}

-- ---- what is read of a table

falls_by : {width : ℕ} {rows : List (List ℕ)} {table : List RowNumbers} {row run : ℕ} → AreRowsRightFrom width rows table (row + 1)
    → IsWhiteRun rows row run → (method : Method) (near gap : ℕ) → 0 < near → near + gap ≤ run
    → rest (node_number table) (row + (near + gap)) method ≤ rest (node_number table) (row + near) method
falls_by {table} {row} right is method near zero some within = grind arith
falls_by {rows} {table} {row} {run} right is method near (suc gap) some within =
    let before = falls_by right is method near gap some (omega arith) in
    let white = white_below rows row (near + gap) is.white (omega arith) is.within in
    let step = (right.right (row + (near + gap)) (omega arith) (omega (arith, is.within))).falls method (omega (arith, is.within)) white in
    grind (arith, before, step)

pub readable : (width : ℕ) (rows : List (List ℕ)) (table : List RowNumbers) (row run : ℕ) → length rows ≤ 9999
    → AreRowsRightFrom width rows table (row + 1) → IsWhiteRun rows row run → row + run < length rows → IsReadable table row run
readable width rows table row run few right is ink = record {
  next = omega (arith, right.size);
  within = omega (arith, right.size);
  few = omega (arith, right.size);
  falls = λ method near far some le within.
      grind (arith, falls_by right is method near (far - near) some (omega arith));
  small = λ a below inside. omega (arith, (right.right a.row (omega arith) (omega (arith, right.size))).small a refl, few);
}

-- ---- the numbers of a row

pub skippable : {rows : List (List ℕ)} {row run count : ℕ} → IsWhiteRun rows row run → 0 < count → count ≤ run → AreSkippable rows row count
skippable {rows} {row} {run} {count} white some within =
    (some, omega (arith, white.within), white_front run count (drop row rows) white.white within)

pub direct_of_start : {width : ℕ} {rows : List (List ℕ)} {number : Node → ℕ} {row : ℕ} {method : Method} {run bytes least : ℕ}
    → IsWhiteRun rows row run → IsLeastLength method (row_above width rows row) (row_at rows row) bytes
    → IsLeastStart number row method run bytes least → IsDirect width rows number row method least
direct_of_start {rows} {row} {run} {bytes} is length_is start = record {
  bytes = bytes;
  is_length = length_is;
  sent = start.sent;
  skipped = λ count can. start.skipped count can.0 (skippable_within is can);
  attained = elim start.attained [ inl sent ↦ inl sent | inr skipped ↦ inr (skipped.0, skippable is skipped.1 skipped.2, skipped.3) ];
}

direct_stays : {width : ℕ} {rows : List (List ℕ)} {number other : Node → ℕ} {row : ℕ} {method : Method} {least : ℕ}
    → ((a : Node) → row < a.row → other a ≡ number a) → IsDirect width rows number row method least
    → IsDirect width rows other row method least
direct_stays {number} {other} {row} {method} same is =
    let there : (count : ℕ) → 0 < count → skipping other row method count ≡ skipping number row method count =
    λ count some. omega (arith, same (node (row + count) method true) (omega arith), same (node (row + count) method false) (omega arith))
    in
    let next = same (node (row + 1) method false) (omega arith) in
    record {
      bytes = is.bytes;
      is_length = is.is_length;
      sent = omega (arith, is.sent, next);
      skipped = λ count can. omega (arith, is.skipped count can, there count can.0);
      attained = grind (arith, is.attained, next, there);
    }

-- ---- a row that is put

-- the numbers after one row were changed, and no others
pub record IsPut (old new : List RowNumbers) (row : ℕ) (numbers : RowNumbers) : Type 0 where
  pub size : length new ≡ length old
  pub changed : (method : Method) (is_open : Bool) → node_number new (node row method is_open) ≡ number_in numbers method is_open
  pub others : (a : Node) → (a.row ≡ row → ⊥) → node_number new a ≡ node_number old a

module _ {width : ℕ} {rows : List (List ℕ)} {old new : List RowNumbers} {row : ℕ} {numbers : RowNumbers} (put : IsPut old new row numbers)
    (right : AreRowsRightFrom width rows old (row + 1)) where
  stays_after : (after : ℕ) → row < after → after ≤ length rows → IsRowRight width rows (node_number new) after
  stays_after after lt within = row_stays (λ a le. put.others a (λ same. omega arith)) (right.right after (omega arith) within)

  right_more : IsRowRight width rows (node_number new) row → AreRowsRightFrom width rows new row
  right_more here = record {
    size = put.size ∙ right.size;
    right = λ after from within.
        elim (cases_lt row after) [
          | inl lt ↦ stays_after after lt within
          | inr le ↦ (let same : row ≡ after = omega arith in subst (IsRowRight width rows (node_number new)) same here)
        ];
  }

  pub put_inked : {run : ℕ} → length rows ≤ 9999 → IsWhiteRun rows row run → row + run < length rows
      → AreRowNumbers width rows (node_number old) row numbers → AreRowsRightFrom width rows new row
  put_inked few is ink are =
      right_more (inked_row_right (record {
        direct = are.direct;
        numbers = numbers;
        inside_page = omega arith;
        few = omega arith;
        inked = ink_left is ink;
        placed = put.changed;
        switched = are.switched;
        are_direct = λ method. direct_stays (λ a below. put.others a (λ same. omega arith)) (are.are_direct method);
        later = stays_after;
      }))

-- where the rest is white
put_end : {old new : List RowNumbers} {row : ℕ} → IsPut old new row end_numbers → (a : Node) → a.row ≡ row
    → node_number new a ≡ end_number a.inside
put_end {new} {row} put =
    at_row (λ (a : Node). node_number new a ≡ end_number a.inside) row (λ method is_open. grind (arith, put.changed method is_open))

pub put_white : {width : ℕ} {rows : List (List ℕ)} {old new : List RowNumbers} {row : ℕ} → row < length rows → IsPut old new row end_numbers
    → AreRowsRightFrom width rows old (row + 1) → AreWhite (drop row rows) → AreRowsRightFrom width rows new row
put_white {rows} {row} lt put right white =
    let below = rw (drop_more rows row [] lt) at white in
    right_more put right
    (white_row_right white (put_end put)
    (λ method inside. (stays_after put right (row + 1) (omega arith) (omega arith)).ends
    (node (row + 1) method false) refl (refl, below.1)))

-- after all rows
pub put_last : {width : ℕ} {rows : List (List ℕ)} {old new : List RowNumbers} {row : ℕ} → row ≡ length rows → length old ≡ length rows + 1
    → IsPut old new row end_numbers → drop row rows ≡ [] → AreRowsRightFrom width rows new row
put_last {width} {rows} {new} {row} e size put none = record {
  size = put.size ∙ size;
  right = λ after from within.
      let same : row ≡ after = omega arith in
      subst (IsRowRight width rows (node_number new)) same
      (white_row_right (rw none tt) (put_end put) (λ method inside. absurd (omega arith)));
}
