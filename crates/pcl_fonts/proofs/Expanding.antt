-- Bits in bytes, and rows of runs.
use Rattle.std.proofs.Common.{◌≡◌, ℕ, zero, suc, ◌+◌, ◌-◌, ◌*◌, ◌/◌, ◌%◌, ◌^◌, ◌<◌, ◌≤◌, Bool, true, false, not, if◌then◌else◌, List, [], ◌∷◌, ◌++◌, length, get_or, set, drop, Option, Some, None, refl, sym, ap, ◌∙◌, arith, replicate}
use Rattle.std.specs.Int.Bits.{bit_or}
use Rattle.std.proofs.lemmas.Nat.{pow-add, pow_pos, or_shifted, shl-shr}
use Rattle.std.proofs.lemmas.List.{drop-replicate, drop-append-le, drop_all, append_assoc, append-nil, length-append, length-replicate, length-drop, replicate-append-replicate}
use Rattle.std.proofs.Math.Nat.{pow-le-pow_right}
use Rattle.std.specs.List.{concat}
use Rattle.std.specs.Option.{option_map}
use Rattle.std.proofs.lemmas.Bool.{le-leb, lt-leb}
use Rattle.std.proofs.lemmas.List.{replicate_more}
use Rattle.std.proofs.lemmas.List.Folds.{concat-append}
use Rattle.pcl_fonts.specs.inner.Expanding.{HasRow, HasRows}
use Rattle.pcl_fonts.specs.Compressed.{RowFront, byte_of, bytes_of, preceded, row_by_runs, rows_by_groups, with_copies, expanded}

-- ---- a byte

byte_none : (w : ℕ) → byte_of w [] ≡ 0
unfolding byte_of
byte_none zero = refl
byte_none (suc w) = refl

-- a byte of which only the first bits are there
shifted : (w j k : ℕ) (bits : List Bool) → w ≡ j + k → length bits ≤ j → byte_of w bits ≡ byte_of j bits * 2 ^ k
unfolding byte_of
shifted w j k [] is le = rw (byte_none w, byte_none j) (omega arith)
shifted zero zero k (b ∷ bits) is le = absurd (omega arith)
shifted zero (suc j) k (b ∷ bits) is le = absurd (omega arith)
shifted (suc w) zero k (b ∷ bits) is le = absurd (omega arith)
shifted (suc w) (suc j) k (true ∷ bits) is le =
    let less : w ≡ j + k = omega arith in
    let power : 2 ^ w ≡ 2 ^ j * 2 ^ k = ap (λ n. 2 ^ n) less ∙ pow-add 2 j k in
    omega (arith, power, shifted w j k bits less (omega arith))
shifted (suc w) (suc j) k (false ∷ bits) is le = omega (arith, shifted w j k bits (omega arith) (omega arith))

black_run : (w m r : ℕ) → w ≡ m + r → byte_of w (replicate m true) + 2 ^ r ≡ 2 ^ w
unfolding byte_of
black_run w zero r is =
    let none : byte_of w (replicate zero true) ≡ 0 = byte_none w in
    let same : w ≡ r = omega arith in
    let power : 2 ^ w ≡ 2 ^ r = ap (λ n. 2 ^ n) same in
    omega (arith, none, power)
black_run zero (suc m) r is = absurd (omega arith)
black_run (suc w) (suc m) r is = omega (arith, black_run w m r (omega arith), pow-add 2 w 1)

-- more black bits
black_byte : (w s m r mask : ℕ) (bits : List Bool) → w ≡ length bits + s → s ≡ m + r → mask + 2 ^ r ≡ 2 ^ s
    → byte_of w (bits ++ replicate m true) ≡ byte_of w bits + mask
unfolding byte_of
black_byte w s m r mask [] is more sum =
    let same : w ≡ s = omega arith in
    omega (arith, byte_none w, black_run w m r (omega arith), ap (λ n. 2 ^ n) same)
black_byte zero s m r mask (b ∷ bits) is more sum = absurd (omega arith)
black_byte (suc w) s m r mask (b ∷ bits) is more sum = omega (arith, black_byte w s m r mask bits (omega arith) more sum)

-- more white bits
white_byte : (w m : ℕ) (bits : List Bool) → byte_of w (bits ++ replicate m false) ≡ byte_of w bits
unfolding byte_of
white_byte zero m bits = refl
white_byte (suc w) zero [] = refl
white_byte (suc w) (suc m) [] =
    let white : byte_of w (replicate m false) ≡ 0 = white_byte w m [] ∙ byte_none w in
    omega (arith, white)
white_byte (suc w) m (b ∷ bits) = ap (λ n. (if b then 2 ^ w else 0) + n) (white_byte w m bits)

-- more bits after a byte
full_byte : (w : ℕ) (bits more : List Bool) → w ≤ length bits → byte_of w (bits ++ more) ≡ byte_of w bits
unfolding byte_of
full_byte zero bits more le = refl
full_byte (suc w) [] more le = absurd (omega arith)
full_byte (suc w) (b ∷ bits) more le = ap (λ n. (if b then 2 ^ w else 0) + n) (full_byte w bits more (omega arith))

-- ---- bytes

pub length-bytes_of : (n : ℕ) (bits : List Bool) → length (bytes_of n bits) ≡ n
unfolding bytes_of
length-bytes_of zero bits = refl
length-bytes_of (suc n) bits = ap suc (length-bytes_of n (drop 8 bits))

pub no_bytes : (n : ℕ) → bytes_of n [] ≡ replicate n 0
unfolding bytes_of
no_bytes zero = refl
no_bytes (suc n) = rw (byte_none 8, no_bytes n) refl

drop_white : (k m : ℕ) (bits : List Bool)
    → (rest : ℕ) × (drop k (bits ++ replicate m false) ≡ drop k bits ++ replicate rest false)
drop_white zero m bits = (m, refl)
drop_white (suc k) m [] = (m - suc k, drop-replicate (suc k) m false)
drop_white (suc k) m (b ∷ bits) = drop_white k m bits

pub white_bytes : (n m : ℕ) (bits : List Bool) → bytes_of n (bits ++ replicate m false) ≡ bytes_of n bits
unfolding bytes_of
white_bytes zero m bits = refl
white_bytes (suc n) m bits =
    let d = drop_white 8 m bits in
    rw (white_byte 8 m bits, d.1, white_bytes n d.0 (drop 8 bits)) refl

pub black_bytes : (n place f s m r mask : ℕ) (bits : List Bool) → length bits ≡ 8 * place + f → 8 ≡ f + s → s ≡ m + r
    → mask + 2 ^ r ≡ 2 ^ s → place < n
    → bytes_of n (bits ++ replicate m true) ≡ set (bytes_of n bits) place (bit_or (get_or (bytes_of n bits) place 0) mask)
unfolding bytes_of
black_bytes zero place f s m r mask bits long first more sum lt = absurd (omega arith)
black_bytes (suc n) zero f s m r mask bits long first more sum lt =
    let byte : byte_of 8 bits ≡ byte_of f bits * 2 ^ s = shifted 8 f s bits first (omega arith) in
    let small : mask < 2 ^ s = omega (arith, pow_pos r) in
    let joined : bit_or (byte_of 8 bits) mask ≡ byte_of 8 bits + mask =
    ap (λ b. bit_or b mask) byte ∙ or_shifted (byte_of f bits) s mask small ∙ ap (λ b. b + mask) (sym byte) in
    let inked = black_byte 8 s m r mask bits (omega arith) more sum in
    let none = drop_all 8 bits (omega arith) in
    let none_after = drop_all 8 (bits ++ replicate m true)
    (omega (arith, length-append bits (replicate m true), length-replicate m true)) in
    rw (inked, joined, none, none_after) refl
black_bytes (suc n) (suc place) f s m r mask bits long first more sum lt =
    let eight : 8 ≤ length bits = omega arith in
    rw (
      full_byte 8 bits (replicate m true) eight,
      drop-append-le 8 bits (replicate m true) eight,
      black_bytes n place f s m r mask (drop 8 bits) (omega (arith, length-drop 8 bits)) first more sum (omega arith),
    ) refl

-- ---- a mask

power_of : (k : ℕ) → k ≤ 8 → 256 / 2 ^ k ≡ 2 ^ (8 - k)
power_of k le =
    let sum : 8 ≡ (8 - k) + k = omega arith in
    let split : 256 ≡ 2 ^ (8 - k) * 2 ^ k = ap (λ n. 2 ^ n) sum ∙ pow-add 2 (8 - k) k in
    ap (λ n. n / 2 ^ k) split ∙ shl-shr (2 ^ (8 - k)) k

pub mask_fits : (from to : ℕ) → from < to → to ≤ 8 → 256 / 2 ^ to ≤ 256 / 2 ^ from
mask_fits from to lt le =
    let more : 8 - to ≤ 8 - from = omega arith in
    let some : 0 < 2 = omega arith in
    rw (power_of to le, power_of from (omega arith)) (pow-le-pow_right some more)

pub mask_is : (from to : ℕ) → from < to → to ≤ 8 → 256 / 2 ^ from - 256 / 2 ^ to + 2 ^ (8 - to) ≡ 2 ^ (8 - from)
mask_is from to lt le = omega (arith, mask_fits from to lt le, power_of to le, power_of from (omega arith))

-- ---- a run of black bits

pub record IsBlackened (start end : ℕ) (old row : List ℕ) (column : ℕ) : Type 0 where
  pub from : start ≤ column
  pub to : column ≤ end
  pub row_is : (bits : List Bool) → length bits ≡ start → old ≡ bytes_of (length old) bits
      → row ≡ bytes_of (length old) (bits ++ replicate (column - start) true)

pub blackened_more : {start end : ℕ} {old row : List ℕ} {column : ℕ} (count mask : ℕ) → IsBlackened start end old row column
    → length row ≡ length old → column < end → 0 < count → count ≤ end - column → column % 8 + count ≤ 8 → end ≤ 8 * length old
    → mask + 2 ^ (8 - (column % 8 + count)) ≡ 2 ^ (8 - column % 8)
    → IsBlackened start end old (set row (column / 8) (bit_or (get_or row (column / 8) 0) mask)) (column + count)
blackened_more {start = start} {old = old} {row = row} {column = column} count mask b long lt some within byte room sum =
    let from = b.from in
    record {
      from = omega arith;
      to = omega arith;
      row_is = λ bits begins is.
          let place = column / 8 in
          let first = column % 8 in
          let whole : 8 * place + first ≡ column = omega arith in
          let black = replicate (column - start) true in
          let black_too : column - start + count ≡ column + count - start = omega arith in
          let bits_too : length (bits ++ black) ≡ 8 * place + first =
          omega (arith, length-append bits black, length-replicate (column - start) true, whole, begins, from) in
          ap (λ r. set r place (bit_or (get_or r place 0) mask)) (b.row_is bits begins is)
          ∙ sym (black_bytes (length old) place first (8 - first) count (8 - (first + count)) mask (bits ++ black) bits_too (omega arith)
          (omega arith) sum (omega (arith, whole)))
          ∙ ap (bytes_of (length old)) (append_assoc bits black (replicate count true)
          ∙ ap (λ more. bits ++ more) (replicate-append-replicate (column - start) count true
          ∙ ap (λ k. replicate k true) black_too));
    }

-- ---- a row

pub record IsBegun (width : ℕ) (bytes row rest : List ℕ) (column : ℕ) (black : Bool) : Type 0 where
  pub within : column ≤ width
  pub so_far : (bits : List Bool) × (length bits ≡ column) × (row ≡ bytes_of ((width + 7) / 8) bits)
      × (row_by_runs false width bytes ≡ option_map (preceded bits) (row_by_runs black (width - column) rest))

preceded_none : (front : Option RowFront) → option_map (preceded []) front ≡ front
preceded_none None = refl
preceded_none (Some front) = refl

preceded_twice : (xs ys : List Bool) (front : Option RowFront)
    → option_map (preceded xs) (option_map (preceded ys) front) ≡ option_map (preceded (xs ++ ys)) front
preceded_twice xs ys None = refl
preceded_twice xs ys (Some front) = rw (append_assoc xs ys front.bits) refl

row_cut : (black : Bool) (left : ℕ) → 0 < left → row_by_runs black left [] ≡ None
unfolding row_by_runs
row_cut black zero lt = absurd (omega arith)
row_cut black (suc more) lt = refl

row_past : (black : Bool) (left run : ℕ) (rest : List ℕ) → left < run → 0 < left → row_by_runs black left (run ∷ rest) ≡ None
unfolding row_by_runs
row_past black zero run rest past lt = absurd (omega arith)
row_past black (suc more) run rest past lt = rw (lt-leb run (suc more) past) refl

row_step : (black : Bool) (left run : ℕ) (rest : List ℕ) → run ≤ left → 0 < left
    → row_by_runs black left (run ∷ rest) ≡ option_map (preceded (replicate run black)) (row_by_runs (not black) (left - run) rest)
unfolding row_by_runs
row_step black zero run rest le lt = absurd (omega arith)
row_step black (suc more) run rest le lt = rw (le-leb run (suc more) le) refl

row_end : (black : Bool) (left : ℕ) (rest : List ℕ) → left ≡ 0 → row_by_runs black left rest ≡ Some (record { bits = []; rest = rest })
unfolding row_by_runs
row_end black zero rest e = refl
row_end black (suc more) rest e = absurd (omega arith)

pub begun : (width : ℕ) (bytes : List ℕ) → IsBegun width bytes (replicate ((width + 7) / 8) 0) bytes 0 false
begun width bytes = record {
  within = omega arith;
  so_far = (
    [],
    refl,
    sym (no_bytes ((width + 7) / 8)),
    sym (preceded_none (row_by_runs false width bytes))
        ∙ ap (λ n. option_map (preceded []) (row_by_runs false n bytes)) (let none : width ≡ width - 0 = omega arith in none),
  );
}

pub has_no_bytes : {width : ℕ} {bytes row rest : List ℕ} {column : ℕ} {black : Bool} → IsBegun width bytes row rest column black
    → column < width → rest ≡ [] → row_by_runs false width bytes ≡ None
has_no_bytes {width = width} {column = column} {black = black} b lt none =
    b.so_far.3 ∙ ap (λ r. option_map (preceded b.so_far.0) (row_by_runs black (width - column) r)) none
    ∙ ap (option_map (preceded b.so_far.0)) (row_cut black (width - column) (omega arith))

pub goes_past : {width : ℕ} {bytes row : List ℕ} {rest : List ℕ} {column : ℕ} {black : Bool} (run : ℕ) (others : List ℕ)
    → IsBegun width bytes row rest column black → column < width → rest ≡ run ∷ others → width < column + run
    → row_by_runs false width bytes ≡ None
goes_past {width = width} {column = column} {black = black} run others b lt is past =
    b.so_far.3 ∙ ap (λ r. option_map (preceded b.so_far.0) (row_by_runs black (width - column) r)) is
    ∙ ap (option_map (preceded b.so_far.0)) (row_past black (width - column) run others (omega arith) (omega arith))

pub begun_more : {width : ℕ} {bytes row rest : List ℕ} {column : ℕ} {black : Bool} (new : List ℕ) (run : ℕ) (others : List ℕ)
    → IsBegun width bytes row rest column black → column < width → rest ≡ run ∷ others → column + run ≤ width
    → ((bits : List Bool) → length bits ≡ column → row ≡ bytes_of ((width + 7) / 8) bits
    → new ≡ bytes_of ((width + 7) / 8) (bits ++ replicate run black)) → IsBegun width bytes new others (column + run) (not black)
begun_more {width = width} {column = column} {black = black} new run others b lt is le inked =
    let bits = b.so_far.0 in
    let left : width - column - run ≡ width - (column + run) = omega arith in
    record {
      within = le;
      so_far = (
        bits ++ replicate run black,
        length-append bits (replicate run black) ∙ ap (λ n. n + length (replicate run black)) b.so_far.1
            ∙ ap (λ n. column + n) (length-replicate run black),
        inked bits b.so_far.1 b.so_far.2,
        b.so_far.3 ∙ ap (λ r. option_map (preceded bits) (row_by_runs black (width - column) r)) is
            ∙ ap (option_map (preceded bits)) (row_step black (width - column) run others (omega arith) (omega arith))
            ∙ preceded_twice bits (replicate run black) (row_by_runs (not black) (width - column - run) others)
            ∙ ap (λ n. option_map (preceded (bits ++ replicate run black)) (row_by_runs (not black) n others)) left,
      );
    }

pub has_row : {width : ℕ} {bytes row rest : List ℕ} {column : ℕ} {black : Bool} → IsBegun width bytes row rest column black
    → width ≤ column → HasRow width bytes row (Some rest)
has_row {width = width} {rest = rest} {column = column} {black = black} b le = (
  b.so_far.0,
  b.so_far.3 ∙ ap (option_map (preceded b.so_far.0)) (row_end black (width - column) rest (omega arith))
      ∙ ap (λ bits. Some (record { bits = bits; rest = rest })) (append-nil b.so_far.0),
  b.so_far.2,
)

-- ---- groups

pub record AreBegun (width height : ℕ) (bytes old rows rest : List ℕ) (left : ℕ) : Type 0 where
  pub so_far : (most : ℕ) × (given : List ℕ) × (left ≤ most) × (rows ≡ old ++ given)
      × (expanded width height bytes ≡ option_map (λ later. given ++ later) (rows_by_groups most width left rest))

before_none : (rows : Option (List ℕ)) → option_map (λ later. [] ++ later) rows ≡ rows
before_none None = refl
before_none (Some rows) = refl

pub groups_begun : (width height : ℕ) (bytes old : List ℕ) → AreBegun width height bytes old old bytes height
unfolding expanded
groups_begun width height bytes old = record {
  so_far = (height, [], omega arith, sym (append-nil old), sym (before_none (rows_by_groups height width height bytes)));
}

pub groups_cut : (most width left : ℕ) → 0 < left → rows_by_groups most width left [] ≡ None
unfolding rows_by_groups
groups_cut most width zero lt = absurd (omega arith)
groups_cut zero width (suc below) lt = refl
groups_cut (suc most) width (suc below) lt = refl

pub group_past : (most width left repeats : ℕ) (rest : List ℕ) → 0 < left → left ≤ repeats
    → rows_by_groups most width left (repeats ∷ rest) ≡ None
unfolding rows_by_groups
group_past most width zero repeats rest lt past = absurd (omega arith)
group_past zero width (suc below) repeats rest lt past = refl
group_past (suc most) width (suc below) repeats rest lt past = rw (lt-leb repeats below (omega arith)) refl

pub group_bad : (most width left repeats : ℕ) (rest : List ℕ) → 0 < left → repeats < left → row_by_runs false width rest ≡ None
    → rows_by_groups most width left (repeats ∷ rest) ≡ None
unfolding rows_by_groups
group_bad most width zero repeats rest lt le bad = absurd (omega arith)
group_bad zero width (suc below) repeats rest lt le bad = refl
group_bad (suc most) width (suc below) repeats rest lt le bad = rw (le-leb repeats below (omega arith), bad) refl

group_step : (most width left repeats : ℕ) (rest : List ℕ) (front : RowFront) → 0 < left → repeats < left → left ≤ suc most
    → row_by_runs false width rest ≡ Some front → rows_by_groups (suc most) width left (repeats ∷ rest)
    ≡ option_map (with_copies repeats (bytes_of ((width + 7) / 8) front.bits)) (rows_by_groups most width (left - (repeats + 1)) front.rest)
unfolding rows_by_groups
group_step most width zero repeats rest front lt le enough is = absurd (omega arith)
group_step most width (suc below) repeats rest front lt le enough is =
    let left : below - repeats ≡ suc below - (repeats + 1) = omega arith in
    rw (le-leb repeats below (omega arith), is, left) refl

before_before : (xs ys : List ℕ) (rows : Option (List ℕ))
    → option_map (λ later. xs ++ later) (option_map (λ later. ys ++ later) rows) ≡ option_map (λ later. (xs ++ ys) ++ later) rows
before_before xs ys None = refl
before_before xs ys (Some rows) = rw (append_assoc xs ys rows) refl

groups_end : (most width left : ℕ) (rest : List ℕ) → left ≡ 0 → rows_by_groups most width left rest ≡ Some []
unfolding rows_by_groups
groups_end most width zero rest e = refl
groups_end most width (suc below) rest e = absurd (omega arith)

pub no_groups : {width height : ℕ} {bytes old rows rest : List ℕ} {left : ℕ} → AreBegun width height bytes old rows rest left
    → ((most : ℕ) → rows_by_groups most width left rest ≡ None) → expanded width height bytes ≡ None
no_groups b cut = b.so_far.4 ∙ ap (option_map (λ later. b.so_far.1 ++ later)) (cut b.so_far.0)

pub has_groups : {width height : ℕ} {bytes old rows rest : List ℕ} {left : ℕ} → AreBegun width height bytes old rows rest left
    → left ≡ 0 → HasRows old rows true (expanded width height bytes)
has_groups {width = width} {rest = rest} {left = left} b none = (
  b.so_far.1,
  b.so_far.4 ∙ ap (option_map (λ later. b.so_far.1 ++ later)) (groups_end b.so_far.0 width left rest none)
      ∙ ap Some (append-nil b.so_far.1),
  b.so_far.3,
)

module _ {width height : ℕ} {bytes old rows rest : List ℕ} {left : ℕ} (new row runs later : List ℕ) (repeats : ℕ) (some : 0 < left)
    (is : rest ≡ repeats ∷ runs) (within : repeats < left) (has_row : HasRow width runs row (Some later))
    (copied : new ≡ rows ++ concat (replicate (repeats + 1) row)) where
  more_of : (most : ℕ) (given : List ℕ) → left ≤ most → rows ≡ old ++ given
      → expanded width height bytes ≡ option_map (λ later. given ++ later) (rows_by_groups most width left rest)
      → AreBegun width height bytes old new later (left - (repeats + 1))
  more_of zero given enough appended given_is = absurd (omega arith)
  more_of (suc most) given enough appended given_is =
      let copies = concat (replicate (repeats + 1) row) in
      let front : RowFront = record { bits = has_row.0; rest = later } in
      record {
        so_far = (
          most,
          given ++ copies,
          omega arith,
          copied ∙ ap (λ r. r ++ copies) appended ∙ append_assoc old given copies,
          given_is ∙ ap (λ r. option_map (λ later. given ++ later) (rows_by_groups (suc most) width left r)) is
              ∙ ap (option_map (λ later. given ++ later)) (group_step most width left repeats runs front some within enough has_row.1)
              ∙ ap (λ r. option_map (λ later. given ++ later) (option_map (with_copies repeats r)
              (rows_by_groups most width (left - (repeats + 1)) later)))
              (sym has_row.2)
              ∙ before_before given copies (rows_by_groups most width (left - (repeats + 1)) later),
        );
      }

  pub groups_more : AreBegun width height bytes old rows rest left → AreBegun width height bytes old new later (left - (repeats + 1))
  groups_more b = more_of b.so_far.0 b.so_far.1 b.so_far.2 b.so_far.3 b.so_far.4

pub copies_more : (old row : List ℕ) (n : ℕ) → (old ++ concat (replicate n row)) ++ row ≡ old ++ concat (replicate (n + 1) row)
copies_more old row n =
    append_assoc old (concat (replicate n row)) row
    ∙ ap (λ r. old ++ r) (ap (λ r. concat (replicate n row) ++ r) (sym (append-nil row))
    ∙ sym (concat-append (replicate n row) (row ∷ [])) ∙ ap concat (replicate_more n row))
