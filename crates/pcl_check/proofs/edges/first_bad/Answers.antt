use Rattle.std.proofs.Common.{◌≡◌, ℕ, ◌+◌, ◌-◌, ◌<◌, ◌≤◌, List, length, sym, arith, Bool, true, false, drop}
use Rattle.pcl_check.proofs.Names.{slice_index, white_below, white_front, skippable_within, white_to_end, ink_left, AreRunEnds, AreEnds, Both, IsGoodBy, IsGoodIn, Method, Plain, Runs, Packed, Delta, Node, IsGoodNumber, page_height, page_row_bytes, Page, bitmap_rows, node_number, length_rows, height_small}
use Rattle.pcl_check.proofs.Found.{first_of_four}
use Rattle.pcl_check.proofs.edges.first_bad.Goals as goal

-- the white rows from a row end no earlier where they begin a row later
ends_grow : {rows : List (List ℕ)} {ends : List ℕ} (row : ℕ) → AreRunEnds rows ends 0 → row < length rows
    → slice_index ends row ≤ slice_index ends (row + 1)
ends_grow {rows} {ends} row are lt =
    let here = are.runs row (omega arith) (omega arith) in
    let next = are.runs (row + 1) (omega arith) (omega arith) in
    let after : ℕ = slice_index ends (row + 1) in
    let falls = λ (less : after < slice_index ends row).
    let there : row + (after - row) ≡ row + 1 + (after - (row + 1)) = omega (arith, next.0) in
    let white = white_below rows row (after - row) here.1.white (omega (arith, next.0)) here.1.within in
    next.1.longest (omega (arith, next.0, here.0, here.1.within)) (rw (sym there) white) in grind (arith, falls)

ends_known : {rows : List (List ℕ)} {ends : List ℕ} {last : ℕ} → length rows ≡ last → last ≤ 9999 → AreRunEnds rows ends 0
    → AreEnds ends last
ends_known count few are =
    let grow = λ (row : ℕ). ends_grow row are in grind (arith, are.size, are.runs, grow)

module _ {rows : List (List ℕ)} {ends : List ℕ} (number : Node → ℕ) (method : Method) {row : ℕ}
    (are : AreRunEnds rows ends 0) (le : row ≤ length rows) where
  good_by_rows : {last : ℕ} (Counts : ℕ → Method → ℕ → Type 0) (inside : Bool) → length rows ≡ last
      → IsGoodBy ends last Counts number row method inside → IsGoodNumber rows Counts number row method inside
  good_by_rows Counts false count good =
      let is = are.runs row (omega arith) le in
      let inked = λ (ink : slice_index ends row < length rows). ink_left is.1 (omega (arith, is.0)) in
      grind (arith, inked, good, is.0, is.1.within, are.size)
  good_by_rows Counts true count good =
      let is = are.runs row (omega arith) le in
      record {
        switches = good.0;
        skips = λ n inside some within white. good.2 n inside some (omega (arith, skippable_within is.1 (some, within, white), is.0));
        sends = λ bytes inside. good.1 bytes (omega arith);
      }

  good_by_ends : {last : ℕ} (Counts : ℕ → Method → ℕ → Type 0) (inside : Bool) → length rows ≡ last
      → IsGoodNumber rows Counts number row method inside → IsGoodBy ends last Counts number row method inside
  good_by_ends Counts false count good =
      let is = are.runs row (omega arith) le in (good.opens, λ end. good.ends (white_to_end is.1 (omega (arith, is.0, end, are.size))))
  good_by_ends Counts true count good =
      let is = are.runs row (omega arith) le in (
        good.switches,
        λ bytes inside. good.sends bytes (omega arith),
        λ n inside some within.
            good.skips n inside some (omega (arith, is.1.within, is.0))
            (white_front (slice_index ends row - row) n (drop row rows) is.1.white (omega (arith, within))),
      )

abbrev InMethods : List ℕ → ℕ → (ℕ → Method → ℕ → Type 0) → (Node → ℕ) → ℕ → Method → Bool → Type 0
InMethods ends last Counts number =
    Both (Both (IsGoodIn ends last Counts number Plain) (IsGoodIn ends last Counts number Runs))
    (Both (IsGoodIn ends last Counts number Packed) (IsGoodIn ends last Counts number Delta))

good_of_methods : (ends : List ℕ) (last : ℕ) (Counts : ℕ → Method → ℕ → Type 0) (number : Node → ℕ) (row : ℕ) (method : Method)
    (inside : Bool) → InMethods ends last Counts number row method inside → IsGoodBy ends last Counts number row method inside
good_of_methods ends last Counts number row method inside all = grind arith

-- a page has as many rows as it is high
rows_of_page : (page : Page) → length (bitmap_rows page.bitmap) ≡ page_height page.size page.dpi
rows_of_page page =
    let picture = page.bitmap in
    let count = length_rows (page_height picture.size picture.dpi) (page_row_bytes picture.size picture.dpi) picture.bytes in cc

ends_of_page : (page : Page) {ends : List ℕ} → AreRunEnds (bitmap_rows page.bitmap) ends 0 → AreEnds ends (page_height page.size page.dpi)
ends_of_page page are = ends_known (rows_of_page page) (omega (arith, height_small page.size page.dpi)) are

pub first_bad_in-plain-requires-clause-ends : goal.first_bad_in-plain-requires-clause-ends
first_bad_in-plain-requires-clause-ends g c = ends_of_page c.args.page.now c.fill_run_ends.ensures

pub first_bad_in-runs-requires-clause-ends : goal.first_bad_in-runs-requires-clause-ends
first_bad_in-runs-requires-clause-ends g c = ends_of_page c.args.page.now c.fill_run_ends.ensures

pub first_bad_in-packed-requires-clause-ends : goal.first_bad_in-packed-requires-clause-ends
first_bad_in-packed-requires-clause-ends g c = ends_of_page c.args.page.now c.fill_run_ends.ensures

pub first_bad_in-delta-requires-clause-ends : goal.first_bad_in-delta-requires-clause-ends
first_bad_in-delta-requires-clause-ends g c = ends_of_page c.args.page.now c.fill_run_ends.ensures

pub returns : goal.returns
returns g c =
    let page = c.args.page.now in
    let number = node_number c.args.table.now in
    let last : ℕ = page_height page.size page.dpi in
    let count = rows_of_page page in
    let Counts : ℕ → Method → ℕ → Type 0 = g.L.RowLengths.counts c.args.lengths.now page in
    let In : Method → ℕ → Method → Bool → Type 0 = IsGoodIn c.fill_run_ends.new.ends last Counts number in
    first_of_four (In Plain) (In Runs) (In Packed) (In Delta) (IsGoodNumber (bitmap_rows page.bitmap) Counts number) _ _ _ _
    (λ row method inside le good.
    good_by_rows number method c.fill_run_ends.ensures (omega (arith, count)) Counts inside count
    (good_of_methods c.fill_run_ends.new.ends last Counts number row method inside good))
    (λ row method inside le good.
    let by = good_by_ends number method c.fill_run_ends.ensures (omega (arith, count)) Counts inside count good in
    ((λ _. by, λ _. by), (λ _. by, λ _. by)))
    c.first_bad_in-plain.ensures c.first_bad_in-runs.ensures c.first_bad_in-packed.ensures c.first_bad_in-delta.ensures
    c.first_of.ensures c.first_of-2.ensures c.first_of-3.ensures
