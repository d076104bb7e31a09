use Rattle.std.proofs.Common.{◌≡◌, ℕ, ◌+◌, ◌-◌, ◌<◌, ◌≤◌, List, length, set, sym, ◌∙◌, arith}
use Rattle.pcl_check.proofs.Names.{slice_index, length-set, iff_false, get_or-set_same, get_or-set_other, IsWhite, row_at, IsWhiteRun, run_more, run_none, run_end, AreRunEnds, All-from_recursion, recursion_from_All, page_height, page_row_bytes, bitmap_rows, length_rows, row_of_bytes}
use Rattle.pcl_check.proofs.edges.fill_run_ends.Goals as goal
use Rattle.pcl_check.proofs.edges.fill_run_ends.Goals.{then-is_blank, else-is_blank}

-- the end of the rows
ends_begin : {rows : List (List ℕ)} (ends : List ℕ) {last : ℕ} → length rows ≡ last → length ends ≡ last + 1
    → AreRunEnds rows (set ends last last) last
ends_begin {rows} ends {last} count size =
    record {
      size = omega (arith, length-set ends last last, count);
      runs = λ row from within. grind (arith, get_or-set_same ends last last 0, run_end (sym count));
    }

-- a row more
ends_more : {rows : List (List ℕ)} {ends : List ℕ} {row end : ℕ} → row < length rows → AreRunEnds rows ends (row + 1)
    → row ≤ end → IsWhiteRun rows row (end - row) → AreRunEnds rows (set ends row end) row
ends_more {rows} {ends} {row} {end} lt are order run =
    record {
      size = length-set ends row end ∙ are.size;
      runs = λ k from within. grind (arith, are.size, are.runs k, get_or-set_same ends row end 0, get_or-set_other ends row k end 0);
    }

pub loop-row-init : goal.loop-row-init
loop-row-init c =
    let picture = c.args.bitmap.now in
    let height : c.height-height.result ≡ page_height picture.size picture.dpi = cc in
    ends_begin c.args.ends.now
    (length_rows (page_height picture.size picture.dpi) (page_row_bytes picture.size picture.dpi) picture.bytes ∙ sym height)
    (omega (arith, c.requires, height))

pub loop-row-preserved : goal.loop-row-preserved
loop-row-preserved c =
    let picture = c.args.bitmap.now in
    let width = page_row_bytes picture.size picture.dpi in
    let rows = bitmap_rows picture in
    let row : ℕ = c.loop-row.row - 1 in
    let height : c.height-height.result ≡ page_height picture.size picture.dpi = cc in
    let after : c.loop-row.row ≡ row + 1 = omega arith in
    let on_page : row < page_height picture.size picture.dpi = omega (arith, height, c.loop-row.auto.row) in
    let inside : row < length rows = omega (arith, length_rows (page_height picture.size picture.dpi) width picture.bytes, on_page) in
    let beyond = rw after at c.loop-row.invariant in
    let bytes = row_of_bytes row (page_height picture.size picture.dpi) width picture.bytes on_page in
    elim c.if-is_blank.branch [
      | then-is_blank w ↦
          let white : IsWhite (row_at rows row) =
          rw bytes (recursion_from_All (λ (byte : ℕ). byte ≡ 0) _ (c.is_blank.ensures.bytes.0 w.if-is_blank.true)) in
          let next = beyond.runs (row + 1) (omega arith) (omega arith) in
          let end : ℕ = slice_index c.loop-row.ends (row + 1) in
          let more : end - row ≡ end - (row + 1) + 1 = omega (arith, next.0) in
          rw w.ends-is (ends_more inside beyond (omega (arith, next.0)) (rw more (run_more inside next.1 white)))
      | else-is_blank w ↦
          let inked : IsWhite (row_at rows row) → ⊥ = λ white.
          iff_false c.is_blank.ensures.bytes w.if-is_blank.false (All-from_recursion (λ (byte : ℕ). byte ≡ 0) _ (rw bytes at white)) in
          let none : row - row ≡ 0 = omega arith in rw w.ends-is (ends_more inside beyond (omega arith) (rw none (run_none inside inked)))
    ]
