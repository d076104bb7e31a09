-- Rows kept as row data, and rows beside them.
use Rattle.std.proofs.Common.{◌≡◌, ℕ, zero, suc, ◌+◌, ◌-◌, ◌<◌, ◌≤◌, List, [], ◌∷◌, ◌++◌, length, take, drop, replicate, false, refl, sym, ap, ◌∙◌, inl, inr, add-one, arith}
use Rattle.pcl_same.proofs.Names.{slice_index, cases_lt, length-append, length-drop, get_or_append_left, get_or_push, take-append-le, drop-append-le, take-replicate, take-append_seam, drop-append_seam, take-length, Dpi, Delta, page_width, page_height, page_row_bytes, Picture, IsPicture, row_of, dot_of_row, dot, same_dots, row_small, Decodes, decoded, decoded_is, KeptBitmap, IsFirstDot, piece, picture_row_above, MakesRow, IsFirstDotOfRow, IsKeptPiece, data_of, KeepsPicture}
use Rattle.pcl_base.specs.declared.size.Size.{Size}
use Rattle.pcl_coders.specs.Coding.{AppendsLeast}
use Rattle.pcl_same.specs.inner.Rows.{Appends, AppendsRowData}

-- ---- rows that are kept one after the other

-- row k is a piece, and is kept
abbrev pub IsRow : Picture → List ℕ → List ℕ → ℕ → Type 0
IsRow p bytes starts k = IsKeptPiece bytes starts k × MakesRow p k (piece bytes starts k)

-- the first rows are kept
pub record KeepsRows (p : Picture) (bytes starts : List ℕ) (count : ℕ) : Type 0 where
  pub starts_are : length starts ≡ count + 1
  pub last : slice_index starts count ≡ length bytes
  pub rows : (k : ℕ) → k < count → IsRow p bytes starts k

pub none_kept : (p : Picture) {bytes starts : List ℕ} → bytes ≡ [] → starts ≡ 0 ∷ [] → KeepsRows p bytes starts 0
none_kept p b s = rw (b, s) (record { starts_are = refl; last = refl; rows = λ k lt. absurd (omega arith) })

module _ {p : Picture} {bytes starts : List ℕ} {count : ℕ} (more : List ℕ) (keeps : KeepsRows p bytes starts count) where
  abbrev end : ℕ
  end = length (bytes ++ more)

  -- a row stays where more come
  row_stays : (k : ℕ) → k < count → IsRow p (bytes ++ more) (starts ++ end ∷ []) k
  row_stays k before =
      let row = keeps.rows k before in
      let first : slice_index (starts ++ end ∷ []) k ≡ slice_index starts k =
      get_or_append_left starts (end ∷ []) 0 k (omega (arith, keeps.starts_are)) in
      let second : slice_index (starts ++ end ∷ []) (k + 1) ≡ slice_index starts (k + 1) =
      get_or_append_left starts (end ∷ []) 0 (k + 1) (omega (arith, keeps.starts_are)) in
      let from : ℕ = slice_index starts k in
      let front = take-append-le (slice_index starts (k + 1) - from) (drop from bytes) more
      (omega (arith, length-drop from bytes, row.0.order, row.0.within)) in (
        record { order = omega (arith, row.0.order); within = omega (arith, row.0.within, length-append bytes more) },
        rw (first, second, drop-append-le from bytes more (omega (arith, row.0.order, row.0.within)), front) row.1,
      )

  -- the last row is what came last
  last_row : MakesRow p count more → IsRow p (bytes ++ more) (starts ++ end ∷ []) count
  last_row makes =
      let first : slice_index (starts ++ end ∷ []) count ≡ length bytes =
      get_or_append_left starts (end ∷ []) 0 count (omega (arith, keeps.starts_are)) ∙ keeps.last in
      let second : slice_index (starts ++ end ∷ []) (count + 1) ≡ end = get_or_push starts end 0 (count + 1) keeps.starts_are in
      let long : end - length bytes ≡ length more = omega (arith, length-append bytes more) in (
        record { order = omega (arith, length-append bytes more); within = omega arith },
        rw (first, second, drop-append_seam bytes more, long, take-length more) makes,
      )

  pub more_kept : {new_bytes new_starts : List ℕ} → new_bytes ≡ bytes ++ more → new_starts ≡ starts ++ length new_bytes ∷ []
      → MakesRow p count more → KeepsRows p new_bytes new_starts (count + 1)
  more_kept b s makes = rw (s, b) (record {
    starts_are = omega (arith, length-append starts (end ∷ []), keeps.starts_are);
    last = get_or_push starts end 0 (count + 1) keeps.starts_are;
    rows = λ k lt.
        elim (cases_lt k count) [
          | inl before ↦ row_stays k before
          | inr at ↦ let here : k ≡ count = omega arith in rw here (last_row makes)
        ];
  })

-- changed bytes that are decoded to the row
pub changes_written : {above row old new made : List ℕ} {start : ℕ} → Appends old new → start ≡ length old
    → Decodes Delta above (take (length new - start) (drop start new)) made → made ≡ row → AppendsRowData above row old new
changes_written {above} {row} {old} {new} {made} {start} appended at d same =
    let tail : drop start new ≡ appended.0 = rw (at, appended.1) (drop-append_seam old appended.0) in
    let long : length new - start ≡ length appended.0 = omega (arith, at, ap length appended.1, length-append old appended.0) in
    record {
      bytes = appended.0;
      joined = appended.1;
      decodes = sym same ∙ decoded_is Delta above appended.0 made (rw (tail, long, take-length appended.0) at d);
    }

-- least data in its place
pub row_written : {above row old new cut whole : List ℕ} {start : ℕ} → Appends old new → start ≡ length old → cut ≡ take start new
    → AppendsLeast Delta above row cut whole → AppendsRowData above row old whole
row_written {above} {row} {old} {new} appended at is written =
    let front : take (length old) new ≡ old = rw appended.1 (take-append_seam old appended.0) in
    record {
      bytes = written.bytes;
      joined = written.joined ∙ ap (λ (xs : List ℕ). xs ++ written.bytes) (rw at at is ∙ front);
      decodes = written.whole.decodes;
    }

-- ---- all rows

pub height_is : (p : Picture) {size : Size} {dpi : Dpi} {height : ℕ} → height ≡ page_height size dpi → size ≡ p.size → dpi ≡ p.dpi
    → height ≡ page_height p.size p.dpi
height_is p h s d = rw (← s, ← d) h

-- ---- the row above

-- the front of zeros is the row above the topmost
pub white_above : (p : Picture) → take (page_row_bytes p.size p.dpi) (replicate 600 0) ≡ picture_row_above p 0
white_above p = take-replicate (page_row_bytes p.size p.dpi) 600 0 (row_small p.size p.dpi)

-- a row that was copied to the front of a buffer is the row above the next
pub next_above : (p : Picture) (y : ℕ) {n : ℕ} {row copied : List ℕ} (rest : List ℕ) → row ≡ row_of p y → copied ≡ row → length row ≡ n
    → take n (copied ++ rest) ≡ picture_row_above p (y + 1)
next_above p y {n} {row} {copied} rest is same long = rw (← long, ← same, add-one) (take-append_seam copied rest ∙ same ∙ is)

-- what row data makes over the front of a buffer
pub made_over : (p : Picture) (y : ℕ) {n : ℕ} (buffer row bytes : List ℕ) {made : List ℕ} → take n buffer ≡ picture_row_above p y
    → length row ≡ n → made ≡ decoded Delta (take (length row) buffer) bytes → made ≡ decoded Delta (picture_row_above p y) bytes
made_over p y buffer row bytes above long d = rw (← above, ← long) d

-- ---- two bitmaps beside the same row data

-- one row more is made
pub makes_more : (p : Picture) (held : KeptBitmap) {y : ℕ} → ((k : ℕ) → k < y → MakesRow p k (data_of held k))
    → MakesRow p y (data_of held y) → (k : ℕ) → k < y + 1 → MakesRow p k (data_of held k)
makes_more p held {y} before makes k lt =
    elim (cases_lt k y) [
      | inl less ↦ before k less
      | inr at ↦ let here : y ≡ k = omega arith in rw (← here) makes
    ]

-- two bitmaps of one size and resolution, and row data that makes the rows of the one, and the first rows of the other
module _ {kept : Picture} (other : Picture) {held : KeptBitmap} {count : ℕ} (is_kept : IsPicture kept) (keeps : KeepsPicture kept held)
    (size : held.size ≡ other.size) (dpi : held.dpi ≡ other.dpi) (within : count ≤ page_height other.size other.dpi)
    (makes : (k : ℕ) → k < count → MakesRow other k (data_of held k)) where
  sizes : kept.size ≡ other.size
  sizes = sym keeps.size ∙ size

  resolutions : kept.dpi ≡ other.dpi
  resolutions = sym keeps.resolution ∙ dpi

  heights : page_height kept.size kept.dpi ≡ page_height other.size other.dpi
  heights = cc (sizes, resolutions)

  -- the rows are the same up to the first one that isn't compared yet
  above_same : (k : ℕ) → k ≤ count → picture_row_above kept k ≡ picture_row_above other k
  above_same zero le = rw (sizes, resolutions) refl
  above_same (suc k) le =
      rw (above_same k (omega arith)) at (keeps.rows k (omega (arith, heights))) ∙ sym (makes k (omega arith))

  -- all rows are compared
  pub all_beside : IsPicture other → page_height other.size other.dpi ≤ count → kept ≡ other
  all_beside is_other all =
      same_dots kept other is_kept is_other sizes resolutions
      (λ x y across down. ap (λ (row : List ℕ). dot_of_row row x) (above_same (suc y) (omega (arith, heights))))

  -- a row is found to differ
  pub row_differs : {x : ℕ} {made row : List ℕ} → count < page_height other.size other.dpi
      → made ≡ decoded Delta (picture_row_above other count) (data_of held count) → row ≡ row_of other count
      → ((px : ℕ) → page_width other.size other.dpi ≤ px → dot_of_row row px ≡ false) → IsFirstDotOfRow made row x
      → IsFirstDot (page_width kept.size kept.dpi) (page_height kept.size kept.dpi) (dot kept) (dot other) x count
  row_differs {x} {made} {row} down read row_is pads first =
      let made_is : row_of kept count ≡ made =
      rw (above_same count (omega arith)) at (keeps.rows count (omega (arith, heights))) ∙ sym read in
      let found = rw (← made_is, row_is) at first in
      let width : page_width kept.size kept.dpi ≡ page_width other.size other.dpi = rw (sizes, resolutions) refl in
      record {
        across = grind (arith, found.differs, is_kept.clear_pads x count, rw row_is at (pads x), width);
        down = omega (arith, heights);
        differs = found.differs;
        above = λ px py across before. ap (λ (row : List ℕ). dot_of_row row px) (above_same (suc py) (omega arith));
        left = found.same;
      }
