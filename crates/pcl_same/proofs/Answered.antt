-- What is found of kept pages is so of the pages of the jobs.
use Rattle.std.proofs.Common.{◌≡◌, ℕ, ◌+◌, ◌<◌, List, [], ◌∷◌, ◌++◌, length, drop, Option, Some, None, refl, ap, sym, ◌∙◌, arith}
use Rattle.pcl_same.proofs.Names.{Profile, AllByRecursion, Dpi, page_width, page_height, Picture, dot, Page, AreAlike, AllAlike, Asks, asks_of, HasPagesBy, HasAsksBy, is_black, Shows, Sheet, AskedComparison, Difference, Size, Copies, Dot, PagesDifference, KeptJob, KeptPage, Compare, of_pages, CompareAsks, IsComparisonCounting, as_counted, IsFirstDot, DifferBy, DifferFirst, KeepAll, PagesDiffer, FindAll, IsAlike, PagesDifferBy, comparison_of, IsKept}
use Rattle.pcl_same.specs.DifferingAsks.{AreAtEnd}
use Rattle.pcl_same.specs.declared.comparison.PagesDifference.TheVariants as difference
use Rattle.pcl_same.proofs.AskedPages.{OnePages, asked_pages}
use Rattle.pcl_same.proofs.OneAnswer.{alike_count}
use Rattle.pcl_same.specs.declared.asking.LastExit.{LastExit}

-- ---- two pages, by the sheets that they show

module _ {dpi : Dpi} {page page' : Page} {one other : Sheet} (shows : Shows dpi page one) (shows' : Shows dpi page' other) where
  -- a dot of the one page, of one size with the other
  black_as : one.size ≡ other.size → (x y : ℕ) → x < page_width one.size dpi → y < page_height one.size dpi
      → dot page'.bitmap x y ≡ is_black other.marks x y
  black_as size x y across down = shows'.dots x y (rw (← size) across) (rw (← size) down)

  sheets_alike : PagesDiffer page page' None → AreAlike dpi one other
  sheets_alike same =
      let size : one.size ≡ other.size = cc in
      record {
        size = size;
        copies = cc;
        dots = λ x y across down. cc (shows.dots x y across down, black_as size x y across down, ap (λ (p : Picture). dot p x y) same.2);
      }

  dots_differ : {x y : ℕ} → one.size ≡ other.size
      → IsFirstDot (page_width page.size page.dpi) (page_height page.size page.dpi) (dot page.bitmap) (dot page'.bitmap) x y
      → IsFirstDot (page_width one.size dpi) (page_height one.size dpi) (is_black one.marks) (is_black other.marks) x y
  dots_differ {x} {y} size first =
      let moved = rw (shows.size, shows.resolution) at first in
      record {
        across = moved.across;
        down = moved.down;
        differs = λ same. moved.differs (cc (same, shows.dots x y moved.across moved.down, black_as size x y moved.across moved.down));
        above = λ px py across before.
            let down : py < page_height one.size dpi = omega (arith, moved.down) in
            cc (moved.above px py across before, shows.dots px py across down, black_as size px py across down);
        left = λ px before.
            let across : px < page_width one.size dpi = omega (arith, moved.across) in
            cc (moved.left px before, shows.dots px y across moved.down, black_as size px y across moved.down);
      }

  sheets_differ : (difference : Difference) → PagesDiffer page page' (Some difference) → DifferBy dpi one other difference
  sheets_differ (Size first second) d = (cc, cc, d.2)
  sheets_differ (Copies first second) d = (cc, cc, cc, d.3)
  sheets_differ (Dot x y) d = let size : one.size ≡ other.size = cc in (size, cc, dots_differ size d.2)

-- ---- the pages in order

module _ (dpi : Dpi) where
  kept_count : (pages : List Sheet) (kept : List KeptPage) → KeepAll dpi pages kept → length pages ≡ length kept
  kept_count [] [] k = refl
  kept_count (page ∷ pages) (one ∷ kept) k = omega (arith, kept_count pages kept k.3)
  kept_count _ _ k = absurd k

  found_count : (kept : List KeptPage) (others : List Sheet) (found : List (Option Difference)) → FindAll dpi kept others found
      → length others ≡ length found
  found_count kept [] [] f = refl
  found_count kept (other ∷ others) (one ∷ found) f = omega (arith, found_count (drop 1 kept) others found f.3)
  found_count kept _ _ f = absurd f

  all_alike : (pages : List Sheet) (kept : List KeptPage) (others : List Sheet) (found : List (Option Difference))
      → KeepAll dpi pages kept → FindAll dpi kept others found → length found ≡ length kept → AllByRecursion IsAlike found
      → AllAlike dpi pages others
  all_alike [] [] [] [] k f count a = tt
  all_alike (page ∷ pages) (one ∷ kept) (other ∷ others) (next ∷ found) k f count a =
      let alike = sheets_alike k.1 f.1 (rw a.0 at (f.2 k.0 k.2 (cc (k.1.resolution, f.1.resolution)))) in
      (alike, all_alike pages kept others found k.3 f.3 (omega arith) a.1)
  all_alike _ _ _ _ k f count a = absurd (grind arith)

  -- the first pages that differ
  differ_first : {pages others : List Sheet} {number : ℕ} {difference : Difference} (pages_before : List Sheet) (page : Sheet)
      (pages_after others_before : List Sheet) (other : Sheet) (others_after : List Sheet) → pages ≡ pages_before ++ page ∷ pages_after
      → others ≡ others_before ++ other ∷ others_after → AllAlike dpi pages_before others_before → number ≡ length pages_before + 1
      → DifferBy dpi page other difference → DifferFirst dpi pages others number difference
  differ_first _ _ _ _ _ _ pages_are others_are alike counted differ = search

  first_differ : (pages : List Sheet) (kept : List KeptPage) (others : List Sheet) (before : List (Option Difference))
      {difference : Difference} (after : List (Option Difference)) → KeepAll dpi pages kept
      → FindAll dpi kept others (before ++ Some difference ∷ after) → length (before ++ Some difference ∷ after) ≡ length kept
      → AllByRecursion IsAlike before → DifferFirst dpi pages others (length before + 1) difference
  first_differ (page ∷ pages) (one ∷ kept) (other ∷ others) [] {difference} after k f count a =
      differ_first [] page pages [] other others refl refl tt refl
      (sheets_differ k.1 f.1 difference (f.2 k.0 k.2 (cc (k.1.resolution, f.1.resolution))))
  first_differ (page ∷ pages) (one ∷ kept) (other ∷ others) (b ∷ before) after k f count a =
      let rest = first_differ pages kept others before after k.3 f.3 (omega arith) a.1 in
      differ_first (page ∷ rest.pages_before) rest.page rest.pages_after (other ∷ rest.others_before) rest.other rest.others_after
      (cc (rest.pages_are)) (cc (rest.others_are))
      (sheets_alike k.1 f.1 (rw a.0 at (f.2 k.0 k.2 (cc (k.1.resolution, f.1.resolution)))), rest.alike_before)
      (omega (arith, rest.counted)) rest.differ
  first_differ _ _ _ [] after k f count a = absurd (grind arith)
  first_differ _ _ _ (b ∷ before) after k f count a = absurd (grind arith)

-- ---- the jobs

pub compared_so : (dpi : Dpi) (pages : List Sheet) (kept : List KeptPage) (others : List Sheet) (found : List (Option Difference))
    (result : Option PagesDifference) → KeepAll dpi pages kept → FindAll dpi kept others found → PagesDifferBy (length kept) found result
    → Compare dpi pages others (comparison_of result)
compared_so dpi pages kept others found None k f is = all_alike dpi pages kept others found k f is.0 is.1
compared_so dpi pages kept others found (Some (difference.Count count other_count)) k f is =
    (cc (kept_count dpi pages kept k), cc (found_count dpi kept others found f), is.2)
compared_so dpi pages kept others found (Some (difference.Page number by)) k f is =
    let first = is.1 in
    let differ = first_differ dpi pages kept others first.before first.after k (rw first.found_are at f)
    (rw (← first.found_are) is.0) first.alike_before in
    (cc (kept_count dpi pages kept k, found_count dpi kept others found f), rw first.counted differ)

-- a job beside one that is kept
pub beside_kept : {last : LastExit} {profile : Profile} → OnePages profile
    → {dpi : Dpi} {first second : List ℕ} {kept : KeptJob} {others : List Sheet} {other_asks : Asks}
    → (k : IsKept profile dpi first kept) → HasPagesBy profile dpi second others → HasAsksBy profile dpi second other_asks
    → (difference : Option PagesDifference) (found : List (Option Difference)) → FindAll dpi kept.pages.items others found
    → PagesDifferBy (length kept.pages.items) found difference → (result : AskedComparison) → of_pages result ≡ comparison_of difference
    → ((difference ≡ None → length kept.asks.pages.items ≡ length other_asks.pages) → AreAtEnd (asks_of kept.asks) other_asks
    → CompareAsks (as_counted last (asks_of kept.asks)) (as_counted last other_asks) result)
    → IsComparisonCounting last profile dpi first second result
beside_kept {last} one {dpi} {first} {second} {kept} {others} {other_asks} k meaning asked difference found f is result pages asks =
    let compare = compared_so dpi k.pages kept.pages.items others found difference k.keeps f is in
    let compare_pages : Compare dpi k.pages others (of_pages result) = rw pages compare in
    let compare_asks = asks (λ none.
    cc (asked_pages one k.meaning k.asked, alike_count dpi k.pages others (rw none at compare), asked_pages one meaning asked)) (
      ap (λ (a : Asks). a.next) k.asked.asked ∙ sym (ap (λ (a : Asks). a.next) asked.asked),
      ap (λ (a : Asks). a.is_reset) k.asked.asked ∙ sym (ap (λ (a : Asks). a.is_reset) asked.asked),
    ) in
    search (k, meaning, asked, compare_pages, compare_asks)
