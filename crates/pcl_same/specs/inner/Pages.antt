-- The pages of the first job, kept, and those of the second beside them.
use Rattle.std.specs.Prelude.{◌≡◌, ◌≢◌, ℕ, ◌+◌, List, [], ◌∷◌, ◌++◌, length, drop, Option, Some, None}
use Rattle.std.specs.List.{AllByRecursion}
use Rattle.pcl_base.specs.declared.dpi.Dpi.{Dpi}
use Rattle.pcl_base.specs.Size.{page_width, page_height}
use Rattle.pcl_bitmap.specs.Bitmap.{dot}
use Rattle.pcl_bitmap.specs.declared.page.Page.{Page}
use Rattle.pcl_page.specs.Situation.{Sheet}
use Rattle.pcl_page.specs.Performing.{Shows}
use Rattle.pcl_same.specs.declared.comparison.PageComparison.{PageComparison}
use Rattle.pcl_same.specs.declared.comparison.PageComparison.TheVariants as comparison
use Rattle.pcl_same.specs.declared.comparison.Difference.{Difference}
use Rattle.pcl_same.specs.declared.comparison.Difference.TheVariants as difference
use Rattle.pcl_same.specs.declared.comparison.PagesDifference.{PagesDifference}
use Rattle.pcl_same.specs.declared.comparison.PagesDifference.TheVariants as pages
use Rattle.pcl_same.specs.declared.keeping.KeptPage.{KeptPage}
use Rattle.pcl_same.specs.declared.comparing.Comparer.TheInside.{Inside}
use Rattle.pcl_same.specs.Differing.{IsFirstDot}
use Rattle.pcl_same.specs.Kept.{KeepsPage}

-- ---- a page of the second job

-- how two pages of one resolution differ
abbrev pub PagesDiffer : Page → Page → Option Difference → Type 0
PagesDiffer one other None = (one.size ≡ other.size) × (one.copies ≡ other.copies) × (one.bitmap ≡ other.bitmap)
PagesDiffer one other (Some (difference.Size first second)) = (one.size ≡ first) × (other.size ≡ second) × (first ≢ second)
PagesDiffer one other (Some (difference.Copies first second)) =
    (one.size ≡ other.size) × (one.copies ≡ first) × (other.copies ≡ second) × (first ≢ second)
PagesDiffer one other (Some (difference.Dot x y)) =
    (one.size ≡ other.size) × (one.copies ≡ other.copies)
    × IsFirstDot (page_width one.size one.dpi) (page_height one.size one.dpi) (dot one.bitmap) (dot other.bitmap) x y

-- what is found of a page beside a kept one
abbrev pub IsFoundBeside : KeptPage → Page → Option Difference → Type 0
IsFoundBeside kept other found = (page : Page) → KeepsPage page kept → page.dpi ≡ other.dpi → PagesDiffer page other found

-- the kept pages, and what was found of each page so far
pub record Compared : Type 0 where
  pub kept : List KeptPage
  pub found : List (Option Difference)

abbrev pub compared : Inside → Compared
compared a = record { kept = a.kept.now; found = a.found.items }

-- what is found of a page by the kept pages that are left: nothing is said where there is none
abbrev pub IsFoundNext : List KeptPage → Page → Option Difference → Type 0
IsFoundNext [] page found = Unit {0}
IsFoundNext (kept ∷ later) page found = IsFoundBeside kept page found

-- a page is compared with the kept one of its number
pub record ComparesNext (old : Compared) (page : Page) (new : Compared) : Type 0 where
  pub kept : new.kept ≡ old.kept
  pub next : Option Difference
  pub found : new.found ≡ old.found ++ next ∷ []
  pub is : IsFoundNext (drop (length old.found) old.kept) page next

-- ---- all pages of the second job

-- nothing is found
abbrev pub IsAlike : Option Difference → Type 0
IsAlike found = found ≡ None

-- the first that was found
pub record IsFirstFound (found : List (Option Difference)) (number : ℕ) (difference : Difference) : Type 0 where
  pub before : List (Option Difference)
  pub after : List (Option Difference)
  pub found_are : found ≡ before ++ Some difference ∷ after
  pub alike_before : AllByRecursion IsAlike before
  pub counted : number ≡ length before + 1

-- how a number of pages differ from others, by what was found of each of these
abbrev pub PagesDifferBy : ℕ → List (Option Difference) → Option PagesDifference → Type 0
PagesDifferBy count found None = (length found ≡ count) × AllByRecursion IsAlike found
PagesDifferBy count found (Some (pages.Count first second)) = (first ≡ count) × (second ≡ length found) × (first ≢ second)
PagesDifferBy count found (Some (pages.Page number difference)) = (length found ≡ count) × IsFirstFound found number difference

-- the same as an answer
abbrev pub comparison_of : Option PagesDifference → PageComparison
comparison_of None = comparison.Same
comparison_of (Some (pages.Count first second)) = comparison.PageCount first second
comparison_of (Some (pages.Page number difference)) = comparison.Page number difference

-- the job's pages, each found beside the kept one of its number
abbrev pub FindAll : Dpi → List KeptPage → List Sheet → List (Option Difference) → Type 0
FindAll dpi kept [] [] = Unit {0}
FindAll dpi kept [] (found ∷ more) = ⊥
FindAll dpi kept (sheet ∷ sheets) [] = ⊥
FindAll dpi kept (sheet ∷ sheets) (found ∷ more) =
    (page : Page) × Shows dpi page sheet × IsFoundNext kept page found × FindAll dpi (drop 1 kept) sheets more
