-- A sink that makes images of the pages that are asked for.
use Rattle.std.specs.Prelude.{◌≡◌, ℕ, if◌then◌else◌, Bool, true, false, List, [], ◌∷◌, ◌++◌, drop, Option, Some, None}
use Rattle.std.specs.Borrow.{Bor}
use Rattle.pcl_bitmap.specs.declared.page.Page.{Page}
use Rattle.pcl_preview.specs.declared.form.ImageForm.{ImageForm}
use Rattle.pcl_preview.specs.declared.page_images.PageChoice.{PageChoice}
use Rattle.pcl_preview.specs.declared.page_images.PageChoice.TheVariants.{All, Listed}
use Rattle.pcl_preview.specs.declared.page_images.Shown.TheInside.{Inside}
use Rattle.pcl_preview.specs.PageImages.{image_in, last_listed}

-- which of the pages to come are listed, unless all are asked for, and the images so far
pub record Showing : Type 0 where
  pub left : Option (List Bool)
  pub form : ImageForm
  pub images : List ℕ

abbrev pub flags_of : PageChoice → Option (List Bool)
flags_of All = None
flags_of (Listed set) = Some set.flags

abbrev pub is_all : PageChoice → Bool
is_all All = true
is_all (Listed set) = false

-- which of the pages to come are listed, by these flags, unless all are asked for
abbrev pub left_among : (is_all : Bool) (flags : List Bool) → Option (List Bool)
left_among is_all flags = if is_all then None else Some flags

abbrev pub left_of : Option (Bor (List Bool)) → Option (List Bool)
left_of None = None
left_of (Some flags) = Some flags.now

abbrev pub showing : Inside → Showing
showing a = record { left = left_of a.left; form = a.form; images = a.images.items }

abbrev pub asks_next : Option (List Bool) → Bool
asks_next None = true
asks_next (Some []) = false
asks_next (Some (flag ∷ flags)) = flag

-- which of the pages after the next are listed
abbrev pub later : Option (List Bool) → Option (List Bool)
later None = None
later (Some flags) = Some (drop 1 flags)

abbrev pub next_image : ImageForm → Option (List Bool) → Page → List ℕ
next_image form left page = if asks_next left then image_in form page.bitmap else []

abbrev pub shown_after : Showing → Page → Showing
shown_after old page = record { left = later old.left; form = old.form; images = old.images ++ next_image old.form old.left page }

-- no further page is asked for by its number
abbrev pub IsMet : Option (List Bool) → Type 0
IsMet None = Unit {0}
IsMet (Some flags) = last_listed flags ≡ 0

abbrev pub IsMetBy : Option (List Bool) → Bool → Type 0
IsMetBy left true = IsMet left
IsMetBy left false = IsMet left → ⊥
