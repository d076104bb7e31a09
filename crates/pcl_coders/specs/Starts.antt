-- Where the replacements of method 3 start.
use Rattle.std.specs.Prelude.{◌≡◌, ◌≢◌, ℕ, ◌-◌, ◌<◌, ◌≤◌, List, ◌∷◌, slice_index, length}
use Rattle.pcl_base.specs.declared.method.Method.TheVariants.{Delta}
use Rattle.pcl_rows.specs.Heads.{offset_of}
use Rattle.pcl_rows.specs.Elements.{Element}
use Rattle.pcl_base.specs.Walks.{Walk, total}
use Rattle.pcl_coders.specs.RowWalks.{StepsOver, NeedsNoMore, element_cost}

-- the latest start of a replacement at a place: the first byte from there on that differs from the row before
pub record IsLatestStart (old row : List ℕ) (place start : ℕ) : Type 0 where
  pub order : place ≤ start
  pub within : start < length row
  pub same : (k : ℕ) → place ≤ k → k < start → slice_index old k ≡ slice_index row k
  pub differs : slice_index old start ≢ slice_index row start

-- a walk from a place that begins with a replacement at a start, and costs no more than a number
pub record StartsAt (old row : List ℕ) (place start most : ℕ) : Type 0 where
  pub first : Element
  pub rest : List Element
  pub offset_is : offset_of first.head ≡ start - place
  pub walk : Walk (StepsOver Delta old row) (NeedsNoMore old row) place (first ∷ rest)
  pub cheap : total element_cost (first ∷ rest) ≤ most
