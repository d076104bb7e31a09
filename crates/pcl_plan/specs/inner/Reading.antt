-- Steps while they are read off a table.
use Rattle.std.specs.Prelude.{◌≡◌, ℕ, ◌+◌, ◌<◌, true, false, List, length}
use Rattle.pcl_base.specs.declared.method.Method.{Method}
use Rattle.pcl_coders.specs.Coding.{IsLeastLength}
use Rattle.pcl_base.specs.Walks.{Walk, total}
use Rattle.pcl_output.specs.Tokens.{Token}
use Rattle.pcl_output.specs.declared.node.Node.{Node}
use Rattle.pcl_output.specs.Nodes.{start, row_at, row_above, Leads, Ends, cost, stays_inside, row_after, method_after}
use Rattle.pcl_output.specs.Spelling.{switching, row_cost}
use Rattle.pcl_output.specs.Table.{outside, inside, rest}
use Rattle.pcl_plan.specs.inner.Filling.{skipping}
use Rattle.pcl_output.specs.inner.WhiteRows.{AreSkippable}
use Rattle.pcl_plan.specs.Plans.{Spells}
use Rattle.pcl_output.specs.declared.step.Step.{Step}
use Rattle.pcl_output.specs.declared.step.Step.TheVariants.{Skip, Switch, Row}

-- a step with which the least begins that comes inside a sequence
abbrev pub IsBestStep : ℕ → List (List ℕ) → (Node → ℕ) → ℕ → Method → Step → Type 0
IsBestStep width rows number row method (Skip count) = AreSkippable rows row count
    × (inside number row method ≡ skipping number row method count)
IsBestStep width rows number row method (Switch next) = inside number row method ≡ switching next + rest number row next
IsBestStep width rows number row method (Row bytes) =
    (row < length rows) × IsLeastLength method (row_above width rows row) (row_at rows row) bytes
    × (inside number row method ≡ row_cost bytes + outside number (row + 1) method)

-- the node after a step: a sequence goes on unless it ends with a row, or because the rest is white
pub record IsNextNode (number : Node → ℕ) (row : ℕ) (method : Method) (step : Step) (next : Node) : Type 0 where
  pub row_is : next.row ≡ row_after row step
  pub method_is : next.method ≡ method_after method step
  pub goes_on : next.inside ≡ true → (stays_inside step ≡ true) × (0 < outside number next.row next.method)
  pub ends : next.inside ≡ false → stays_inside step ≡ true → outside number next.row next.method ≡ 0

-- steps that are a walk of least cost
pub record AreLeastSteps (width : ℕ) (rows : List (List ℕ)) (number : Node → ℕ) (steps : List Step) : Type 0 where
  pub tokens : List Token
  pub spelled : Spells false steps tokens
  pub walk : Walk (Leads width rows) (Ends rows) start tokens
  pub total_is : total cost tokens ≡ number start
