-- Plans: steps that print the rows of a page, with a table that shows that no others cost less.
use Rattle.std.specs.Prelude.{◌≡◌, ℕ, ◌+◌, ◌≤◌, Bool, true, false, List, [], ◌∷◌, length}
use Rattle.pcl_base.specs.Method.{method_code}
use Rattle.pcl_base.specs.Walks.{Walk, total, IsFeasible, IsLeastCost}
use Rattle.pcl_output.specs.Tokens.{Token, opening, method, skip, send}
use Rattle.pcl_output.specs.declared.node.Node.{Node}
use Rattle.pcl_output.specs.Nodes.{start, Leads, Ends, cost, stays_inside}
use Rattle.pcl_output.specs.Spelling.{least_spelling}
use Rattle.pcl_output.specs.Table.{node_number}
use Rattle.pcl_output.specs.declared.table.RowNumbers.{RowNumbers}
use Rattle.pcl_output.specs.declared.step.Step.{Step}
use Rattle.pcl_output.specs.declared.step.Step.TheVariants.{Skip, Switch, Row}

-- ---- steps as tokens

-- the parameter of a step, with its number in the shortest spelling and some data of that length; it ends its
-- sequence or doesn't, but a row always does
abbrev pub IsTokenOf : Step → Bool → Token → Type 0
IsTokenOf step ends opening = ⊥
IsTokenOf (Skip rows) ends (skip digits count capital) = (count ≡ rows) × (digits ≡ least_spelling rows) × (capital ≡ ends)
IsTokenOf (Switch next) ends (method digits current capital) = (current ≡ next) × (digits ≡ least_spelling (method_code next))
    × (capital ≡ ends)
IsTokenOf (Row count) ends (send digits bytes) = (length bytes ≡ count) × (digits ≡ least_spelling count)
IsTokenOf _ ends _ = ⊥

-- a sequence is opened where none is open
abbrev pub opened : Bool → List Token → List Token
opened true tokens = tokens
opened false tokens = opening ∷ tokens

abbrev pub none_follow : List Step → Bool
none_follow [] = true
none_follow (step ∷ steps) = false

-- tokens that spell steps, from inside a sequence or from outside: the last step ends its sequence too
unfoldable pub Spells : Bool → List Step → List Token → Type 0
Spells inside [] tokens = tokens ≡ []
Spells inside (step ∷ steps) tokens =
    (token : Token) × (rest : List Token) × IsTokenOf step (none_follow steps) token × (tokens ≡ opened inside (token ∷ rest))
    × Spells (stays_inside step) steps rest

-- ---- plans

-- the steps of a page, and its table
pub record StepsAndTable : Type 0 where
  pub steps : List Step
  pub table : List RowNumbers

-- A plan for rows of a page: each number of the table is the least cost of a walk from its node, no number in it, nor
-- any past the rows, is above a token's cost and the number where that leads, and the steps are a walk of least cost.
pub record IsPlan (width : ℕ) (rows : List (List ℕ)) (plan : StepsAndTable) : Type 0 where
  pub size : length plan.table ≡ length rows + 1
  pub feasible : IsFeasible (Leads width rows) (Ends rows) cost (node_number plan.table)
  pub least : (a : Node) → a.row ≤ length rows → IsLeastCost (Leads width rows) (Ends rows) cost a (node_number plan.table a)
  pub tokens : List Token
  pub spelled : Spells false plan.steps tokens
  pub walk : Walk (Leads width rows) (Ends rows) start tokens
  pub total_is : total cost tokens ≡ node_number plan.table start
