-- The walks of a page: the nodes are how far its rows are printed, and a step is a token of the output grammar.
use Rattle.std.specs.Prelude.{◌≡◌, ℕ, zero, suc, ◌+◌, ◌<◌, ◌≤◌, ◌&&◌, Bool, true, false, not, List, [], length, take, drop, replicate, slice_index_or}
use Rattle.std.specs.List.{AllByRecursion}
use Rattle.pcl_base.specs.declared.method.Method.{Method}
use Rattle.pcl_base.specs.declared.method.Method.TheVariants.{Plain}
use Rattle.pcl_base.specs.Method.{method_code}
use Rattle.pcl_rows.specs.Rows.{IsRowData}
use Rattle.pcl_output.specs.declared.node.Node.{Node}
use Rattle.pcl_output.specs.declared.step.Step.{Step}
use Rattle.pcl_output.specs.declared.step.Step.TheVariants.{Skip, Switch, Row}
use Rattle.pcl_output.specs.Tokens.{Token, opening, method, skip, send, token_bytes, IsSpelled, AreWhite}

-- where a body begins
abbrev pub start : Node
start = record { row = 0; method = Plain; inside = false }

-- row y of the rows of a page, the topmost row 0
abbrev pub row_at : List (List ℕ) → ℕ → List ℕ
row_at rows y = slice_index_or rows y []

-- the row above it: the topmost one has zeros above it
abbrev pub row_above : ℕ → List (List ℕ) → ℕ → List ℕ
row_above width rows zero = replicate width 0
row_above width rows (suc y) = row_at rows y

-- A token leads from one node to another, true to the rows: outside a sequence one is opened; inside a method is set,
-- white rows are skipped, or a row is sent as whole data for it over the row above.
abbrev pub Leads : ℕ → List (List ℕ) → Node → Token → Node → Type 0
Leads width rows a opening b = (a.inside ≡ false) × (b ≡ record { row = a.row; method = a.method; inside = true })
Leads width rows a (method digits next ends) b =
    (a.inside ≡ true) × IsSpelled digits (method_code next) × (b ≡ record { row = a.row; method = next; inside = not ends })
Leads width rows a (skip digits count ends) b =
    (a.inside ≡ true) × IsSpelled digits count × (0 < count) × (a.row + count ≤ length rows) × AreWhite (take count (drop a.row rows))
    × (b ≡ record { row = a.row + count; method = a.method; inside = not ends })
Leads width rows a (send digits bytes) b =
    (a.inside ≡ true) × IsSpelled digits (length bytes) × (a.row < length rows)
    × IsRowData a.method (row_above width rows a.row) (row_at rows a.row) bytes
    × (b ≡ record { row = a.row + 1; method = a.method; inside = false })

-- a body may end outside a sequence, where the rest of the rows is white
abbrev pub Ends : List (List ℕ) → Node → Type 0
Ends rows a = (a.inside ≡ false) × AreWhite (drop a.row rows)

-- ---- steps

-- after a row no sequence is open
abbrev pub stays_inside : Step → Bool
stays_inside (Skip rows) = true
stays_inside (Switch next) = true
stays_inside (Row count) = false

-- how many rows are printed after a step, and the method there
abbrev pub row_after : ℕ → Step → ℕ
row_after row (Skip count) = row + count
row_after row (Switch next) = row
row_after row (Row bytes) = row + 1

abbrev pub method_after : Method → Step → Method
method_after current (Skip count) = current
method_after current (Switch next) = next
method_after current (Row bytes) = current

-- the node after a step, which ends its sequence or doesn't
abbrev pub node_after : Node → Step → Bool → Node
node_after node step ends =
    record { row = row_after node.row step; method = method_after node.method step; inside = stays_inside step && not ends }

-- ---- costs

-- what a token costs: its bytes
abbrev pub cost : Token → ℕ
cost token = length (token_bytes token)

-- rows of one length
abbrev pub AreOfWidth : ℕ → List (List ℕ) → Type 0
AreOfWidth width rows = AllByRecursion (λ row. length row ≡ width) rows
