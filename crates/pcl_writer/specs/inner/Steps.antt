-- A body while it is written.
use Rattle.std.specs.Prelude.{◌≡◌, ℕ, ◌<◌, ◌&&◌, Bool, not, List, [], ◌∷◌, ◌++◌, length}
use Rattle.std.specs.List.{flat_map}
use Rattle.pcl_base.specs.declared.method.Method.{Method}
use Rattle.pcl_base.specs.Size.{page_row_bytes}
use Rattle.pcl_bitmap.specs.Bitmap.{Picture}
use Rattle.pcl_rows.specs.Rows.{IsRowData}
use Rattle.pcl_coders.specs.Coding.{IsLeastLength}
use Rattle.pcl_base.specs.Walks.{Walk, total}
use Rattle.pcl_output.specs.declared.step.Step.{Step}
use Rattle.pcl_output.specs.declared.step.Step.TheVariants.{Skip, Switch, Row}
use Rattle.pcl_output.specs.Tokens.{Token, opening, method, skip, send, token_bytes}
use Rattle.pcl_output.specs.PageText.{bitmap_rows}
use Rattle.pcl_output.specs.Nodes.{start, row_at, row_above, Leads, Ends, cost, stays_inside, row_after, method_after}
use Rattle.pcl_output.specs.Spelling.{least_spelling}
use Rattle.pcl_output.specs.Table.{node_number}
use Rattle.pcl_plan.specs.Plans.{StepsAndTable, IsTokenOf, IsPlan, opened}
use Rattle.pcl_output.specs.declared.node.Node.{Node}

-- the rows of a bitmap, and the row above a row
abbrev pub width_of : Picture → ℕ
width_of picture = page_row_bytes picture.size picture.dpi

abbrev pub above : Picture → ℕ → List ℕ
above picture y = row_above (width_of picture) (bitmap_rows picture) y

-- a plan of a bitmap
abbrev pub IsBitmapPlan : Picture → StepsAndTable → Type 0
IsBitmapPlan picture plan = IsPlan (width_of picture) (bitmap_rows picture) plan

-- a row that is sent has this many bytes of data at least
abbrev pub IsWritable : Picture → ℕ → Method → Step → Type 0
IsWritable picture row current (Skip count) = Unit {0}
IsWritable picture row current (Switch next) = Unit {0}
IsWritable picture row current (Row bytes) = (row < length (bitmap_rows picture))
    × IsLeastLength current (above picture row) (row_at (bitmap_rows picture) row) bytes

-- the data of a row that is sent is whole data for it
abbrev pub HasRowData : Picture → ℕ → Method → Token → Type 0
HasRowData picture row current opening = Unit {0}
HasRowData picture row current (method digits next ends) = Unit {0}
HasRowData picture row current (skip digits count ends) = Unit {0}
HasRowData picture row current (send digits bytes) = IsRowData current (above picture row) (row_at (bitmap_rows picture) row) bytes

-- ---- what is appended

-- a row's data after its length
abbrev pub AppendsRow : Picture → ℕ → Method → ℕ → List ℕ → List ℕ → Type 0
AppendsRow picture row current bytes old new =
    (whole : List ℕ) × IsRowData current (above picture row) (row_at (bitmap_rows picture) row) whole × (length whole ≡ bytes)
    × (new ≡ old ++ (least_spelling bytes ++ 87 ∷ whole))

-- the parameter of a step
abbrev pub AppendsParameter : Picture → ℕ → Method → Step → Bool → List ℕ → List ℕ → Type 0
AppendsParameter picture row current step ends old new =
    (token : Token) × IsTokenOf step ends token × HasRowData picture row current token × (new ≡ old ++ token_bytes token)

-- the same, with a sequence opened where none is open
abbrev pub AppendsStep : Picture → Node → Step → Bool → List ℕ → List ℕ → Type 0
AppendsStep picture node step ends old new =
    (token : Token) × IsTokenOf step ends token × HasRowData picture node.row node.method token
    × (new ≡ old ++ flat_map token_bytes (opened node.inside (token ∷ [])))

-- a body along a walk of least cost
abbrev pub AppendsBody : Picture → StepsAndTable → List ℕ → List ℕ → Type 0
AppendsBody picture plan old new =
    (tokens : List Token) × (new ≡ old ++ flat_map token_bytes tokens)
    × Walk (Leads (width_of picture) (bitmap_rows picture)) (Ends (bitmap_rows picture)) start tokens
    × (total cost tokens ≡ node_number plan.table start)
