-- Tables of numbers for the nodes of a page.
use Rattle.std.specs.Prelude.{◌≡◌, ℕ, ◌+◌, ◌≤◌, ◌⊎◌, min, Bool, true, false, List, slice_index_or}
use Rattle.pcl_base.specs.declared.method.Method.{Method}
use Rattle.pcl_base.specs.declared.method.Method.TheVariants.{Plain, Runs, Packed, Delta}
use Rattle.pcl_output.specs.declared.node.Node.{Node}
use Rattle.pcl_output.specs.Spelling.{switching}
use Rattle.pcl_output.specs.declared.by_method.ByMethod.{ByMethod}
use Rattle.pcl_output.specs.declared.table.RowNumbers.{RowNumbers}

-- the number of a method
abbrev pub by_method : ByMethod → Method → ℕ
by_method numbers Plain = numbers.plain
by_method numbers Runs = numbers.runs
by_method numbers Packed = numbers.packed
by_method numbers Delta = numbers.delta

-- the number of a method, inside a sequence or outside
abbrev pub number_in : RowNumbers → Method → Bool → ℕ
number_in numbers method true = by_method numbers.inside method
number_in numbers method false = by_method numbers.outside method

-- numbers that are all alike
abbrev pub all_alike : ℕ → ByMethod
all_alike number = record { plain = number; runs = number; packed = number; delta = number }

-- numbers that are all 0, for rows that a table doesn't have
abbrev pub no_numbers : RowNumbers
no_numbers = record { outside = all_alike 0; inside = all_alike 0 }

-- the numbers where the rest of the rows is white
abbrev pub end_numbers : RowNumbers
end_numbers = record { outside = all_alike 0; inside = all_alike 1 }

-- The number of a node in a table. Contracts see a table as the numbers after no row, after one, and so on to all.
abbrev pub node_number : List RowNumbers → Node → ℕ
node_number table node = number_in (slice_index_or table node.row no_numbers) node.method node.inside

-- ---- numbers after the same rows

-- the number after this many rows, outside a sequence and inside one, and the lesser of the two
abbrev pub outside : (Node → ℕ) → ℕ → Method → ℕ
outside number row method = number (record { row = row; method = method; inside = false })

abbrev pub inside : (Node → ℕ) → ℕ → Method → ℕ
inside number row method = number (record { row = row; method = method; inside = true })

abbrev pub rest : (Node → ℕ) → ℕ → Method → ℕ
rest number row method = min (outside number row method) (inside number row method)

-- the numbers of a row: with a switch before that, or none, and with a sequence opened
pub record IsSwitched (direct : Method → ℕ) (numbers : RowNumbers) : Type 0 where
  pub stays : (method : Method) → number_in numbers method true ≤ direct method
  pub switches : (method next : Method) → number_in numbers method true ≤ switching next + direct next
  pub attained : (method : Method) → (number_in numbers method true ≡ direct method)
      ⊎ ((next : Method) × (number_in numbers method true ≡ switching next + direct next))
  pub opens : (method : Method) → number_in numbers method false ≡ 3 + number_in numbers method true
