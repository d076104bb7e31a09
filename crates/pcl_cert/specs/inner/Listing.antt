-- Lists that are put one after the other.
use Rattle.std.specs.Prelude.{◌≡◌, ℕ, ◌+◌, ◌*◌, ◌^◌, ◌<◌, ◌≤◌, false, List, [], ◌∷◌, ◌++◌, length, take, slice_index}
use Rattle.std.specs.List.{AllByRecursion}
use Rattle.pcl_base.specs.declared.method.Method.{Method}
use Rattle.pcl_base.specs.Size.{page_row_bytes}
use Rattle.pcl_coders.specs.RowWalks.{IsLeastTable}
use Rattle.pcl_bitmap.specs.Bitmap.{Picture}
use Rattle.pcl_output.specs.Nodes.{row_at, row_above}
use Rattle.pcl_output.specs.PageText.{bitmap_rows}
use Rattle.pcl_cert.specs.Certificates.{IsList}
use Rattle.pcl_cert.specs.CertificateFields.{ends_in_zero}
use Rattle.pcl_cert.specs.TablesModel.{lists_within, IsListAt}
use Rattle.pcl_cert.specs.PageTables.{table_of, row_table}
use Rattle.pcl_cert.specs.declared.listing.Lists.{Lists}

-- the lists that stand there
abbrev pub listed : Lists → List (List ℕ)
listed lists = lists_within lists.bytes.items lists.starts.items

abbrev pub AreWhole : Lists → Type 0
AreWhole lists = AllByRecursion (IsListAt lists.bytes.items) lists.starts.items

-- numbers without the zeros at their end
pub record IsTrimmed (numbers trimmed : List ℕ) : Type 0 where
  pub len : ℕ
  pub within : len ≤ length numbers
  pub front : trimmed ≡ take len numbers
  pub zeros : (k : ℕ) → len ≤ k → k < length numbers → slice_index numbers k ≡ 0
  pub ends : ends_in_zero trimmed ≡ false

-- a list more stands after the others
pub record HasListMore (old new : Lists) (numbers : List ℕ) : Type 0 where
  pub list : List ℕ
  pub trimmed : IsTrimmed numbers list
  pub small : AllByRecursion (λ n. n < 2 ^ 16) list
  pub lists : listed new ≡ listed old ++ list ∷ []
  pub whole : AreWhole new

-- the same, and the list stands for the least numbers of a row
pub record HasRowMore (method : Method) (seed row : List ℕ) (old new : Lists) : Type 0 where
  pub list : List ℕ
  pub lists : listed new ≡ listed old ++ list ∷ []
  pub whole : AreWhole new
  pub is_list : IsList (length row) list
  pub least : IsLeastTable method seed row (table_of (length row + 1) list)

-- the lists of this many rows stand there
pub record HoldsRows (width : ℕ) (rows : List (List ℕ)) (done : ℕ) (lists : Lists) : Type 0 where
  pub size : length lists.starts.items ≡ 4 * done
  pub whole : AreWhole lists
  pub lists_are : AllByRecursion (IsList width) (listed lists)
  pub least : (row : ℕ) (method : Method) → row < done
      → IsLeastTable method (row_above width rows row) (row_at rows row) (row_table width (listed lists) row method)

abbrev pub HoldsRowsOf : Picture → ℕ → Lists → Type 0
HoldsRowsOf picture done lists = HoldsRows (page_row_bytes picture.size picture.dpi) (bitmap_rows picture) done lists
