-- Least data for a row.
use Rattle.std.specs.Prelude.{◌≡◌, ℕ, ◌≤◌, List, ◌++◌, length}
use Rattle.pcl_base.specs.Limits.{row_limit}
use Rattle.pcl_base.specs.declared.method.Method.{Method}
use Rattle.pcl_rows.specs.Rows.{IsRowData}

-- a row and a seed row that a coder takes
pub record IsCodable (seed row : List ℕ) : Type 0 where
  pub same_size : length seed ≡ length row
  pub small : length row ≤ row_limit

-- the least length of whole data for the row: some has it, and none is shorter
pub record IsLeastLength (method : Method) (seed row : List ℕ) (least : ℕ) : Type 0 where
  pub attained : (bytes : List ℕ) × IsRowData method seed row bytes × (length bytes ≡ least)
  pub shortest : (bytes : List ℕ) → IsRowData method seed row bytes → least ≤ length bytes

-- new is old with whole data of least length for the row at its end
pub record AppendsLeast (method : Method) (seed row old new : List ℕ) : Type 0 where
  pub bytes : List ℕ
  pub joined : new ≡ old ++ bytes
  pub whole : IsRowData method seed row bytes
  pub least : IsLeastLength method seed row (length bytes)
