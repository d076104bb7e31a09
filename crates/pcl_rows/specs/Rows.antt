-- Row data for a row over a seed row.
use Rattle.std.specs.Prelude.{◌≡◌, ℕ, ◌+◌, ◌<◌, ◌≤◌, List, [], ◌∷◌, ◌++◌, length, take, drop, flat_map}
use Rattle.pcl_base.specs.Limits.{data_limit}
use Rattle.pcl_base.specs.declared.method.Method.{Method}
use Rattle.pcl_rows.specs.Heads.{Head, head_bytes, offset_of}
use Rattle.pcl_rows.specs.Decoding.{base, decoded}
use Rattle.pcl_rows.specs.Elements.{Element, IsElement, AreElements, element_bytes, given_by, reach}

-- data is of whole elements that reach no place past the row
abbrev pub IsWhole : Method → List ℕ → ℕ → Type 0
IsWhole method bytes row_bytes =
    (es : List Element) × AreElements method es × (bytes ≡ flat_map element_bytes es) × (reach es ≤ row_bytes)

-- whole data for a row over a seed row
pub record IsRowData (method : Method) (seed row bytes : List ℕ) : Type 0 where
  pub whole : IsWhole method bytes (length row)
  pub decodes : row ≡ decoded method seed bytes
  pub fits : length bytes ≤ data_limit

-- ---- how data is read: as a relation, of which the row that is decoded is the only one

-- untreated bytes, after an element with these new bytes: those up to its offset stay, the given ones come,
-- and what follows treats the rest
abbrev pub after_element : Head → List ℕ → (List ℕ → List ℕ) → List ℕ → List ℕ
after_element head new rest old =
    take (offset_of head) old ++ (given_by head new ++ rest (drop (offset_of head + length (given_by head new)) old))

-- untreated bytes, after whole elements and then what follows
abbrev pub after_elements : List Element → (List ℕ → List ℕ) → List ℕ → List ℕ
after_elements [] rest old = rest old
after_elements (e ∷ es) rest old = after_element e.head e.bytes (after_elements es rest) old

-- data is the bytes of whole elements, and then the first bytes of one more, which lacks its last byte at least
pub record IsCutIntoElements (method : Method) (bytes : List ℕ) (whole : List Element) (cut : Element) (shown : List ℕ) : Type 0 where
  pub elements : AreElements method whole
  pub joined : bytes ≡ flat_map element_bytes whole ++ shown
  pub element : IsElement method cut
  pub lacking : (missing : List ℕ) × (shown ++ missing ≡ element_bytes cut) × (0 < length missing)

-- what a reading makes of untreated bytes: the cut element gives the new bytes that stand in it
abbrev pub treated : List Element → Element → List ℕ → List ℕ → List ℕ
treated whole cut shown old =
    after_elements whole (after_element cut.head (drop (length (head_bytes cut.head)) shown) (λ rest. rest)) old

-- the row that data makes of another row; what lies past its bytes is dropped
abbrev pub RowFrom : Method → List ℕ → List ℕ → List ℕ → Type 0
RowFrom method bytes old row =
    (whole : List Element) × (cut : Element) × (shown : List ℕ) × IsCutIntoElements method bytes whole cut shown
    × (row ≡ take (length old) (treated whole cut shown old))

-- the row that data makes over a seed row
abbrev pub Decodes : Method → List ℕ → List ℕ → List ℕ → Type 0
Decodes method seed bytes row = RowFrom method bytes (base method seed) row
