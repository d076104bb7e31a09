-- Elements of row data: how they are spelled, and what they give.
use Rattle.std.specs.Prelude.{◌≡◌, ℕ, ◌+◌, List, [], ◌∷◌, ◌++◌, length, replicate, flat_map}
use Rattle.std.specs.List.{AllByRecursion}
use Rattle.pcl_base.specs.declared.method.Method.{Method}
use Rattle.pcl_rows.specs.Heads.{Head, method_of, IsInRange, head_bytes, new_count, copies_of, offset_of}

-- a head and the new bytes after it
pub record Element : Type 0 where
  pub head : Head
  pub bytes : List ℕ

-- a head of a method, within its ranges
pub record IsHead (method : Method) (head : Head) : Type 0 where
  pub method_is : method_of head ≡ method
  pub in_range : IsInRange head

-- a whole element of a method
pub record IsElement (method : Method) (e : Element) : Type 0 where
  pub head_is : IsHead method e.head
  pub complete : length e.bytes ≡ new_count e.head

-- its bytes
abbrev pub element_bytes : Element → List ℕ
element_bytes e = head_bytes e.head ++ e.bytes

-- what new bytes after a head give: each of them as often as the head says
abbrev pub given_by : Head → List ℕ → List ℕ
given_by head new = flat_map (λ byte. replicate (copies_of head) byte) new

-- the bytes of the row that an element gives
abbrev pub given : Element → List ℕ
given e = given_by e.head e.bytes

-- how far it goes from the first untreated byte of the row
abbrev pub stop : Element → ℕ
stop e = offset_of e.head + length (given e)

-- how far elements go, one after the other
abbrev pub reach : List Element → ℕ
reach [] = 0
reach (e ∷ es) = stop e + reach es

-- whole elements of a method
abbrev pub AreElements : Method → List Element → Type 0
AreElements method es = AllByRecursion (IsElement method) es
