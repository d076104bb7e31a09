-- What the front of row data says, as numbers and lists.
use Rattle.std.specs.Prelude.{◌≡◌, ℕ, ◌+◌, ◌*◌, ◌<◌, List, [], ◌∷◌, ◌++◌, length, take, drop, replicate, Bool, MatchBool}
use Rattle.pcl_base.specs.declared.method.Method.{Method}
use Rattle.pcl_base.specs.declared.method.Method.TheVariants.{Packed}
use Rattle.pcl_rows.specs.Heads.{Head, head_bytes, new_count, copies_of, offset_of}
use Rattle.pcl_rows.specs.Elements.{IsHead}

-- data begins with these bytes, or ends within them
abbrev pub Begins : List ℕ → List ℕ → Type 0
Begins bytes front = (missing : List ℕ) × (take (length front) bytes ++ missing ≡ front)

-- `len` bytes at the front of data, or that data ends within, that add `sum` to an offset of 31
pub record IsFurther (bytes : List ℕ) (len sum : ℕ) : Type 0 where
  pub full : ℕ
  pub last : ℕ
  pub last_in_range : last < 255
  pub sum_is : sum ≡ 255 * full + last
  pub len_is : len ≡ full + 1
  pub begins : Begins bytes (replicate full 255 ++ last ∷ [])

-- what the head at the front of data says
pub record Opens (method : Method) (bytes : List ℕ) (len offset count copies : ℕ) : Type 0 where
  pub head : Head
  pub head_is : IsHead method head
  pub len_is : len ≡ length (head_bytes head)
  pub offset_is : offset ≡ offset_of head
  pub count_is : count ≡ new_count head
  pub copies_is : copies ≡ copies_of head
  pub begins : Begins bytes (head_bytes head)

-- the data is a whole element and a rest
pub record IsWholeFront (bytes : List ℕ) (head : Head) (new rest : List ℕ) : Type 0 where
  pub complete : length new ≡ new_count head
  pub joined : bytes ≡ (head_bytes head ++ new) ++ rest

-- the data is a cut element
pub record IsCutFront (bytes : List ℕ) (head : Head) (new rest : List ℕ) : Type 0 where
  pub padding : List ℕ
  pub missing : List ℕ
  pub complete : length padding ≡ new_count head
  pub lacking : bytes ++ missing ≡ head_bytes head ++ padding
  pub lacks : 0 < length missing
  pub new_is : new ≡ drop (length (head_bytes head)) bytes
  pub rest_is : rest ≡ []

-- the element at the front of data, whole or cut: what it says, its new bytes, and the data after it
pub record IsFront (method : Method) (bytes : List ℕ) (offset copies : ℕ) (new rest : List ℕ) (whole : Bool) : Type 0 where
  pub head : Head
  pub head_is : IsHead method head
  pub offset_is : offset ≡ offset_of head
  pub copies_is : copies ≡ copies_of head
  pub parts : MatchBool whole (IsWholeFront bytes head new rest) (IsCutFront bytes head new rest)

-- a list over another one from a place on; what lies past its end is dropped
abbrev pub overlaid : List ℕ → ℕ → List ℕ → List ℕ
overlaid old place new = take (length old) (take place old ++ (new ++ drop (place + length new) old))

-- what stands after elements that give nothing, which method 2 alone has
abbrev pub IsPastSkipped : Method → List ℕ → List ℕ → Type 0
IsPastSkipped method bytes rest = (count : ℕ) × (bytes ≡ replicate count 128 ++ rest) × (0 < count → method ≡ Packed)
