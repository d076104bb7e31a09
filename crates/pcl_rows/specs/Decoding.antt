-- The row that row data make over a seed row, element by element from the left.
use Rattle.std.specs.Prelude.{ℕ, zero, suc, ◌+◌, ◌-◌, ◌/◌, ◌%◌, ◌==◌, nat_lt, if◌then◌else◌, List, [], ◌∷◌, ◌++◌, length, take, drop, replicate}
use Rattle.pcl_base.specs.declared.method.Method.{Method}
use Rattle.pcl_base.specs.declared.method.Method.TheVariants.{Plain, Runs, Packed, Delta}

-- the row before its data comes: zeros, and the seed row for the delta method
abbrev pub base : Method → List ℕ → List ℕ
base Plain seed = replicate (length seed) 0
base Runs seed = replicate (length seed) 0
base Packed seed = replicate (length seed) 0
base Delta seed = seed

-- the element at the front of data: how many bytes of the row stay, what it gives, and the data after it
pub record Front : Type 0 where
  pub offset : ℕ
  pub given : List ℕ
  pub rest : List ℕ

-- a byte that is repeated; where it isn't there, nothing is given
abbrev pub repeated : ℕ → List ℕ → Front
repeated copies [] = record { offset = 0; given = []; rest = [] }
repeated copies (byte ∷ bytes) = record { offset = 0; given = replicate copies byte; rest = bytes }

-- bytes that stand for themselves, after an offset
abbrev pub literal : ℕ → ℕ → List ℕ → Front
literal offset count bytes = record { offset = offset; given = take count bytes; rest = drop count bytes }

-- what an offset of 31 goes on with: bytes that are added up, to the first that isn't 255
abbrev pub further : ℕ → ℕ → List ℕ → Front
further offset count [] = record { offset = offset; given = []; rest = [] }
further offset count (byte ∷ bytes) = if byte == 255 then further (offset + 255) count bytes else literal (offset + byte) count bytes

-- by its first byte
abbrev pub front_of : Method → ℕ → List ℕ → Front
front_of Plain byte bytes = record { offset = 0; given = byte ∷ []; rest = bytes }
front_of Runs byte bytes = repeated (byte + 1) bytes
front_of Packed byte bytes =
    if nat_lt byte 128 then literal 0 (byte + 1) bytes
    else (if byte == 128 then record { offset = 0; given = []; rest = bytes } else repeated (257 - byte) bytes)
front_of Delta byte bytes =
    if byte % 32 == 31 then further 31 (byte / 32 + 1) bytes else literal (byte % 32) (byte / 32 + 1) bytes

-- untreated bytes after at most this many elements
unfoldable pub treated_by : ℕ → Method → List ℕ → List ℕ → List ℕ
treated_by zero method bytes old = old
treated_by (suc more) method [] old = old
treated_by (suc more) method (byte ∷ bytes) old =
    let front = front_of method byte bytes in
    take front.offset old ++ (front.given ++ treated_by more method front.rest (drop (front.offset + length front.given) old))

-- each element takes a byte of the data; what lies past the row is dropped
unfoldable pub decoded : Method → List ℕ → List ℕ → List ℕ
decoded method seed bytes = take (length (base method seed)) (treated_by (length bytes) method bytes (base method seed))
