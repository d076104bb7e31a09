-- Lists of numbers as they stand in a certificate.
use Rattle.std.specs.Prelude.{ℕ, zero, suc, ◌+◌, ◌*◌, List, [], ◌∷◌, take, drop, slice_index_or}
use Rattle.std.specs.Int.{w16, from_be_bytes}
use Rattle.pcl_base.specs.declared.method.Method.{Method}
use Rattle.pcl_base.specs.Method.{method_code}

-- ---- lists as numbers

-- the list of a row and a method: four for each row, those of methods 0 to 3 in turn
abbrev pub list_of : List (List ℕ) → ℕ → Method → List ℕ
list_of lists row method = slice_index_or lists (4 * row + method_code method) []

-- the number of a place: those after the end of a list are 0
abbrev pub number_at_place : List (List ℕ) → ℕ → Method → ℕ → ℕ
number_at_place lists row method place = slice_index_or (list_of lists row method) place 0

-- ---- lists in bytes

-- this many numbers of two bytes, the higher one first
unfoldable pub numbers_from : ℕ → List ℕ → List ℕ
numbers_from zero bytes = []
numbers_from (suc n) bytes = from_be_bytes w16 (take 2 bytes) ∷ numbers_from n (drop 2 bytes)
