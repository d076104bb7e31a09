-- How the elements of row data begin, method by method (docs/LANGUAGE.md, "Row data").
use Rattle.std.specs.Prelude.{ℕ, ◌+◌, ◌-◌, ◌*◌, ◌<◌, List, [], ◌∷◌, ◌++◌, replicate}
use Rattle.pcl_base.specs.declared.method.Method.{Method}
use Rattle.pcl_base.specs.declared.method.Method.TheVariants.{Plain, Runs, Packed, Delta}

-- what stands before the new bytes of an element
pub data Head : Type 0 where
  Itself : Head  -- a byte that stands for itself has none
  Count : (count : ℕ) → Head  -- a count, before one byte
  Literal : (control : ℕ) → Head  -- a control, before literal bytes
  Skipped : Head  -- the control that gives nothing
  Repeat : (control : ℕ) → Head  -- a control, before one byte that is repeated
  Near : (more offset : ℕ) → Head  -- a command byte with its whole offset
  Far : (more full last : ℕ) → Head  -- a command byte with offset 31, `full` bytes 255, and a last byte

-- the method that has such elements
abbrev pub method_of : Head → Method
method_of Itself = Plain
method_of (Count count) = Runs
method_of (Literal control) = Packed
method_of Skipped = Packed
method_of (Repeat control) = Packed
method_of (Near more offset) = Delta
method_of (Far more full last) = Delta

-- which numbers stand in it
abbrev pub IsInRange : Head → Type 0
IsInRange Itself = Unit {0}
IsInRange (Count count) = count < 256
IsInRange (Literal control) = control < 128
IsInRange Skipped = Unit {0}
IsInRange (Repeat control) = (128 < control) × (control < 256)
IsInRange (Near more offset) = (more < 8) × (offset < 31)
IsInRange (Far more full last) = (more < 8) × (last < 255)

-- its bytes: a command byte has one less than the number of new bytes in its upper three bits and the
-- offset in its lower five
abbrev pub head_bytes : Head → List ℕ
head_bytes Itself = []
head_bytes (Count count) = count ∷ []
head_bytes (Literal control) = control ∷ []
head_bytes Skipped = 128 ∷ []
head_bytes (Repeat control) = control ∷ []
head_bytes (Near more offset) = (32 * more + offset) ∷ []
head_bytes (Far more full last) = (32 * more + 31) ∷ (replicate full 255 ++ last ∷ [])

-- how many new bytes stand after it
abbrev pub new_count : Head → ℕ
new_count Itself = 1
new_count (Count count) = 1
new_count (Literal control) = control + 1
new_count Skipped = 0
new_count (Repeat control) = 1
new_count (Near more offset) = more + 1
new_count (Far more full last) = more + 1

-- how often each new byte is given
abbrev pub copies_of : Head → ℕ
copies_of Itself = 1
copies_of (Count count) = count + 1
copies_of (Literal control) = 1
copies_of Skipped = 1
copies_of (Repeat control) = 257 - control
copies_of (Near more offset) = 1
copies_of (Far more full last) = 1

-- how many bytes of the row are left as they are before the given ones
abbrev pub offset_of : Head → ℕ
offset_of Itself = 0
offset_of (Count count) = 0
offset_of (Literal control) = 0
offset_of Skipped = 0
offset_of (Repeat control) = 0
offset_of (Near more offset) = offset
offset_of (Far more full last) = 31 + 255 * full + last
