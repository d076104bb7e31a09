-- The shapes of the elements that a coder tries.
use Rattle.std.specs.Prelude.{◌≡◌, ℕ, ◌+◌, ◌-◌, ◌≤◌, min, List, length, take, drop}
use Rattle.pcl_base.specs.declared.method.Method.{Method}
use Rattle.pcl_rows.specs.Heads.{Itself, Count, Literal, Repeat}
use Rattle.pcl_rows.specs.Elements.{Element, stop}
use Rattle.pcl_coders.specs.inner.Replacement.{replacement, replacement_bytes}
use Rattle.pcl_coders.specs.inner.Choosing.{IsChoice, IsLeastLen}
use Rattle.pcl_coders.specs.declared.shape.Shape.{Shape}
use Rattle.pcl_coders.specs.declared.shape.Shape.TheVariants.{SingleByte, Run, LiteralRun, RepeatRun, Replace}

-- the element of a shape, with its new bytes from the wanted ones
abbrev pub element_of : Shape → List ℕ → Element
element_of SingleByte wanted = record { head = Itself; bytes = take 1 wanted }
element_of (Run len) wanted = record { head = Count (len - 1); bytes = take 1 wanted }
element_of (LiteralRun len) wanted = record { head = Literal (len - 1); bytes = take len wanted }
element_of (RepeatRun len) wanted = record { head = Repeat (257 - len); bytes = take 1 wanted }
element_of (Replace offset len) wanted = record { head = replacement offset len; bytes = take len (drop offset wanted) }

-- how far it goes
abbrev pub shape_stop : Shape → ℕ
shape_stop SingleByte = 1
shape_stop (Run len) = len
shape_stop (LiteralRun len) = len
shape_stop (RepeatRun len) = len
shape_stop (Replace offset len) = offset + len

-- the numbers for which that is an element of the row's bytes
abbrev pub IsShapeWithin : Shape → ℕ → Type 0
IsShapeWithin SingleByte room = 1 ≤ room
IsShapeWithin (Run len) room = (1 ≤ len) × (len ≤ 256) × (len ≤ room)
IsShapeWithin (LiteralRun len) room = (1 ≤ len) × (len ≤ 128) × (len ≤ room)
IsShapeWithin (RepeatRun len) room = (2 ≤ len) × (len ≤ 128) × (len ≤ room)
IsShapeWithin (Replace offset len) room = (1 ≤ len) × (len ≤ 8) × (offset + len ≤ room)

-- a shape that begins least data for the wanted bytes
pub record IsShapeChoice (method : Method) (old wanted numbers : List ℕ) (shape : Shape) (sum : ℕ) : Type 0 where
  pub within : IsShapeWithin shape (length wanted)
  pub stop_is : stop (element_of shape wanted) ≡ shape_stop shape
  pub choice : IsChoice method old wanted numbers (element_of shape wanted) sum

-- the best replacement after an offset
pub record IsReplacement (offset row_bytes : ℕ) (numbers : List ℕ) (shape : Shape) (sum : ℕ) : Type 0 where
  pub len : ℕ
  pub step_is : shape ≡ Replace offset len
  pub best : IsLeastLen (drop offset numbers) 1 (min (row_bytes - offset) 8) (replacement_bytes offset) 1 len sum
