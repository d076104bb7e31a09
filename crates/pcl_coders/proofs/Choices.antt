-- The best element of each method.
use Rattle.std.proofs.Common.{◌≡◌, ℕ, ◌+◌, ◌-◌, ◌*◌, ◌<◌, ◌≤◌, min, List, ◌++◌, length, take, drop, replicate, refl, sym, ap, ◌∙◌, inl, inr, arith, flat_map}
use Rattle.pcl_coders.proofs.Names.{slice_index, take_at, drop_at, drop-drop, take-append-drop, length-append, length-drop, length-take, length-take-le, length-replicate, get_or-drop, once_each, run_part, first_byte, Method, Plain, Runs, Packed, Delta, head_bytes, offset_of, Element, IsElement, given, stop, Agrees, element_cost, IsLeastLen, replacement, replacement_bytes, Shape, SingleByte, Run, LiteralRun, RepeatRun, Replace, element_of, shape_stop, IsShapeWithin, IsShapeChoice}
use Rattle.pcl_coders.proofs.Prefixes.{IsRunLen, IsSameLen}
use Rattle.pcl_coders.proofs.RowWalks.{stop_within}
use Rattle.pcl_coders.proofs.Shapes.{given_copies, IsRepeat, plain_shape, runs_shape, packed_shape, delta_shape, replacement_is}

-- ---- elements that agree with the wanted bytes

-- what is left, and then what is given
pub agrees_by : (old : List ℕ) {wanted : List ℕ} (e : Element) (k : ℕ) → take (offset_of e.head) wanted ≡ take (offset_of e.head) old
    → given e ≡ take k (drop (offset_of e.head) wanted) → offset_of e.head + k ≤ length wanted
    → Agrees old wanted e × (stop e ≡ offset_of e.head + k)
agrees_by old {wanted} e k left gives fits =
    let offset : ℕ = offset_of e.head in
    let size : length (given e) ≡ k = omega (arith, ap length gives, length-take k (drop offset wanted), length-drop offset wanted) in
    (cc (take-append-drop offset wanted, take-append-drop k (drop offset wanted), drop-drop k offset wanted), omega (arith, size))

-- what an element that agrees leaves and gives
pub agrees_gives : {method : Method} (old : List ℕ) {wanted : List ℕ} {e : Element} → length old ≡ length wanted → IsElement method e
    → Agrees old wanted e → (stop e ≤ length wanted) × (take (offset_of e.head) wanted ≡ take (offset_of e.head) old)
    × (given e ≡ take (length (given e)) (drop (offset_of e.head) wanted))
agrees_gives {method} old {wanted} {e} size is agrees =
    let offset : ℕ = offset_of e.head in
    let within : stop e ≤ length wanted = omega (arith, stop_within method old wanted 0 e size is agrees) in
    let left : length (take offset old) ≡ offset = length-take-le offset old (omega arith) in
    let rest : List ℕ = given e ++ drop (stop e) wanted in
    let front = take_at (take offset old) rest offset left in
    let after = drop_at (take offset old) rest offset left in
    (within, cc, cc (take_at (given e) (drop (stop e) wanted) (length (given e)) refl))

-- ---- steps

-- an element of a shape that agrees, and how many bytes it has
pub record IsShapeElement (method : Method) (old wanted : List ℕ) (shape : Shape) (bytes : ℕ) : Type 0 where
  pub within : IsShapeWithin shape (length wanted)
  pub element : IsElement method (element_of shape wanted)
  pub agrees : Agrees old wanted (element_of shape wanted)
  pub stop_is : stop (element_of shape wanted) ≡ shape_stop shape
  pub bytes_are : element_cost (element_of shape wanted) ≡ bytes

-- some element that agrees, which stops at a place and has no more than this many bytes
abbrev pub HasShapeElement : Method → List ℕ → List ℕ → ℕ → ℕ → Type 0
HasShapeElement method old wanted stops most =
    (shape : Shape) × (bytes : ℕ) × IsShapeElement method old wanted shape bytes × (shape_stop shape ≡ stops) × (bytes ≤ most)

-- what no element of the method goes below
abbrev pub IsBelow : Method → List ℕ → List ℕ → List ℕ → ℕ → Type 0
IsBelow method old wanted numbers sum =
    (d : Element) → IsElement method d → Agrees old wanted d → 0 < stop d → sum ≤ element_cost d + slice_index numbers (stop d)

pub step_choice : {method : Method} {old wanted numbers : List ℕ} {shape : Shape} {bytes sum : ℕ}
    → IsShapeElement method old wanted shape bytes → 0 < shape_stop shape → sum ≡ bytes + slice_index numbers (shape_stop shape)
    → IsBelow method old wanted numbers sum → IsShapeChoice method old wanted numbers shape sum
step_choice {numbers} e some sum-is below = grind (arith, e)

-- a byte that stands for itself
pub byte_step : (old wanted : List ℕ) → 0 < length wanted → IsShapeElement Plain old wanted SingleByte 1
byte_step old wanted some =
    let size : length (take 1 wanted) ≡ 1 = length-take-le 1 wanted (omega arith) in
    let a = agrees_by old (element_of SingleByte wanted) 1 refl (once_each (take 1 wanted)) (omega arith) in
    grind arith

-- a count and a byte
pub run_step : (old : List ℕ) {wanted : List ℕ} {len : ℕ} → 1 ≤ len → len ≤ 256 → len ≤ length wanted
    → take len wanted ≡ replicate len (slice_index wanted 0) → IsShapeElement Runs old wanted (Run len) 2
run_step old {wanted} {len} some few within run =
    let size : length (take 1 wanted) ≡ 1 = length-take-le 1 wanted (omega arith) in
    let times : len - 1 + 1 ≡ len = omega arith in
    let a = agrees_by old (element_of (Run len) wanted) len refl (rw times (given_copies len (first_byte wanted (omega arith)) ∙ sym run))
    (omega arith) in
    let is : IsElement Runs (element_of (Run len) wanted) =
    record { head_is = record { method_is = refl; in_range = omega arith }; complete = size } in
    record { within = (some, few, within); element = is; agrees = a.0; stop_is = omega (arith, a.1); bytes_are = omega (arith, size) }

-- a control and a byte that it repeats
pub repeat_step : (old : List ℕ) {wanted : List ℕ} {len : ℕ} → 2 ≤ len → len ≤ 128 → len ≤ length wanted
    → take len wanted ≡ replicate len (slice_index wanted 0) → IsShapeElement Packed old wanted (RepeatRun len) 2
repeat_step old {wanted} {len} some few within run =
    let size : length (take 1 wanted) ≡ 1 = length-take-le 1 wanted (omega arith) in
    let times : 257 - (257 - len) ≡ len = omega arith in
    let a = agrees_by old (element_of (RepeatRun len) wanted) len refl
    (rw times (given_copies len (first_byte wanted (omega arith)) ∙ sym run)) (omega arith) in
    let is : IsElement Packed (element_of (RepeatRun len) wanted) =
    record { head_is = record { method_is = refl; in_range = (omega arith, omega arith) }; complete = size } in
    record { within = (some, few, within); element = is; agrees = a.0; stop_is = omega (arith, a.1); bytes_are = omega (arith, size) }

-- a control and literal bytes
pub literal_step : (old wanted : List ℕ) (len : ℕ) → 1 ≤ len → len ≤ 128 → len ≤ length wanted
    → IsShapeElement Packed old wanted (LiteralRun len) (1 + len)
literal_step old wanted len some few within =
    let size : length (take len wanted) ≡ len = length-take-le len wanted within in
    let a = agrees_by old (element_of (LiteralRun len) wanted) len refl (once_each (take len wanted)) (omega arith) in
    grind arith

-- a command byte and the bytes that replace those after its offset
pub replace_step : (old wanted : List ℕ) (offset len : ℕ) → 1 ≤ len → len ≤ 8 → offset + len ≤ length wanted
    → take offset wanted ≡ take offset old → IsShapeElement Delta old wanted (Replace offset len) (replacement_bytes offset + len)
replace_step old wanted offset len some few within same =
    let is = replacement_is some few in
    let new : List ℕ = take len (drop offset wanted) in
    let size : length new ≡ len = length-take-le len (drop offset wanted) (omega (arith, length-drop offset wanted)) in
    let once = ap (λ (k : ℕ). flat_map (λ byte. replicate k byte) new) is.copies_is ∙ once_each new in
    let a = agrees_by old (element_of (Replace offset len) wanted) len (rw is.offset_is same) (rw is.offset_is once)
    (omega (arith, is.offset_is)) in
    record {
      within = (some, few, within);
      element = record { head_is = record { method_is = is.method_is; in_range = is.in_range }; complete = size ∙ sym is.count_is };
      agrees = a.0;
      stop_is = omega (arith, a.1, is.offset_is);
      bytes_are = omega (arith, size, is.bytes_are, length-append (head_bytes (replacement offset len)) new);
    }

-- ---- what no element goes below

-- an element that repeats a byte is within the run
pub within_run : {wanted : List ℕ} {run least most : ℕ} {d : Element} → IsRunLen wanted run → offset_of d.head ≡ 0
    → (r : IsRepeat d.head d.bytes least most) → stop d ≤ length wanted → given d ≡ take (length (given d)) (drop (offset_of d.head) wanted)
    → (r.count ≤ run) × (stop d ≡ r.count)
within_run {wanted} {d} is none r fits gives =
    let size : length (given d) ≡ r.count = ap length r.given_is ∙ length-replicate r.count r.byte in
    let front : take r.count wanted ≡ replicate r.count r.byte = rw (none, size) at (sym gives) ∙ r.given_is in
    (is.longest r.count r.byte (omega arith) front, omega arith)

pub plain_below : (old : List ℕ) {wanted : List ℕ} (numbers : List ℕ) → IsBelow Plain old wanted numbers (1 + slice_index numbers 1)
plain_below old numbers d is agrees some = grind (arith, plain_shape d.head is.head_is.method_is is.complete)

pub runs_below : (old : List ℕ) {wanted : List ℕ} (numbers : List ℕ) {run sum : ℕ} → length old ≡ length wanted → IsRunLen wanted run
    → ((k : ℕ) → 1 ≤ k → k ≤ min run 256 → sum ≤ 2 + 0 * k + slice_index numbers k) → IsBelow Runs old wanted numbers sum
runs_below old {wanted} numbers size is best d element agrees some =
    let s = runs_shape d.head element.head_is.method_is element.head_is.in_range element.complete in
    let g = agrees_gives old size element agrees in
    let w = within_run is s.0 s.1 g.0 g.2 in
    grind (arith, best s.1.count)

pub packed_below : (old : List ℕ) {wanted : List ℕ} (numbers : List ℕ) {run sum : ℕ} → length old ≡ length wanted → IsRunLen wanted run
    → ((k : ℕ) → 1 ≤ k → k ≤ min (length wanted) 128 → sum ≤ 1 + 1 * k + slice_index numbers k)
    → ((k : ℕ) → 2 ≤ k → k ≤ min run 128 → sum ≤ 2 + 0 * k + slice_index numbers k) → IsBelow Packed old wanted numbers sum
packed_below old {wanted} numbers size is literal repeat d element agrees some =
    let g = agrees_gives old size element agrees in
    let s = packed_shape d.head d.bytes element.head_is.method_is element.head_is.in_range element.complete some in
    elim s.1 [
      | inl r ↦ let w = within_run is s.0 r g.0 g.2 in grind (arith, repeat r.count)
      | inr l ↦ grind (arith, literal (length (given d)))
    ]

pub delta_below : {old wanted : List ℕ} (numbers : List ℕ) {same sum : ℕ} → length old ≡ length wanted → IsSameLen old wanted same
    → ((offset k : ℕ) → offset ≤ min same (length wanted - 1) → 1 ≤ k → k ≤ min (length wanted - offset) 8
    → sum ≤ replacement_bytes offset + 1 * k + slice_index (drop offset numbers) k) → IsBelow Delta old wanted numbers sum
delta_below {old} {wanted} numbers {same} size is best d element agrees some =
    let s = delta_shape d.head element.head_is.method_is element.head_is.in_range element.complete in
    let g = agrees_gives old size element agrees in
    grind (arith, is.longest (offset_of d.head), best (offset_of d.head) (length (given d)), get_or-drop (offset_of d.head) numbers)

-- ---- the choices

pub plain_choice : {old wanted numbers : List ℕ} → 0 < length wanted
    → IsShapeChoice Plain old wanted numbers SingleByte (1 + slice_index numbers 1)
plain_choice {old} {wanted} {numbers} some = step_choice (byte_step old wanted some) (omega arith) refl (plain_below old numbers)

pub runs_choice : {old wanted numbers : List ℕ} {run len sum : ℕ} → length old ≡ length wanted → IsRunLen wanted run
    → IsLeastLen numbers 1 (min run 256) 2 0 len sum → IsShapeChoice Runs old wanted numbers (Run len) sum
runs_choice {old} {wanted} {numbers} {run} {len} size is best =
    step_choice (run_step old best.above (omega (arith, best.below)) (omega (arith, best.below, is.within))
    (run_part wanted (slice_index wanted 0) (omega (arith, best.below)) is.equal))
    (omega (arith, best.above)) (omega (arith, best.sum_is)) (runs_below old numbers size is best.least)
