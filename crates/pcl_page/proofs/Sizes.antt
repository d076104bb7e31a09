-- A command that lets the page stay keeps its size.
use Rattle.pcl_page.proofs.Names.{length, Dpi, Method, PaperSource, Axis, Operation, Ask, Size, Value, Stay, Eject, EjectMarked, Position, Settings, Outcome, stays, move_along, popped, set_size, set_rectangle, set_method}
use Rattle.std.proofs.Common.{◌≡◌, ℕ, Bool, true, false, cond, List, Option, Some, None, refl, subst, rules, arith}
use Rattle.pcl_base.specs.declared.operation.Unit.{Unit as Measure}
use Rattle.pcl_env.specs.Outcome.{outcome}

-- where the page stays, the size does
abbrev Keeps : Settings → Outcome → Type 0
Keeps s None = Unit {0}
Keeps s (Some done) = done.1 ≡ Stay → done.0.size ≡ s.size

record KeepsSize (s : Settings) (o : Outcome) : Type 0 where
  same : Keeps s o

if_keeps : (test : Bool) {s : Settings} {one other : Outcome} → KeepsSize s one → KeepsSize s other → KeepsSize s (cond test one other)
if_keeps true p q = p
if_keeps false p q = q

none_keeps : {s : Settings} → KeepsSize s None
none_keeps = record { same = tt }

eject_keeps : {s t : Settings} → KeepsSize s (Some (t, Eject))
eject_keeps = record { same = λ stay. absurd cc }

marked_keeps : {s t : Settings} → KeepsSize s (Some (t, EjectMarked))
marked_keeps = record { same = λ stay. absurd cc }

stay_keeps : (s t : Settings) → t.size ≡ s.size → KeepsSize s (stays t)
stay_keeps s t e = record { same = λ stay. e }

if_size : (test : Bool) {size : Size} (one other : Settings) → one.size ≡ size → other.size ≡ size → (cond test one other).size ≡ size
if_size test one other p q = grind arith

axis_size : (axis : Axis) (unit : Measure) (value : Value) (s : Settings) → (move_along axis unit value s).size ≡ s.size
axis_size axis unit value s = grind arith

rectangle_size : (axis : Axis) (length : ℕ) (s : Settings) → (set_rectangle axis length s).size ≡ s.size
rectangle_size axis length s = grind arith

pop_size : (stack : List Position) (s : Settings) → (popped stack s).size ≡ s.size
pop_size stack s = grind arith

size_keeps : (size : Option Size) {s : Settings} → KeepsSize s (set_size size s)
size_keeps None = none_keeps
size_keeps (Some size) = marked_keeps

method_keeps : (method : Option Method) {s : Settings} → KeepsSize s (set_method method s)
method_keeps None = none_keeps
method_keeps (Some method) {s} = stay_keeps s (record s { method = method }) refl

ruleset keeping = (if_keeps, none_keeps, marked_keeps, eject_keeps, stay_keeps, if_size)

keeps : (dpi : Dpi) (operation : Operation) (value : Value) (marked : Bool) (s : Settings)
    → KeepsSize s (outcome dpi operation value marked s)
unfolding outcome
keeps dpi (Ask PaperSource) v m s = marked_keeps
keeps dpi other v m s = search (keeping, axis_size, rectangle_size, pop_size, size_keeps, method_keeps, rules) depth 8

pub size_kept : (dpi : Dpi) (operation : Operation) (value : Value) (marked : Bool) (s : Settings) {settings : Settings}
    → outcome dpi operation value marked s ≡ Some (settings, Stay) → settings.size ≡ s.size
size_kept dpi operation value marked s o = (subst (KeepsSize s) o (keeps dpi operation value marked s)).same refl
