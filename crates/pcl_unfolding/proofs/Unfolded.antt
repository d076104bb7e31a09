-- Performing and unfolding say the same.
use Rattle.std.proofs.Common.{◌≡◌, ◌++◌, append_assoc, length-append, ℕ, ◌+◌, ◌-◌, zero, suc, Bool, true, false, List, [], ◌∷◌, length, Option, Some, None, Result, Ok, Err, refl, sym, ap, subst, ◌∙◌, if◌then◌else◌, arith, ◌&&◌}
use Rattle.pcl_unfolding.proofs.Names.{end_of, option_map, Dpi, Profile, Kind, Operation, ControlMacros, Refusal, Value, macro_limit, operation_of, Settings, kept, Said, MacroBody, Action, Call, Keeping, Ends, Situation, Run, run_with, run_by, run_from, macro_ended, keeping_of, after_counted, defining, after_command, Performance, done, then_on, in_order, led_to, and_run, step, runs, after_end, Item, performed, enter, situations, now, ago, or_as_before, Unfolding, unrefused, unfold_unless, in_turn, keeps, control_in, body_run, body_said, Bodies, with_body, with_command, add, ended_by, unfolded, performed_by, PerformingIsUnfolding}
use Rattle.pcl_page.specs.Performing.{unless as unless_performed}

-- ---- lists that go on

-- one list has the other after some items more
abbrev pub GoesOn : List Item → List Item → Type 0
GoesOn old new = (more : List Item) × (new ≡ more ++ old)

goes_on_more : {old mid new : List Item} → GoesOn old mid → GoesOn mid new → GoesOn old new
goes_on_more {old} a b = (b.0 ++ a.0, b.1 ∙ ap (λ (items : List Item). b.0 ++ items) a.1 ∙ sym (append_assoc b.0 a.0 old))

one_more : {old items : List Item} (item : Item) → GoesOn old items → GoesOn old (item ∷ items)
one_more item a = (item ∷ a.0, ap (λ (items : List Item). item ∷ items) a.1)

-- ---- looking back

pub looked_back : (profile : Profile) (dpi : Dpi) (more old : List Item)
    → ago profile (length (more ++ old) - length old) (situations profile dpi (more ++ old)) ≡ now profile dpi old
looked_back profile dpi [] old = let none : length old - length old ≡ 0 = omega arith in rw none refl
looked_back profile dpi (item ∷ more) old =
    let next : length (item ∷ (more ++ old)) - length old ≡ suc (length (more ++ old) - length old) =
    omega (arith, length-append more old) in rw next (looked_back profile dpi more old)

-- ---- one after the other

-- performing says what the unfolding does, which only adds items to the list
abbrev IsUnfoldedAs : Profile → Dpi → List Item → Performance → Unfolding → Type 0
IsUnfoldedAs profile dpi items performance u = (performance ≡ performed_by profile dpi u) × GoesOn items u.items

unfolded_on : (profile : Profile) (dpi : Dpi) {old : List Item} (why : Option Refusal) (items : List Item) (next : Situation → Performance)
    (add_next : List Item → Unfolding) → GoesOn old items → IsUnfoldedAs profile dpi items (next (now profile dpi items)) (add_next items)
    → IsUnfoldedAs profile dpi old (unless_performed why (now profile dpi items) next) (unfold_unless why items add_next)
unfolded_on profile dpi None items next add_next goes each = (each.0, goes_on_more goes each.1)
unfolded_on profile dpi (Some why) items next add_next goes each = (refl, goes)

turn_unfolded : (profile : Profile) (dpi : Dpi) (perform : ℕ → Said → Situation → Performance) (add_one : ℕ → Said → List Item → Unfolding)
    → ((place : ℕ) (command : Said) (items : List Item)
    → IsUnfoldedAs profile dpi items (perform place command (now profile dpi items)) (add_one place command items))
    → (place : ℕ) (commands : List Said) (items : List Item)
    → IsUnfoldedAs profile dpi items (in_order perform place commands (now profile dpi items)) (in_turn add_one place commands items)
turn_unfolded profile dpi perform add_one each place [] items = (refl, ([], refl))
turn_unfolded profile dpi perform add_one each place (command ∷ commands) items =
    let first = add_one place command items in
    let one = each place command items in
    let rest = unfolded_on profile dpi first.refusal first.items (in_order perform (place + 1) commands)
    (in_turn add_one (place + 1) commands) one.1
    (turn_unfolded profile dpi perform add_one each (place + 1) commands first.items) in
    (ap (λ (p : Performance). then_on p (in_order perform (place + 1) commands)) one.0 ∙ rest.0, rest.1)

-- ---- the macro that a command runs

-- what a call puts back at its end
abbrev pub saved_by : Option Action → Situation → Option Settings
saved_by (Some Call) s = Some (kept s.settings)
saved_by other s = None

abbrev run_with_body : Option Action → Situation → Option Run
run_with_body control s = option_map (run_with (saved_by control s)) (body_run control s)

run_is_by : (control : Option Action) (s : Situation) → run_by control s ≡ run_with_body control s
run_is_by control s = grind arith

-- ---- one command

-- running a body and unfolding it say the same
abbrev pub AreUnfolded : Profile → Dpi → (Said → Run → Situation → Performance) → Bodies → Type 0
AreUnfolded profile dpi run bodies = (command : Said) (control : Option Action) (body : MacroBody) (items : List Item)
    → IsUnfoldedAs profile dpi items (run command (run_with (saved_by control (now profile dpi items)) body) (now profile dpi items))
    (bodies command control body items)

from_unfolded : (operation : Option Operation) (value : Value) (s : Situation)
    → run_from operation value s ≡ run_with_body (control_in operation value) s
from_unfolded (Some ControlMacros) value s = run_is_by (control_in (Some ControlMacros) value) s
from_unfolded other value s = refl

-- the same macro is run
later_unfolded : (run : Said → Run → Situation → Performance) (command : Said) {one other : Situation → Option Run}
    → ((later : Situation) → one later ≡ other later) → (s : Situation) (led : Result Situation Kind)
    → then_on (led_to command s led) (λ (later : Situation). and_run (run command) (one later) later)
    ≡ then_on (led_to command s led) (λ (later : Situation). and_run (run command) (other later) later)
later_unfolded run command same s led = grind (arith, same)

module _ (profile : Profile) (dpi : Dpi) (run : Said → Run → Situation → Performance) (bodies : Bodies)
    (each : AreUnfolded profile dpi run bodies) where
  body_unfolded : (command : Said) (control : Option Action) (body : Option MacroBody) (items : List Item)
      → IsUnfoldedAs profile dpi items
      (and_run (run command) (option_map (run_with (saved_by control (now profile dpi items))) body) (now profile dpi items))
      (with_body bodies command control body items)
  body_unfolded command control None items = (refl, ([], refl))
  body_unfolded command control (Some body) items = each command control body items

  -- a command by what it leads to
  led_unfolded : (place : ℕ) (command : Said) (control : Option Action) (items : List Item) (led : Result Situation Kind)
      → after_command dpi place command (now profile dpi items) ≡ led → IsUnfoldedAs profile dpi items
      (then_on (led_to command (now profile dpi items) led)
      (λ (later : Situation). and_run (run command) (run_with_body control later) later))
      (with_command bodies place command control led items)
  led_unfolded place command control items (Err kind) e = (refl, ([], refl))
  led_unfolded place command control items (Ok later) e =
      let here : now profile dpi (performed place command ∷ items) ≡ later = ap (or_as_before (now profile dpi items)) e in
      let each = body_unfolded command control (body_run control later) (performed place command ∷ items) in
      (rw (← here) (rw (← here) at each.0), goes_on_more (one_more (performed place command) ([], refl)) each.1)

  -- in a definition or outside
  step_by : (place : ℕ) (command : Said) (items : List Item) (begun : Bool) (keeping : Keeping)
      → after_command dpi place command (now profile dpi items)
      ≡ (if begun then defining dpi place keeping command (now profile dpi items)
      else after_counted dpi place command (now profile dpi items))
      → IsUnfoldedAs profile dpi items (then_on (led_to command (now profile dpi items)
      (if begun then defining dpi place keeping command (now profile dpi items)
      else after_counted dpi place command (now profile dpi items)))
      (λ (later : Situation).
      and_run (run command) (if begun then None else run_from (operation_of command.name) command.value later) later))
      (if begun && keeps keeping then unrefused items else with_command bodies place command
      (if begun then None else control_in (operation_of command.name) command.value)
      (if begun then defining dpi place keeping command (now profile dpi items)
      else after_counted dpi place command (now profile dpi items)) items)
  step_by place command items true Ends e = led_unfolded place command None items _ e
  step_by place command items true other e = (refl, ([], refl))
  step_by place command items false keeping e =
      let led = led_unfolded place command (control_in (operation_of command.name) command.value) items _ e in (
        later_unfolded run command (λ later. from_unfolded (operation_of command.name) command.value later) (now profile dpi items) _
            ∙ led.0,
        led.1,
      )

  step_unfolded : (place : ℕ) (command : Said) (items : List Item)
      → IsUnfoldedAs profile dpi items (step dpi run place command (now profile dpi items)) (add profile dpi bodies place command items)
  step_unfolded place command items = step_by place command items _ (keeping_of (operation_of command.name) command.value) refl

-- ---- macros

-- the end of a macro finds the situation at its start
end_unfolded : (profile : Profile) (dpi : Dpi) (control : Option Action) (items inner : List Item) → GoesOn (enter ∷ items) inner
    → done (macro_ended dpi (saved_by control (now profile dpi items)) (now profile dpi inner))
    ≡ performed_by profile dpi (ended_by control (enter ∷ items) inner)
end_unfolded profile dpi (Some Call) items inner goes =
    let begun = enter ∷ items in
    let back : ago profile (length inner - length begun) (situations profile dpi inner) ≡ now profile dpi items =
    subst (λ (list : List Item). ago profile (length list - length begun) (situations profile dpi list) ≡ now profile dpi items)
    (sym goes.1)
    (looked_back profile dpi goes.0 begun) in
    rw back refl
end_unfolded profile dpi other items inner goes = refl

runs_unfolded : (levels : ℕ) (profile : Profile) (dpi : Dpi) (all : List Said)
    → AreUnfolded profile dpi (runs levels dpi all) (unfolded levels profile dpi all)
runs_unfolded zero profile dpi all command control body items = (refl, ([], refl))
runs_unfolded (suc levels) profile dpi all command control body items =
    let begun = enter ∷ items in
    let ends = λ (later : Situation). done (macro_ended dpi (saved_by control (now profile dpi items)) later) in
    let inner = in_turn (add profile dpi (unfolded levels profile dpi all)) body.from (body_said all body) begun in
    let turn = turn_unfolded profile dpi (step dpi (runs levels dpi all)) (add profile dpi (unfolded levels profile dpi all))
    (step_unfolded profile dpi _ (unfolded levels profile dpi all) (runs_unfolded levels profile dpi all)) body.from
    (body_said all body) begun in
    let end = unfolded_on profile dpi inner.refusal inner.items ends (ended_by control begun) turn.1
    (end_unfolded profile dpi control items inner.items turn.1, one_more (end_of control (length inner.items - length begun)) ([], refl)) in
    (ap (λ (p : Performance). then_on p ends) turn.0 ∙ end.0, goes_on_more (one_more enter ([], refl)) end.1)

-- ---- a job

pub performing_unfolded : PerformingIsUnfolding
performing_unfolded profile dpi end commands =
    ap (λ (p : Performance). then_on p (after_end dpi end))
    (turn_unfolded profile dpi (step dpi (runs macro_limit dpi commands)) (add profile dpi (unfolded macro_limit profile dpi commands))
    (step_unfolded profile dpi _ (unfolded macro_limit profile dpi commands) (runs_unfolded macro_limit profile dpi commands)) 0 commands
    []).0
