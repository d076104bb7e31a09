-- How far deeds bring a situation.
use Rattle.std.proofs.Common.{◌≡◌, ℕ, ◌+◌, ◌≤◌, ◌<◌, false, cond, List, [], ◌∷◌, ◌++◌, length, Some, None, Result, Ok, Err, refl, ap, ◌∙◌, arith}
use Rattle.pcl_meaning.proofs.Names.{is_some, Dpi, Kind, UnsupportedCommand, Empty, Operation, Reset, ControlMacros, ControlFonts, Value, command_limit, Said, outcome, Run, after_macros, after_command, run_from, run_of, Performance, done, in_order, step, then_from, after_adds, after_checked, checked_as, drawn_on}
use Rattle.pcl_base.specs.declared.operation.Asking.TheVariants.{SheetSide}
use Rattle.pcl_base.specs.declared.operation.Operation.TheVariants.{Ask}
use Rattle.pcl_page.specs.Situation.{Situation, is_marked, drawn, draw_refusal, ◌|>◌, turned_by, counted, prepared, is_ignored, after, page_refusal, within_page_limit}
use Rattle.pcl_meaning.proofs.Deeds.{Deed}
use Rattle.pcl_meaning.proofs.Readings.{IsSaid, AreSaid}

-- ---- a command by what it does

-- the deed as a command
abbrev pub said_of : Deed → Said
said_of d = record { at = 0; name = Empty; value = d.value; bytes = d.bytes }

-- a command without its place and its name
abbrev nameless : Said → Said
nameless command = record { at = 0; name = Empty; value = command.value; bytes = command.bytes }

-- neither of them matters to what it does
module _ (command : Said) (s : Situation) where
  drawn_same : (dpi : Dpi) (operation : Operation) → drawn dpi operation command s ≡ drawn dpi operation (nameless command) s
  drawn_same dpi (Ask SheetSide) = refl
  drawn_same dpi (Ask other) = refl
  drawn_same dpi Reset = refl
  drawn_same dpi other = refl

  refusal_same : (dpi : Dpi) (operation : Operation)
      → draw_refusal dpi operation command s ≡ draw_refusal dpi operation (nameless command) s
  refusal_same dpi ControlFonts = refl
  refusal_same dpi other = refl

after_same : (dpi : Dpi) (operation : Operation) (command : Said) (s : Situation)
    → after dpi (Some operation) command s ≡ after dpi (Some operation) (nameless command) s
unfolding after
after_same dpi operation command s =
    let before = prepared dpi operation s in
    ap (λ (o : Result Situation Kind). cond (is_ignored operation s) (Ok s) o)
    (drawn_alike (turned_by (outcome dpi operation command.value (is_marked before) before.settings) before))
  where
    drawn_alike : (o : Result Situation Kind) → (o |> drawn_on dpi operation command) ≡ (o |> drawn_on dpi operation (nameless command))
    drawn_alike (Err kind) = refl
    drawn_alike (Ok now) = rw (refusal_same command now dpi operation, drawn_same command now dpi operation) refl

-- ---- deeds one after the other

-- what an operation does to macros, wherever its command stands; a macro control is no deed
abbrev pub quietly : Operation → Value → Situation → Result Situation Kind
quietly ControlMacros value s = Err UnsupportedCommand
quietly operation value s = after_macros 0 (Some operation) value s

abbrev pub does : Dpi → Deed → Situation → Result Situation Kind
does dpi d s = after dpi (Some d.operation) (said_of d) (counted s) |> quietly d.operation d.value

-- the deeds lead from a situation to another, and none of them is refused
pub data AreLeading (dpi : Dpi) : List Deed → Situation → Situation → Type 0 where
  stay : {s : Situation} → AreLeading dpi [] s s
  lead : {d : Deed} {deeds : List Deed} {s next later : Situation} → does dpi d s ≡ Ok next → page_refusal next ≡ None
      → AreLeading dpi deeds next later → AreLeading dpi (d ∷ deeds) s later

pub leading_append : {dpi : Dpi} {one two : List Deed} {s middle later : Situation} → AreLeading dpi one s middle
    → AreLeading dpi two middle later → AreLeading dpi (one ++ two) s later
leading_append stay b = b
leading_append (lead e fits a) b = lead e fits (leading_append a b)

-- what a deed does to macros: nothing that can run, and it opens no definition
record IsQuiet (operation : Operation) (value : Value) (s next : Situation) : Type 0 where
  anywhere : (place : ℕ) → after_macros place (Some operation) value s ≡ Ok next
  runs : run_from (Some operation) value next ≡ None
  begun : next.begun ≡ s.begun
  performed : next.performed ≡ s.performed
  pages : next.pages ≡ s.pages

quiet : (operation : Operation) {value : Value} {s next : Situation} → quietly operation value s ≡ Ok next → IsQuiet operation value s next
quiet ControlMacros e = absurd cc
quiet other e = record { anywhere = λ place. e; runs = refl; begun = cc; performed = cc; pages = cc }

-- each deed counts one, and leaves a definition that is open
record IsDone (dpi : Dpi) (d : Deed) (s next : Situation) : Type 0 where
  now : Situation
  drawn_as : after dpi (Some d.operation) (said_of d) (counted s) ≡ Ok now
  is_quiet : IsQuiet d.operation d.value now next
  performed : next.performed ≡ s.performed + 1
  begun : next.begun ≡ s.begun

is_done : {dpi : Dpi} {d : Deed} {s next : Situation} → does dpi d s ≡ Ok next → IsDone dpi d s next
is_done {dpi} {d} {s} e =
    let t = then_from (after dpi (Some d.operation) (said_of d) (counted s)) (quietly d.operation d.value) e in
    let is = quiet d.operation t.2 in
    let a = after_adds dpi d.operation (said_of d) (counted s) t.1 in
    record { now = t.0; drawn_as = t.1; is_quiet = is; performed = is.performed ∙ a.performed; begun = is.begun ∙ a.begun }

-- ---- commands that are deeds

-- performing a command is its deed
deed_done : (dpi : Dpi) (command : Said) {d : Deed} (s : Situation) {next : Situation} → IsSaid command d
    → after dpi (Some d.operation) (said_of d) s ≡ Ok next → after dpi (Some d.operation) command s ≡ Ok next
deed_done dpi command {d} s is e = after_same dpi d.operation command s ∙ rw (is.1, is.2) e

-- pages that fit, and are the same, fit too
fits_too : (now next : Situation) → next.pages ≡ now.pages → page_refusal next ≡ None → within_page_limit now ≡ Ok now
fits_too now next e fits = let same : page_refusal now ≡ None = rw (← e) fits in rw same refl

-- outside of a definition a deed's command leads where the deed does, and runs no macro
command_done : {dpi : Dpi} (place : ℕ) (command : Said) {d : Deed} {s next : Situation} → IsSaid command d → IsDone dpi d s next
    → page_refusal next ≡ None → s.performed < command_limit → s.begun ≡ None
    → (after_command dpi place command s ≡ Ok next) × (run_of command s next ≡ None)
command_done {dpi} place command {d} {s} {next} is done fits few none =
    let closed : is_some s.begun ≡ false = rw none refl in
    let checked_is : after_checked dpi command s ≡ Ok done.now =
    checked_as dpi command s few is.0
    ∙ rw (deed_done dpi command (counted s) is done.drawn_as) (fits_too done.now next done.is_quiet.pages fits) in
    (rw (closed, checked_is, is.0, is.1) (done.is_quiet.anywhere place), rw (closed, is.0, is.1) done.is_quiet.runs)

-- performing commands that are deeds leads where the deeds do
pub commands_done : (dpi : Dpi) (f : Said → Run → Situation → Performance) (place : ℕ) (commands : List Said) (deeds : List Deed)
    (s : Situation) {later : Situation} → AreSaid commands deeds → AreLeading dpi deeds s later → s.performed + length deeds ≤ command_limit
    → s.begun ≡ None → (in_order (step dpi f) place commands s ≡ done later) × (later.begun ≡ None)
commands_done dpi f place [] [] s a stay few none = (refl, none)
commands_done dpi f place (command ∷ commands) (d ∷ deeds) s a (lead e fits rest) few none =
    let one = is_done e in
    let is = command_done place command a.0 one fits (omega arith) none in
    let more = commands_done dpi f (place + 1) commands deeds _ a.1 rest (omega (arith, one.performed)) (one.begun ∙ none) in
    (rw (is.0, is.1) more.0, more.1)
commands_done dpi f place commands deeds s a l few none = absurd a
