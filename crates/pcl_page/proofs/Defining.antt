-- The command that ends a definition counts, and runs no macro.
use Rattle.std.proofs.Common.{◌≡◌, ℕ, Bool, true, cond, [], Option, Some, None, Result, Ok, refl, sym, ap, ◌∙◌, append-nil, arith}
use Rattle.pcl_page.proofs.Interpreted.{runs_none}
use Rattle.pcl_page.proofs.Names.{is_some, Dpi, CallFault, Operation, ControlMacros, Value, operation_of, Said, is_begun, Page, Interpreter, Action, End, Keeping, Kept, Ends, Situation, action_of, control_keeping, keeping_of, after_counted, defining, after_command, run_by, run_from, run_of, IsAt, IsStepped}

command_inside : (dpi : Dpi) (place : ℕ) (command : Said) (s : Situation) {keeping : Keeping} → is_some s.begun ≡ true
    → keeping_of (operation_of command.name) command.value ≡ keeping
    → after_command dpi place command s ≡ defining dpi place keeping command s
command_inside dpi place command s e k = rw (e, k) refl

run_inside : (command : Said) (s : Situation) → is_some s.begun ≡ true → run_of command s ≡ runs_none
run_inside command s e = ap (λ (b : Bool). λ (later : Situation). cond b None (run_from (operation_of command.name) command.value later)) e

-- what ends a definition is its end
control_ends : (action : Option Action) → control_keeping action ≡ Ends → action ≡ Some End
control_ends action e = grind arith

pub ends_is : (operation : Option Operation) (value : Value) → keeping_of operation value ≡ Ends
    → (operation ≡ Some ControlMacros) × (action_of value ≡ Some End)
ends_is (Some ControlMacros) value e = (refl, control_ends (action_of value) e)
ends_is other value e = absurd cc

-- a command that is kept changes nothing, and runs no macro
pub stepped_kept : {S : Type 0} (takes : S → Page → S → Type 0) (dpi : Dpi) (place : ℕ) (command : Said) (s : Situation)
    (old : Interpreter) (sink : S) → IsAt dpi s old → is_begun old.macros ≡ true
    → keeping_of (operation_of command.name) command.value ≡ Kept
    → IsStepped takes dpi (after_command dpi place command s) (run_of command s) s (Ok tt) old old sink sink
stepped_kept takes dpi place command s old sink at some kept =
    let begun : is_some s.begun ≡ true = cc in
    rw (begun, kept) (s, refl, at, (sym (append-nil old.running.items), tt), ([], sym (append-nil s.pages), refl))

pub stepped_ending : {S : Type 0} (takes : S → Page → S → Type 0) (dpi : Dpi) (place : ℕ) (command : Said) (s : Situation)
    (result : Result (Unit {0}) CallFault) (old new : Interpreter) (sink later : S) → IsAt dpi s old → is_begun old.macros ≡ true
    → keeping_of (operation_of command.name) command.value ≡ Ends
    → IsStepped takes dpi (after_counted dpi place command s) (run_from (operation_of command.name) command.value)
    s result old new sink later
    → IsStepped takes dpi (after_command dpi place command s) (run_of command s) s result old new sink later
stepped_ending takes dpi place command s result old new sink later at some ends step =
    let begun : is_some s.begun ≡ true = cc in
    let is = ends_is (operation_of command.name) command.value ends in
    let runs : run_from (operation_of command.name) command.value ≡ runs_none =
    ap (λ (o : Option Operation). λ (t : Situation). run_from o command.value t) is.0
    ∙ ap (λ (a : Option Action). λ (t : Situation). run_by a t) is.1 in
    let same : run_of command s ≡ run_from (operation_of command.name) command.value = run_inside command s begun ∙ sym runs in
    rw (command_inside dpi place command s begun ends, same) step
