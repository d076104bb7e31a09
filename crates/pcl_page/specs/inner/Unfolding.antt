-- The interpreter, the situation that it is in, and what it has still to perform.
use Rattle.std.specs.Prelude.{◌≡◌, ℕ, zero, suc, ◌+◌, ◌-◌, ◌*◌, ◌<◌, List, [], ◌∷◌, ◌++◌, length, ◌⊎◌, Option, Some, None, Result, Ok, Err}
use Rattle.pcl_base.specs.declared.dpi.Dpi.{Dpi}
use Rattle.pcl_base.specs.declared.fault.JobFault.{JobFault}
use Rattle.pcl_base.specs.declared.fault.JobFault.TheVariants as job
use Rattle.pcl_base.specs.declared.fault.CallFault.{CallFault}
use Rattle.pcl_base.specs.declared.fault.CallFault.TheVariants.{Refused, Memory}
use Rattle.pcl_base.specs.declared.kind.Kind.{Kind}
use Rattle.pcl_base.specs.declared.kind.Kind.TheVariants.{MacroDepth}
use Rattle.pcl_base.specs.declared.name.Name.TheVariants.{Empty}
use Rattle.pcl_base.specs.Limits.{command_limit, macro_limit}
use Rattle.pcl_base.specs.Refusal.{refusal}
use Rattle.pcl_escape.specs.Said.{Said}
use Rattle.pcl_macros.specs.Table.{Holds}
use Rattle.pcl_bitmap.specs.declared.page.Page.{Page}
use Rattle.pcl_page.specs.declared.performer.Performer.{Performer}
use Rattle.pcl_page.specs.declared.interpreter.Interpreter.{Interpreter}
use Rattle.pcl_page.specs.declared.interpreter.Running.{Running}
use Rattle.pcl_page.specs.Asks.{asks_of}
use Rattle.pcl_page.specs.Situation.{Sheet, Situation, at_end}
use Rattle.pcl_page.specs.Macros.{Run, macro_ended}
use Rattle.pcl_page.specs.Performing.{Performance, done, then_on, in_order, step, commands_left, runs, end_refusal, asks_among}
use Rattle.pcl_page.specs.Delivering.{Hands}
use Rattle.pcl_page.specs.inner.Reflecting.{IsIn, HandsMore}

-- the interpreter is in the situation
pub record IsAt (dpi : Dpi) (s : Situation) (interpreter : Interpreter) : Type 0 where
  pub is_in : IsIn dpi s interpreter.performer
  pub macros : Holds interpreter.macros s.macros
  pub begun : interpreter.macros.begun ≡ s.begun

abbrev pub IsSomewhere : Dpi → Interpreter → Type 0
IsSomewhere dpi interpreter = (s : Situation) × IsAt dpi s interpreter

-- ---- what is still to be performed

abbrev pub run_in : Running → Run
run_in running = record { next = running.next; end = running.end; saved = running.saved }

-- the macro that begins to run, if any
abbrev pub entered : Option Run → List Running
entered None = []
entered (Some run) = record { next = run.next; end = run.end; saved = run.saved } ∷ []

-- a macro begins to run, if there is one, and there was a level for it
abbrev pub HasLevel : Option Run → List Running → Type 0
HasLevel None running = Unit {0}
HasLevel (Some run) running = length running < macro_limit

abbrev pub Enters : Option Run → List Running → List Running → Type 0
Enters run old new = (new ≡ old ++ entered run) × HasLevel run old

-- what a macro that runs has left, with this many levels below it
abbrev pub rest_of : ℕ → Dpi → List Said → Run → Situation → Performance
rest_of levels dpi all run s =
    then_on (in_order (step dpi (runs levels dpi all)) run.next (commands_left all run) s) (λ later. done (macro_ended dpi run.saved later))

-- what macros that run have left, the newest last, which goes first
abbrev pub resumed : ℕ → Dpi → List Said → List Running → Situation → Performance
resumed levels dpi all [] s = done s
resumed zero dpi all (running ∷ newer) s = done s
resumed (suc levels) dpi all (running ∷ newer) s = then_on (resumed levels dpi all newer s) (rest_of levels dpi all (run_in running))

-- what a command comes to while macros run, and what these then have left
abbrev pub begun_among : Dpi → List Said → ℕ → Said → List Running → Situation → Performance
begun_among dpi all place command running s =
    then_on (step dpi (runs (macro_limit - length running) dpi all) place command s) (resumed macro_limit dpi all running)

-- ---- how much work is left

-- each command that is performed and that counts may begin one macro more
abbrev pub left_in : ℕ → List Running → ℕ
left_in count [] = 0
left_in count (running ∷ newer) = (count - running.next + 1) + left_in count newer

abbrev pub work_left : ℕ → ℕ → List Running → ℕ
work_left count performed running = (command_limit + 1 - performed) * (count + 2) + left_in count running

-- ---- what calls do

-- the sink took the first of the pages by which a situation has more than another
abbrev pub HandsFirst : {S : Type 0} → (S → Page → S → Type 0) → Dpi → Situation → Situation → S → S → Type 0
HandsFirst {S} takes dpi before now old new =
    (front rest : List Sheet) × (now.pages ≡ before.pages ++ (front ++ rest)) × Hands takes dpi front old new

-- on the way to a performance a situation was reached, from which the macros that still run lead to it; or it ends with a
-- refusal; or memory ran out
abbrev pub GoesOn : {S : Type 0} → (S → Page → S → Type 0) → Dpi → List Said → Performance → Situation → Result (Unit {0}) JobFault
    → Interpreter → S → S → Type 0
GoesOn {S} takes dpi all whole s (Ok unit) new old_sink new_sink =
    (later : Situation) × IsAt dpi later new × HandsMore takes dpi s later old_sink new_sink
    × (resumed macro_limit dpi all new.running.items later ≡ whole)
GoesOn {S} takes dpi all whole s (Err (job.Refused why)) new old_sink new_sink =
    (whole.refusal ≡ Some why) × HandsMore takes dpi s whole.situation old_sink new_sink
GoesOn {S} takes dpi all whole s (Err job.Memory) new old_sink new_sink = HandsFirst takes dpi s whole.situation old_sink new_sink

-- a command led to this outcome, up to the start of the macro that it runs, or it is refused, or memory ran out
abbrev pub IsStepped : {S : Type 0} → (S → Page → S → Type 0) → Dpi → Result Situation Kind → (Situation → Option Run) → Situation
    → Result (Unit {0}) CallFault → Interpreter → Interpreter → S → S → Type 0
IsStepped {S} takes dpi outcome run_after s (Ok unit) old new old_sink new_sink =
    (later : Situation) × (outcome ≡ Ok later) × IsAt dpi later new
    × Enters (run_after later) old.running.items new.running.items × HandsMore takes dpi s later old_sink new_sink
IsStepped {S} takes dpi outcome run_after s (Err (Refused kind)) old new old_sink new_sink =
    ((outcome ≡ Err kind) × (new_sink ≡ old_sink))
    ⊎ ((later : Situation) × (run : Run) × (outcome ≡ Ok later) × (run_after later ≡ Some run)
    × (length old.running.items ≡ macro_limit) × (kind ≡ MacroDepth) × HandsMore takes dpi s later old_sink new_sink)
IsStepped {S} takes dpi outcome run_after s (Err Memory) old new old_sink new_sink =
    (new_sink ≡ old_sink) ⊎ ((later : Situation) × (outcome ≡ Ok later) × HandsMore takes dpi s later old_sink new_sink)

-- what is done to macros led to this, and this macro begins to run where a level is left
abbrev pub IsActed : Dpi → Result Situation Kind → (Situation → Option Run) → Result (Unit {0}) CallFault → Interpreter → Interpreter
    → Type 0
IsActed dpi outcome run_after (Ok unit) old new =
    (later : Situation) × (outcome ≡ Ok later) × IsAt dpi later new × Enters (run_after later) old.running.items new.running.items
IsActed dpi outcome run_after (Err (Refused kind)) old new =
    (outcome ≡ Err kind)
    ⊎ ((later : Situation) × (run : Run) × (outcome ≡ Ok later) × (run_after later ≡ Some run)
    × (length old.running.items ≡ macro_limit) × (kind ≡ MacroDepth))
IsActed dpi outcome run_after (Err Memory) old new = (later : Situation) × (outcome ≡ Ok later)

-- a macro begins to run, if it is there and a level is left
abbrev pub IsEntered : Option Run → Result (Unit {0}) CallFault → Interpreter → Interpreter → Type 0
IsEntered run (Ok unit) old new =
    Enters run old.running.items new.running.items × (new.performer ≡ old.performer) × (new.macros ≡ old.macros)
IsEntered None (Err fault) old new = ⊥
IsEntered (Some run) (Err (Refused kind)) old new = (length old.running.items ≡ macro_limit) × (kind ≡ MacroDepth)
IsEntered (Some run) (Err Memory) old new = ⊥

-- the input's end was performed, or it is refused at the end with the empty name, or memory ran out
abbrev pub InterpreterEnds : {S : Type 0} → (S → Page → S → Type 0) → Dpi → ℕ → Situation → Result (Unit {0}) JobFault → Performer
    → S → S → Type 0
InterpreterEnds {S} takes dpi end s (Ok unit) new old_sink new_sink =
    (end_refusal dpi s ≡ None) × HandsMore takes dpi s (at_end dpi s) old_sink new_sink
    × (asks_of new.asks ≡ (at_end dpi s).asks)
InterpreterEnds {S} takes dpi end s (Err (job.Refused why)) new old_sink new_sink =
    (kind : Kind) × (end_refusal dpi s ≡ Some kind) × (why ≡ refusal kind end Empty) × (new_sink ≡ old_sink)
InterpreterEnds {S} takes dpi end s (Err job.Memory) new old_sink new_sink = new_sink ≡ old_sink

-- where nothing was refused, the performer knows what was asked
abbrev pub IsAsking : Performance → Result (Unit {0}) JobFault → Performer → Type 0
IsAsking whole (Ok unit) new = asks_of new.asks ≡ asks_among whole
IsAsking whole (Err fault) new = Unit {0}
