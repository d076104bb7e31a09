-- Performances of commands and of macros, unfolded.
use Rattle.std.proofs.Common.{◌≡◌, ℕ, zero, suc, ◌+◌, ◌-◌, ◌<◌, Bool, true, false, cond, List, [], ◌∷◌, ◌++◌, length, Option, Some, None, Result, Ok, Err, refl, sym, ◌∙◌, append-nil, arith, inl, inr, is_some, ◌⊎◌}
use Rattle.pcl_page.proofs.Names.{Dpi, Kind, MacroDepth, Operation, ControlMacros, Value, command_limit, macro_limit, operation_of, Settings, Said, Running, Action, Keeping, Situation, after_checked, Run, action_of, keeping_of, acted, lasting_by, after_macros, after_counted, defining, after_command, run_of, macro_ended, Performance, done, stopped, unless, then_on, in_order, led_to, and_run, step, commands_left, runs, run_in, entered, HasLevel, rest_of, resumed, begun_among}
use Rattle.pcl_page.proofs.Keeping.{then_from, is_counted}
use Rattle.pcl_page.proofs.Sinks.{Onward, stays_there, onward_on}

-- ---- performances in a row

pub then_done : {p : Performance} → then_on p done ≡ p
then_done {p} = grind arith

pub then_assoc : (p : Performance) (f g : Situation → Performance) → then_on (then_on p f) g ≡ then_on p (λ t. then_on (f t) g)
then_assoc p f g = grind arith

pub then_same : (p : Performance) {f g : Situation → Performance} → ((t : Situation) → f t ≡ g t) → then_on p f ≡ then_on p g
then_same p e = grind arith

-- ---- macros that run

-- the levels that hold these macros, one more, and some below it
abbrev deep : List Running → ℕ → ℕ
deep [] k = suc k
deep (running ∷ older) k = suc (deep older k)

deep_is : (older : List Running) (k : ℕ) → deep older k ≡ length older + k + 1
deep_is [] k = omega arith
deep_is (running ∷ older) k = let d = deep_is older k in omega (arith, d)

pushed_deep : (k : ℕ) (dpi : Dpi) (all : List Said) (older : List Running) (newest : Running) (s : Situation)
    → resumed (deep older k) dpi all (older ++ newest ∷ []) s
    ≡ then_on (rest_of k dpi all (run_in newest) s) (resumed (deep older k) dpi all older)
pushed_deep k dpi all [] newest s = sym (then_done)
pushed_deep k dpi all (running ∷ older) newest s =
    rw (pushed_deep k dpi all older newest s) (then_assoc (rest_of k dpi all (run_in newest) s) _ _)

-- the newest macro goes first
pub pushed : (dpi : Dpi) (all : List Said) (older : List Running) (newest : Running) (s : Situation) → length older < 3
    → resumed macro_limit dpi all (older ++ newest ∷ []) s
    ≡ then_on (rest_of (2 - length older) dpi all (run_in newest) s) (resumed macro_limit dpi all older)
pushed dpi all older newest s few =
    let levels : deep older (2 - length older) ≡ 3 = deep_is older (2 - length older) ∙ omega arith in
    rw levels at (pushed_deep (2 - length older) dpi all older newest s)

-- ---- a command

module _ (dpi : Dpi) (all : List Said) (place : ℕ) (command : Said) (running : List Running) (s : Situation) where
  -- the command, among macros that run
  abbrev among : Performance
  among = begun_among dpi all place command running s

  -- one that is refused
  pub begun_refused : {kind : Kind} → after_command dpi place command s ≡ Err kind → among ≡ stopped kind command s
  begun_refused e = rw e refl

  -- one that would run a macro too deep
  pub begun_deep : {later : Situation} {run : Run} → after_command dpi place command s ≡ Ok later → run_of command s later ≡ Some run
      → length running ≡ 3 → among ≡ stopped MacroDepth command later
  begun_deep e r full = let levels : macro_limit - length running ≡ 0 = omega (arith, full) in rw (e, r, levels) refl

  -- one that runs a macro, or none
  pub begun_entered : {later : Situation} (run : Option Run) → after_command dpi place command s ≡ Ok later → run_of command s later ≡ run
      → HasLevel run running → resumed macro_limit dpi all (running ++ entered run) later ≡ among
  begun_entered None e r few = rw (append-nil, e, r) refl
  begun_entered {later} (Some run) e r few =
      let levels : macro_limit - length running ≡ suc (2 - length running) = omega arith in
      pushed dpi all running (record { next = run.next; end = run.end; saved = run.saved }) later few ∙ sym (rw (e, r, levels) refl)

-- ---- what a command adds

-- a command that counts
pub record Counts (s later : Situation) : Type 0 where
  pub onward : Onward s later
  pub performed : later.performed ≡ s.performed + 1
  pub few : s.performed < command_limit

-- neither pages nor counts change where something is done to macros
pub record ActsOnMacros (s later : Situation) : Type 0 where
  pub pages : later.pages ≡ s.pages
  pub performed : later.performed ≡ s.performed
  pub asked : later.asks.pages ≡ s.asks.pages

same_acts : {s now later : Situation} → ActsOnMacros s now → ◌≡◌ {A = Result Situation Kind} (Ok now) (Ok later) → ActsOnMacros s later
same_acts {s} {now} {later} a e = let same : now ≡ later = cc in rw same at a

acted_acts : (place : ℕ) (action : Option Action) {s later : Situation} → acted place action s ≡ Ok later → ActsOnMacros s later
acted_acts place action e = grind arith

lasting_acts : (action : Option Action) {s : Situation} → ActsOnMacros s (lasting_by action s)
lasting_acts action = grind arith

acts_on : {s now later : Situation} → ActsOnMacros s now → ActsOnMacros now later → ActsOnMacros s later
acts_on a b = record { pages = b.pages ∙ a.pages; performed = b.performed ∙ a.performed; asked = b.asked ∙ a.asked }

pub macros_act : (place : ℕ) (operation : Option Operation) (value : Value) {s later : Situation}
    → after_macros place operation value s ≡ Ok later → ActsOnMacros s later
macros_act place (Some ControlMacros) value e = acts_on (lasting_acts (action_of value)) (acted_acts place (action_of value) e)
macros_act place other value e = same_acts (record { pages = refl; performed = refl; asked = refl }) e

after_counted_counts : (dpi : Dpi) (place : ℕ) (command : Said) {s later : Situation}
    → after_counted dpi place command s ≡ Ok later → Counts s later
after_counted_counts dpi place command {s} e =
    let t = then_from (after_checked dpi command s) (after_macros place (operation_of command.name) command.value) e in
    let c = is_counted dpi command s t.1 in
    let b = macros_act place (operation_of command.name) command.value t.2 in
    let o = c.adds.onward in
    record { onward = (o.0, cc (b.pages, o.1), cc (b.asked, o.2)); performed = b.performed ∙ c.adds.performed; few = c.few }

-- a command is kept, and nothing changes, or it counts
abbrev pub KeptOrCounts : Situation → Situation → Type 0
KeptOrCounts s later = ((later ≡ s) × (is_some s.begun ≡ true)) ⊎ Counts s later

defining_counts : (dpi : Dpi) (place : ℕ) (keeping : Keeping) (command : Said) {s later : Situation} → is_some s.begun ≡ true
    → defining dpi place keeping command s ≡ Ok later → KeptOrCounts s later
defining_counts dpi place keeping command b e = grind (arith, after_counted_counts)

pub command_by : (dpi : Dpi) (place : ℕ) (command : Said) {s later : Situation} (begun : Bool) → is_some s.begun ≡ begun
    → cond begun (defining dpi place (keeping_of (operation_of command.name) command.value) command s) (after_counted dpi place command s)
    ≡ Ok later → KeptOrCounts s later
command_by dpi place command true b e = defining_counts dpi place (keeping_of (operation_of command.name) command.value) command b e
command_by dpi place command false b e = inr (after_counted_counts dpi place command e)

-- ---- performances only add pages

abbrev pub Grows : (Situation → Performance) → Type 0
Grows f = (s : Situation) → Onward s (f s).situation

pub then_grows : (p : Performance) (s : Situation) (f : Situation → Performance) → Onward s p.situation → Grows f
    → Onward s (then_on p f).situation
then_grows p s f o g =
    elim p.refusal as (λ why. Onward s (unless why p.situation f).situation) [
      | None ↦ onward_on s p.situation (f p.situation).situation o (g p.situation)
      | Some why ↦ o
    ]

led_to_grows : (dpi : Dpi) (place : ℕ) (command : Said) (s : Situation) (o : Result Situation Kind)
    → after_command dpi place command s ≡ o → Onward s (led_to command s o).situation
led_to_grows dpi place command s (Ok later) e = elim (command_by dpi place command {s = s} (is_some s.begun) refl e) [
  | inl same ↦ rw same.0 (stays_there s)
  | inr counts ↦ counts.onward
]
led_to_grows dpi place command s (Err kind) e = stays_there s

run_grows : (f : Run → Situation → Performance) (run : Option Run) → ((r : Run) → Grows (f r)) → Grows (and_run f run)
run_grows f None g = stays_there
run_grows f (Some run) g = g run

step_grows : (dpi : Dpi) (f : Said → Run → Situation → Performance) (place : ℕ) {command : Said}
    → ((r : Run) → Grows (f command r)) → Grows (step dpi f place command)
step_grows dpi f place {command} g = λ s.
    then_grows _ s _ (led_to_grows dpi place command s _ refl) (λ later. run_grows (f command) (run_of command s later) g later)

pub order_grows : (dpi : Dpi) (f : Said → Run → Situation → Performance) (place : ℕ) (commands : List Said)
    → ((command : Said) (r : Run) → Grows (f command r)) → Grows (in_order (step dpi f) place commands)
order_grows dpi f place [] g = stays_there
order_grows dpi f place (command ∷ commands) g = λ s.
    then_grows _ s _ (step_grows dpi f place (g command) s) (order_grows dpi f (place + 1) commands g)

left_grows : (dpi : Dpi) (saved : Option Settings) → Grows (λ later. done (macro_ended dpi saved later))
left_grows dpi None = stays_there
left_grows dpi (Some settings) = stays_there

-- what a macro has left
rest_grows : (levels : ℕ) (dpi : Dpi) (all : List Said) (run : Run) → ((command : Said) (r : Run) → Grows (runs levels dpi all command r))
    → Grows (rest_of levels dpi all run)
rest_grows levels dpi all run g = λ s.
    then_grows _ s _ (order_grows dpi (runs levels dpi all) run.next (commands_left all run) g s) (left_grows dpi run.saved)

pub runs_grow : (levels : ℕ) (dpi : Dpi) (all : List Said) (command : Said) (run : Run) → Grows (runs levels dpi all command run)
runs_grow zero dpi all command run = stays_there
runs_grow (suc levels) dpi all command run = rest_grows levels dpi all run (runs_grow levels dpi all)

pub resumed_grow : (levels : ℕ) (dpi : Dpi) (all : List Said) (running : List Running) → Grows (resumed levels dpi all running)
resumed_grow levels dpi all [] = stays_there
resumed_grow zero dpi all (running ∷ newer) = stays_there
resumed_grow (suc levels) dpi all (running ∷ newer) = λ s.
    then_grows _ s _ (resumed_grow levels dpi all newer s) (rest_grows levels dpi all (run_in running) (runs_grow levels dpi all))

pub begun_grow : (dpi : Dpi) (all : List Said) (place : ℕ) (command : Said) (running : List Running)
    → Grows (begun_among dpi all place command running)
begun_grow dpi all place command running = λ s.
    let f = runs (macro_limit - length running) dpi all in
    then_grows (step dpi f place command s) s _ (step_grows dpi f place (runs_grow (macro_limit - length running) dpi all command) s)
    (resumed_grow macro_limit dpi all running)

-- after a command that isn't refused
pub begun_after : (dpi : Dpi) (all : List Said) (place : ℕ) (command : Said) (running : List Running) (s : Situation) {later : Situation}
    → after_command dpi place command s ≡ Ok later → Onward later (begun_among dpi all place command running s).situation
begun_after dpi all place command running s {later} e =
    rw e (then_grows _ later _ (run_grows _ (run_of command s later) (runs_grow (macro_limit - length running) dpi all command) later)
    (resumed_grow macro_limit dpi all running))
