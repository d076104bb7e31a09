-- The interpreter follows the situation, command by command.
use Rattle.std.proofs.Common.{◌≡◌, ℕ, ◌+◌, Bool, true, false, cond, List, ◌∷◌, Option, Some, None, Result, Ok, Err, refl, sym, ap, ◌∙◌, append-nil, inl, inr, rules}
use Rattle.pcl_macros.specs.History.{MacroBody}
use Rattle.pcl_macros.specs.Table.{places_of}
use Rattle.pcl_page.proofs.Names.{is_some, option_map, Dpi, CallFault, Refused, Memory, JobFault, Kind, Operation, ControlMacros, Value, operation_of, Effect, Stay, Settings, kept, Outcome, Said, MacroControl, MacroEvent, control, Begun, Controls, macro_at, is_begun, Page, Performer, Interpreter, Begin, Execute, Call, Control, Run, acted, after_macros, after_counted, run_by, run_from, run_with, macro_now, IsIn, HandsMore, IsHandled, EndDone, IsAt, Enters, IsStepped, IsActed, IsEntered, InterpreterEnds, after_checked, drawn_on}
use Rattle.pcl_base.specs.declared.fault.JobFault.TheVariants as job
use Rattle.pcl_env.specs.Outcome.{outcome}
use Rattle.pcl_macros.proofs.Histories.{holds_after}
use Rattle.pcl_page.specs.Situation.{Situation, ◌|>◌, is_marked, turned, turned_by, taken, counted, prepared, is_ignored, after}
use Rattle.pcl_page.proofs.Keeping.{then_from, is_counted}
use Rattle.pcl_page.proofs.Steps.{only_stays, stays_pages, no_more}
use Rattle.pcl_page.proofs.Unfolded.{macros_act}

-- nothing runs
abbrev pub runs_none : Situation → Option Run
runs_none later = None

-- ---- a command that counts

-- a macro control lets the page stay
control_outcome : (dpi : Dpi) (value : Value) (m : Bool) (s : Settings) {done : Settings × Effect}
    → outcome dpi ControlMacros value m s ≡ Some done → done.1 ≡ Stay
unfolding outcome
control_outcome dpi value m s e = only_stays s e

control_turned : (dpi : Dpi) (value : Value) (o : Outcome) (s : Situation) {later : Situation}
    → outcome dpi ControlMacros value (is_marked s) s.settings ≡ o → turned_by o s ≡ Ok later → later.pages ≡ s.pages
control_turned dpi value None s is e = absurd cc
control_turned dpi value (Some done) s {later} is e =
    let same : turned done.0 done.1 s ≡ later = cc in
    rw (← same) (stays_pages done s (control_outcome dpi value (is_marked s) s.settings is))

-- what is refused for macros ejects nothing
unchanged_pages : (dpi : Dpi) (place : ℕ) (operation : Option Operation) (command : Said) (s : Situation) {now : Situation} {kind : Kind}
    → after dpi operation command s ≡ Ok now → after_macros place operation command.value now ≡ Err kind → now.pages ≡ s.pages
unfolding after
unchanged_pages dpi place (Some ControlMacros) command s {now} e m =
    let before = prepared dpi ControlMacros s in
    let on = taken dpi ControlMacros command.value before in
    let next = drawn_on dpi ControlMacros command in
    elim (is_ignored ControlMacros s) as (λ ignored. cond ignored (Ok s) (on |> next) ≡ Ok now → now.pages ≡ s.pages) [
      | true ↦ λ kept. let same : s ≡ now = cc in rw (← same) refl
      | false ↦ λ is.
          let t = then_from on next is in
          let same : t.0 ≡ now = let drawn_is = t.2 in cc in rw (← same) (control_turned dpi command.value _ before refl t.1)
    ] e
unchanged_pages dpi place other command s e m = absurd cc

-- the performer performed the command, and nothing was done to macros yet
pub at_checked : {dpi : Dpi} (command : Said) {s now : Situation} {old middle : Interpreter} → IsAt dpi s old
    → after_checked dpi command s ≡ Ok now → IsIn dpi now middle.performer → middle.macros ≡ old.macros → IsAt dpi now middle
at_checked {dpi} command {s} {now} {middle} at e i same =
    let a = (is_counted dpi command s e).adds in search (rules, same, a.macros)

-- a command, and what it does to macros
module _ {S : Type 0} (takes : S → Page → S → Type 0) (dpi : Dpi) (place : ℕ) (command : Said) (s : Situation) where
  -- what is done to macros after the rest
  abbrev by_macros : Situation → Result Situation Kind
  by_macros = after_macros place (operation_of command.name) command.value

  -- the macro that then runs
  abbrev runs_by : Situation → Option Run
  runs_by = run_from (operation_of command.name) command.value

  -- what is refused for macros leaves the sink as it was
  unchanged_sink : (now : Situation) (sink later : S) {kind : Kind} → after_checked dpi command s ≡ Ok now → by_macros now ≡ Err kind
      → HandsMore takes dpi s now sink later → later ≡ sink
  unchanged_sink now sink later t e h =
      let same = unchanged_pages dpi place (operation_of command.name) command (counted s) (is_counted dpi command s t).after_is e in
      rw (no_more s.pages h.0 (sym same ∙ h.1)) at h.2

  more_of_macros : (now then : Situation) (sink later : S) → by_macros now ≡ Ok then → HandsMore takes dpi s now sink later
      → HandsMore takes dpi s then sink later
  more_of_macros now then sink later m h = (h.0, (macros_act place (operation_of command.name) command.value m).pages ∙ h.1, h.2)

  stepped_by : (old middle new : Interpreter) (sink later : S) (result : Result (Unit {0}) CallFault) (now : Situation)
      → middle.running ≡ old.running → after_checked dpi command s ≡ Ok now → HandsMore takes dpi s now sink later
      → IsActed dpi (by_macros now) runs_by result middle new
      → IsStepped takes dpi (after_counted dpi place command s) runs_by s result old new sink later
  stepped_by old middle new sink later (Ok unit) now run t h a =
      (a.0, rw t a.1, a.2, rw run at a.3, more_of_macros now a.0 sink later a.1 h)
  stepped_by old middle new sink later (Err (Refused kind)) now run t h a =
      elim a [
        | inl e ↦ inl (rw t e, unchanged_sink now sink later t e h)
        | inr a ↦ inr (a.0, a.1, rw t a.2, a.3, rw run at a.4, a.5, more_of_macros now a.0 sink later a.2 h)
      ]
  stepped_by old middle new sink later (Err Memory) now run t h a = inr (a.0, rw t a.1, more_of_macros now a.0 sink later a.1 h)

  pub counted_stepped : (operation : Operation) (old middle new : Interpreter) (sink later : S) (result : Result (Unit {0}) CallFault)
      → IsAt dpi s old → IsHandled takes dpi command s (Ok operation) middle.performer sink later
      → middle.macros ≡ old.macros → middle.running ≡ old.running → ((t : Situation) → IsAt dpi t middle
      → IsActed dpi (after_macros place (Some operation) command.value t) (run_from (Some operation) command.value) result middle new)
      → IsStepped takes dpi (after_counted dpi place command s) runs_by s result old new sink later
  counted_stepped operation old middle new sink later result at t same run f =
      stepped_by old middle new sink later result t.0 run t.2 t.4 (rw t.1 (f t.0 (at_checked command at t.2 t.3 same)))

  -- the performer refused it, or memory ran out there
  pub counted_unchecked : (old new : Interpreter) (sink later : S) (fault : CallFault)
      → IsHandled takes dpi command s (Err fault) new.performer sink later
      → IsStepped takes dpi (after_counted dpi place command s) runs_by s (Err fault) old new sink later
  counted_unchecked old new sink later (Refused kind) t = inl (rw t.0 refl, t.1)
  counted_unchecked old new sink later Memory t =
      elim t [
        | inl same ↦ inl same
        | inr d ↦ short_by (by_macros d.0) d refl
      ]
    where
      short_by : (o : Result Situation Kind)
          → (d : (now : Situation) × (after_checked dpi command s ≡ Ok now) × HandsMore takes dpi s now sink later) → by_macros d.0 ≡ o
          → IsStepped takes dpi (after_counted dpi place command s) runs_by s (Err Memory) old new sink later
      short_by (Ok now) d m = inr (now, rw d.1 m, more_of_macros d.0 now sink later m d.2)
      short_by (Err kind) d m = inl (unchanged_sink d.0 sink later d.1 m d.2)

-- ---- what is done to macros

-- the performer is where it was, whatever became of macros
in_macros : {dpi : Dpi} {events : List MacroEvent} {begun : Option Begun} {s : Situation} {old new : Performer} → new ≡ old
    → IsIn dpi s old → IsIn dpi (record s { macros = events; begun = begun }) new
in_macros same i = rw same (search rules)

module _ {dpi : Dpi} {s : Situation} {old : Interpreter} (at : IsAt dpi s old) where
  -- no macro begins to run
  idle_still : (new : Interpreter) → new.running ≡ old.running → Enters None old.running.items new.running.items
  idle_still new run = (rw run (sym (append-nil old.running.items)), tt)

  -- one event more
  pub event_acted : {event : MacroEvent} {new : Interpreter} → new.performer ≡ old.performer → new.running ≡ old.running
      → Controls old.macros new.macros event → IsActed dpi (Ok (record s { macros = event ∷ s.macros })) runs_none (Ok tt) old new
  event_acted {event} {new} same run c = (
    _,
    refl,
    record {
      is_in = in_macros same at.is_in;
      macros = holds_after old.macros new.macros event s.macros c.0 at.macros;
      begun = c.1 ∙ at.begun;
    },
    idle_still new run,
  )

  -- a macro begins to run
  enter_acted : (run_after : Situation → Option Run) (run : Option Run) (new : Interpreter) (result : Result (Unit {0}) CallFault)
      → run ≡ run_after s → IsEntered run result old new → IsActed dpi (Ok s) run_after result old new
  enter_acted run_after run new (Ok unit) e h =
      (s, refl, record { is_in = rw h.1 at.is_in; macros = rw h.2 at.macros; begun = rw h.2 at.begun }, rw e at h.0)
  enter_acted run_after (Some run) new (Err (Refused kind)) e h = inr (s, run, refl, sym e, h.0, h.1)
  enter_acted run_after run new result e h = absurd h

  module _ {id : ℕ} (i : id ≡ old.performer.environment.macro_id) where
    id_is : id ≡ s.settings.macro_id
    id_is = cc (i, at.is_in.settings)

    pub control_acted : {what : MacroControl} {new : Interpreter} (place : ℕ) → new.performer ≡ old.performer
        → new.running ≡ old.running → Controls old.macros new.macros (control what id)
        → IsActed dpi (acted place (Some (Control what)) s) (run_by (Some (Control what))) (Ok tt) old new
    control_acted place same run c = event_acted same run (rw id_is at c)

    -- a definition begins
    pub begin_acted : {new : Interpreter} (place : ℕ) → new.performer ≡ old.performer → new.running ≡ old.running
        → new.macros ≡ record old.macros { begun = Some (record { id = id; from = place + 1 }) }
        → IsActed dpi (acted place (Some Begin) s) (run_by (Some Begin)) (Ok tt) old new
    begin_acted {new} place same run m =
        (_, refl, record { is_in = in_macros same at.is_in; macros = rw m at.macros; begun = rw (m, id_is) refl }, idle_still new run)

    -- the macro that is meant
    found : macro_at old.macros id ≡ macro_now s
    found = at.macros id ∙ cc (i, at.is_in.settings)

    pub execute_acted : (new : Interpreter) (result : Result (Unit {0}) CallFault)
        → IsEntered (option_map (run_with None) (macro_at old.macros id)) result old new
        → IsActed dpi (Ok s) (run_by (Some Execute)) result old new
    execute_acted new result = enter_acted _ (option_map (run_with None) (macro_at old.macros id)) new result (rw found refl)

    pub call_acted : {saved : Settings} (new : Interpreter) (result : Result (Unit {0}) CallFault) → saved ≡ kept old.performer.environment
        → IsEntered (option_map (run_with (Some saved)) (macro_at old.macros id)) result old new
        → IsActed dpi (Ok s) (run_by (Some Call)) result old new
    call_acted {saved} new result k =
        let same : saved ≡ kept s.settings = rw at.is_in.settings at k in
        enter_acted _ (option_map (run_with (Some saved)) (macro_at old.macros id)) new result (rw (found, same) refl)

-- the same from an interpreter in which as much runs
pub acted_from : (dpi : Dpi) (outcome : Result Situation Kind) (run_after : Situation → Option Run) (result : Result (Unit {0}) CallFault)
    (old other new : Interpreter) → other.running ≡ old.running → IsActed dpi outcome run_after result old new
    → IsActed dpi outcome run_after result other new
acted_from dpi outcome run_after (Ok unit) old other new e a = rw e a
acted_from dpi outcome run_after (Err (Refused kind)) old other new e a = rw e a
acted_from dpi outcome run_after (Err Memory) old other new e a = a

-- whether the macro that is meant was defined
placed : (body : Option MacroBody) → is_some (places_of body) ≡ is_some body
placed None = refl
placed (Some body) = refl

pub defined_is : {dpi : Dpi} {s : Situation} {old : Interpreter} {id : ℕ} → IsAt dpi s old → id ≡ old.performer.environment.macro_id
    → is_some (places_of (macro_at old.macros id)) ≡ is_some (macro_now s)
defined_is {s = s} {old} {id} at i =
    let found : macro_at old.macros id ≡ macro_now s = at.macros id ∙ cc (i, at.is_in.settings) in
    placed (macro_at old.macros id) ∙ ap is_some found

-- ---- the end

pub ends_outside : {S : Type 0} (takes : S → Page → S → Type 0) (dpi : Dpi) (end : ℕ) (s : Situation) (old : Interpreter)
    (new : Performer) (result : Result (Unit {0}) JobFault) (sink later : S) → IsAt dpi s old → is_begun old.macros ≡ false
    → EndDone takes dpi end s result new sink later → InterpreterEnds takes dpi end s result new sink later
ends_outside takes dpi end s old new result sink later at none d = ends_by result (rw at.begun at none) d
  where
    ends_by : (result : Result (Unit {0}) JobFault) → is_some s.begun ≡ false → EndDone takes dpi end s result new sink later
        → InterpreterEnds takes dpi end s result new sink later
    ends_by (Ok unit) e d = (rw e d.0, d.1, d.2)
    ends_by (Err (job.Refused why)) e d = (d.0, rw e d.1, d.2, d.3)
    ends_by (Err job.Memory) e d = d
