-- How far commands and macros bring a performance, and how much work they leave.
use Rattle.std.proofs.Common.{◌≡◌, ℕ, zero, suc, ◌+◌, ◌-◌, ◌*◌, ◌<◌, ◌≤◌, List, [], ◌∷◌, ◌++◌, length, take, drop, Option, Some, None, Result, Ok, Err, refl, sym, ap, ◌∙◌, length-append, suc-mul, arith, inl, inr, rules, is_some, ◌⊎◌, slice_get}
use Rattle.pcl_page.proofs.Names.{Dpi, CallFault, JobFault, Kind, Refusal, command_limit, macro_limit, refusal, Settings, Said, Page, Interpreter, Running, Situation, Run, after_command, run_of, macro_ended, Performance, stopped, then_on, step, commands_left, runs, HandsMore, IsAt, run_in, entered, Enters, rest_of, resumed, begun_among, left_in, work_left, GoesOn, IsStepped}
use Rattle.pcl_base.specs.declared.fault.CallFault.TheVariants as call
use Rattle.pcl_base.specs.declared.fault.JobFault.TheVariants as job
use Rattle.pcl_page.proofs.Sinks.{no_pages, first_of_more, none_of_more, goes_from, goes_to}
use Rattle.pcl_page.proofs.Unfolded.{then_assoc, then_same, pushed, begun_refused, begun_deep, begun_entered, command_by, begun_grow, begun_after}

-- ---- a command

module _ {S : Type 0} (takes : S → Page → S → Type 0) (dpi : Dpi) (all : List Said) (place : ℕ) (command : Said) (s : Situation)
    (old new : Interpreter) (sink later : S) where
  -- the command, among the macros that run
  abbrev among : Performance
  among = begun_among dpi all place command old.running.items s

  -- the command was performed, with this result
  abbrev HasResult : Result (Unit {0}) CallFault → Type 0
  HasResult result = IsStepped takes dpi (after_command dpi place command s) (run_of command s) s result old new sink later

  pub stepped_on : HasResult (Ok tt) → GoesOn takes dpi all among s (Ok tt) new sink later
  stepped_on t = (
    t.0,
    t.2,
    t.4,
    rw t.3.0 refl ∙ begun_entered dpi all place command old.running.items s (run_of command s t.0) t.1 refl t.3.1,
  )

  -- it ends with the refusal of the command
  stopped_there : (whole : Performance) (kind : Kind) (now : Situation) (why : Refusal) → whole ≡ stopped kind command now
      → why ≡ refusal kind command.at command.name → HandsMore takes dpi s now sink later
      → GoesOn takes dpi all whole s (Err (job.Refused why)) new sink later
  stopped_there whole kind now why e w h = rw (e, w) (refl, h)

  pub stepped_stops : (kind : Kind) (why : Refusal) → HasResult (Err (call.Refused kind)) → why ≡ refusal kind command.at command.name
      → GoesOn takes dpi all among s (Err (job.Refused why)) new sink later
  stepped_stops kind why t w =
      elim t [
        | inl r ↦ stopped_there among kind s why (begun_refused _ _ _ _ _ s r.0) w (no_pages takes dpi s s sink later refl r.1)
        | inr r ↦ stopped_there among kind r.0 why (rw r.5 (begun_deep _ _ _ _ _ s r.2 r.3 r.4)) w r.6
      ]

  pub stepped_short : HasResult (Err call.Memory) → GoesOn takes dpi all among s (Err job.Memory) new sink later
  stepped_short t =
      elim t [
        | inl same ↦ none_of_more _ _ s among.situation _ _ same (begun_grow dpi all place command old.running.items s)
        | inr d ↦ first_of_more _ _ s d.0 among.situation _ _ d.2 (begun_after dpi all place command old.running.items s d.1)
      ]

-- ---- the next command of a macro

pub got_there : (all : List Said) (i : ℕ) {command : Said} → slice_get all i ≡ Some command → drop i all ≡ command ∷ drop (suc i) all
got_there [] i got = absurd cc
got_there (first ∷ all) zero got = cc
got_there (first ∷ all) (suc i) got = got_there all i got

pub past_end : (all : List Said) (i : ℕ) → slice_get all i ≡ None → drop i all ≡ []
past_end [] zero past = refl
past_end [] (suc i) past = refl
past_end (first ∷ all) zero past = absurd cc
past_end (first ∷ all) (suc i) past = past_end all i past

-- the macro with one command less
abbrev pub advanced : Running → Running
advanced newest = record { next = newest.next + 1; end = newest.end; saved = newest.saved }

left_next : (all : List Said) (newest : Running) {command : Said} → slice_get all newest.next ≡ Some command → newest.next < newest.end
    → commands_left all (run_in newest) ≡ command ∷ commands_left all (run_in (advanced newest))
left_next all newest {command} got lt =
    let plus : suc newest.next ≡ newest.next + 1 = omega arith in
    let one_less : newest.end - newest.next ≡ suc (newest.end - (newest.next + 1)) = omega arith in
    rw (got_there all newest.next got, plus, one_less) refl

rest_next : (levels : ℕ) (dpi : Dpi) (all : List Said) (newest : Running) {command : Said} (s : Situation)
    → slice_get all newest.next ≡ Some command → newest.next < newest.end → rest_of levels dpi all (run_in newest) s
    ≡ then_on (step dpi (runs levels dpi all) newest.next command s) (rest_of levels dpi all (run_in (advanced newest)))
rest_next levels dpi all newest {command} s got lt =
    rw (left_next all newest got lt) (then_assoc (step dpi (runs levels dpi all) newest.next command s) _ _)

pub next_of_macro : (dpi : Dpi) (all : List Said) (older : List Running) (newest : Running) {command : Said} (s : Situation)
    → length older < 3 → slice_get all newest.next ≡ Some command → newest.next < newest.end
    → begun_among dpi all newest.next command (older ++ advanced newest ∷ []) s ≡ resumed macro_limit dpi all (older ++ newest ∷ []) s
next_of_macro dpi all older newest {command} s few got lt =
    let k = 2 - length older in
    let one = step dpi (runs k dpi all) newest.next command s in
    let levels : macro_limit - length (older ++ advanced newest ∷ []) ≡ k = omega (arith, length-append older (advanced newest ∷ [])) in
    rw levels (then_same one (λ t. pushed dpi all older (advanced newest) t few)
    ∙ sym (pushed dpi all older newest s few ∙ rw (rest_next k dpi all newest s got lt) (then_assoc one _ _)))

-- a macro has no command left
abbrev pub HasEnded : List Said → Running → Type 0
HasEnded all newest = (slice_get all newest.next ≡ None) ⊎ (newest.end ≤ newest.next)

-- the end of a macro
none_left : (all : List Said) (newest : Running) → HasEnded all newest → commands_left all (run_in newest) ≡ []
none_left all newest e = elim e [
  | inl past ↦ rw (past_end all newest.next past) (take_none (newest.end - newest.next))
  | inr le ↦ let zero_left : newest.end - newest.next ≡ 0 = omega arith in rw zero_left refl
]
  where
    take_none : (n : ℕ) → take {A = Said} n [] ≡ []
    take_none zero = refl
    take_none (suc n) = refl

pub end_of_macro : (dpi : Dpi) (all : List Said) (older : List Running) (newest : Running) (s : Situation)
    → length older < 3 → HasEnded all newest
    → resumed macro_limit dpi all older (macro_ended dpi newest.saved s) ≡ resumed macro_limit dpi all (older ++ newest ∷ []) s
end_of_macro dpi all older newest s few e = sym (pushed dpi all older newest s few ∙ rw (none_left all newest e) refl)

-- the same interpreter but for the macros that run
pub at_running : {dpi : Dpi} {s : Situation} {old new : Interpreter} → new.performer ≡ old.performer → new.macros ≡ old.macros
    → IsAt dpi s old → IsAt dpi s new
at_running p m at = search (rules, p, m)

-- the end of a macro leaves the pages
pub left_pages : (dpi : Dpi) (saved : Option Settings) (s : Situation) → (macro_ended dpi saved s).pages ≡ s.pages
left_pages dpi saved s = grind arith

-- ---- work

pub left_append : (count : ℕ) (older newer : List Running) → left_in count (older ++ newer) ≡ left_in count older + left_in count newer
left_append count [] newer = omega arith
left_append count (running ∷ older) newer = omega (arith, left_append count older newer)

left_entered : (count : ℕ) (run : Option Run) → left_in count (entered run) ≤ count + 1
left_entered count run = grind arith

-- a command that counts is worth all that its macro may have left
fewer_left : (performed later count old new : ℕ) → performed < command_limit → later ≡ performed + 1 → new ≤ old + (count + 1)
    → (command_limit + 1 - later) * (count + 2) + new ≤ (command_limit + 1 - performed) * (count + 2) + old
fewer_left performed later count old new few next more =
    let n = command_limit - performed in
    let one : command_limit + 1 - later ≡ n = omega (arith, next) in
    let two : command_limit + 1 - performed ≡ suc n = omega arith in
    rw (one, two) (omega (arith, suc-mul n (count + 2), more))

pub stepped_work : (dpi : Dpi) (place count : ℕ) (command : Said) (s later : Situation) (old new : Interpreter) → IsAt dpi s old
    → after_command dpi place command s ≡ Ok later → IsAt dpi later new
    → new.running.items ≡ old.running.items ++ entered (run_of command s later)
    → work_left count new.performer.performed new.running.items ≤ work_left count old.performer.performed old.running.items
stepped_work dpi place count command s later old new at e there run =
    let all : left_in count new.running.items ≡ left_in count old.running.items + left_in count (entered (run_of command s later)) =
    ap (left_in count) run ∙ left_append count old.running.items (entered (run_of command s later)) in
    elim (command_by dpi place command {s = s} (is_some s.begun) refl e) [
      | inl kept ↦
          let none : run_of command s later ≡ None = rw kept.1 refl in
          let same : new.performer.performed ≡ old.performer.performed = cc (there.is_in.performed, at.is_in.performed) in
          let running : left_in count new.running.items ≡ left_in count old.running.items = rw none at all ∙ omega arith in
          rw same (omega (arith, running))
      | inr counts ↦
          fewer_left old.performer.performed _ count _ _ (omega (arith, counts.few, at.is_in.performed))
          (omega (arith, there.is_in.performed, counts.performed, at.is_in.performed))
          (omega (arith, all, left_entered count (run_of command s later)))
    ]

-- one command less, or one macro less
pub advanced_less : (count performed : ℕ) (older : List Running) (newest : Running) → newest.next < count
    → work_left count performed (older ++ advanced newest ∷ []) < work_left count performed (older ++ newest ∷ [])
advanced_less count performed older newest lt =
    omega (arith, left_append count older (advanced newest ∷ []), left_append count older (newest ∷ []))

pub ended_less : (count performed : ℕ) (older : List Running) (newest : Running)
    → work_left count performed older < work_left count performed (older ++ newest ∷ [])
ended_less count performed older newest = omega (arith, left_append count older (newest ∷ []))

-- ---- a macro that runs

-- the next command of the newest macro, on the way to what all have left
pub command_goes : {S : Type 0} (takes : S → Page → S → Type 0) (dpi : Dpi) (all : List Said) (older pushed_on : List Running)
    (newest : Running) (command : Said) (s : Situation) (result : Result (Unit {0}) JobFault) (last : Interpreter) (sink later : S)
    → length older < 3 → slice_get all newest.next ≡ Some command → newest.next < newest.end → pushed_on ≡ older ++ advanced newest ∷ []
    → GoesOn takes dpi all (begun_among dpi all newest.next command pushed_on s) s result last sink later
    → GoesOn takes dpi all (resumed macro_limit dpi all (older ++ newest ∷ []) s) s result last sink later
command_goes takes dpi all older pushed_on newest command s result last sink later few got lt push g =
    goes_to takes dpi all _ _ s result last sink later (rw push (next_of_macro dpi all older newest s few got lt)) g

-- the end of the newest macro
pub end_goes : {S : Type 0} (takes : S → Page → S → Type 0) (dpi : Dpi) (all : List Said) (old last : Interpreter)
    (newest : Running) (s : Situation) (sink : S) → length old.running.items < 3 → HasEnded all newest
    → IsAt dpi (macro_ended dpi newest.saved s) last → last.running ≡ old.running
    → GoesOn takes dpi all (resumed macro_limit dpi all (old.running.items ++ newest ∷ []) s) s (Ok tt) last sink sink
end_goes takes dpi all old last newest s sink few e at run =
    let none = no_pages takes dpi s (macro_ended dpi newest.saved s) sink sink (left_pages dpi newest.saved s) refl in
    (_, at, none, rw run (end_of_macro dpi all old.running.items newest s few e))

-- ---- all macros that run

-- what the macros that run have left leads to the same as what those had left that ran at first
abbrev pub GoesBack : {S : Type 0} → (S → Page → S → Type 0) → Dpi → List Said → Performance → Situation → Interpreter → S → S → Type 0
GoesBack {S} takes dpi all whole s new old_sink new_sink =
    (now : Situation) × IsAt dpi now new × HandsMore takes dpi s now old_sink new_sink
    × (resumed macro_limit dpi all new.running.items now ≡ whole)

-- the newest macro is taken off, and goes on
pub macro_goes : {S : Type 0} (takes : S → Page → S → Type 0) (dpi : Dpi) (all : List Said) (whole : Performance) (s : Situation)
    (result : Result (Unit {0}) JobFault) (before middle last : Interpreter) (newest : Running) (old then new : S)
    → (b : GoesBack takes dpi all whole s before old then) → before.running.items ≡ middle.running.items ++ newest ∷ []
    → middle.performer ≡ before.performer → middle.macros ≡ before.macros → ((now : Situation) → IsAt dpi now middle
    → GoesOn takes dpi all (resumed macro_limit dpi all (middle.running.items ++ newest ∷ []) now) now result last then new)
    → GoesOn takes dpi all whole s result last old new
macro_goes takes dpi all whole s result before middle last newest old then new b off p m f =
    goes_from takes dpi all whole s b.0 result last old then new b.2
    (goes_to takes dpi all _ whole b.0 result last then new (rw off at b.3) (f b.0 (at_running p m b.1)))

-- as many macros run as may
pub enters_few : (run : Option Run) (old : List Running) {new : List Running} → Enters run old new → length old ≤ 3 → length new ≤ 3
enters_few None old e few = omega (arith, ap (λ (rs : List Running). length rs) e.0, length-append old [])
enters_few (Some run) old e few = omega (arith, ap (λ (rs : List Running). length rs) e.0, length-append old (entered (Some run)), e.1)
