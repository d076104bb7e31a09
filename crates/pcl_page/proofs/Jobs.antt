-- Performing a job, place by place, up to the whole.
use Rattle.std.proofs.Common.{◌≡◌, ℕ, ◌+◌, List, [], ◌∷◌, ◌++◌, length, Some, None, Result, Ok, Err, refl, sym, ap, ◌∙◌, append_assoc, append-nil, rules}
use Rattle.pcl_page.proofs.Names.{Dpi, Profile, JobFault, macro_limit, Said, Page, Performer, Interpreter, Running, Sheet, Situation, at_end, HasPagesBy, performance, AllShow, IsPerformed, Hands, HandsOver, Shows, Performance, done, then_on, step, runs, after_all, end_refusal, ended, after_end, pages_of, IsSamePage, IsAt, resumed, begun_among, GoesOn, InterpreterEnds, IsAsking}
use Rattle.pcl_base.specs.declared.fault.JobFault.TheVariants.{Refused, Memory}
use Rattle.pcl_page.proofs.Keeping.{end_adds}
use Rattle.pcl_page.proofs.Sinks.{Onward, stays_there, hands_append, hands_further, goes_from, goes_to}
use Rattle.pcl_page.proofs.Unfolded.{Grows, then_done, then_assoc, then_grows, order_grows, runs_grow}

-- ---- what is still to be performed

-- the commands from a place on, and then the end
abbrev pub rest_of_job : Dpi → ℕ → List Said → ℕ → List Said → Situation → Performance
rest_of_job dpi end all place commands s = then_on (after_all dpi all place commands s) (after_end dpi end)

end_grows : (dpi : Dpi) (end : ℕ) → Grows (after_end dpi end)
end_grows dpi end = λ s.
    elim (end_refusal dpi s) as (λ why. Onward s (ended dpi end why s).situation) [ None ↦ end_adds dpi s | Some kind ↦ stays_there s ]

pub rest_grows : (dpi : Dpi) (end : ℕ) (all : List Said) (place : ℕ) (commands : List Said) → Grows (rest_of_job dpi end all place commands)
rest_grows dpi end all place commands = λ s.
    then_grows (after_all dpi all place commands s) s _
    (order_grows dpi (runs macro_limit dpi all) place commands (runs_grow macro_limit dpi all) s) (end_grows dpi end)

-- the next command, and the rest after it
abbrev next_step : Dpi → List Said → ℕ → Said → Situation → Performance
next_step dpi all place command s = step dpi (runs macro_limit dpi all) place command s

rest_next : (dpi : Dpi) (end : ℕ) (all : List Said) (place : ℕ) (command : Said) (commands : List Said) (s : Situation)
    → rest_of_job dpi end all place (command ∷ commands) s
    ≡ then_on (next_step dpi all place command s) (rest_of_job dpi end all (place + 1) commands)
rest_next dpi end all place command commands s =
    then_assoc (next_step dpi all place command s) (after_all dpi all (place + 1) commands) (after_end dpi end)

-- no macro runs before the command
pub begun_alone : (dpi : Dpi) (all : List Said) (place : ℕ) (command : Said) (s : Situation) {running : List Running} → running ≡ []
    → begun_among dpi all place command running s ≡ next_step dpi all place command s
begun_alone dpi all place command s e = rw e then_done

-- ---- how far the performing has come

pub record IsReached {S : Type 0} (takes : S → Page → S → Type 0) (dpi : Dpi) (whole : Performance) (rest : Situation → Performance)
    (interpreter : Interpreter) (old now : S) : Type 0 where
  pub situation : Situation
  pub is_at : IsAt dpi situation interpreter
  pub idle : interpreter.running.items ≡ []
  pub handed : Hands takes dpi situation.pages old now
  pub same : rest situation ≡ whole

module _ {S : Type 0} (takes : S → Page → S → Type 0) (dpi : Dpi) (all : List Said) (whole : Performance) where
  -- it stopped on the way
  stopped_on : (first : Performance) (f : Situation → Performance) (s : Situation) (last : Interpreter) (old now then : S)
      (fault : JobFault) → Hands takes dpi s.pages old now → then_on first f ≡ whole → Grows f
      → GoesOn takes dpi all first s (Err fault) last now then → HandsOver takes dpi whole (Err fault) old then
  stopped_on first f s last old now then (Refused why) h e g on =
      let is : whole ≡ record { situation = first.situation; refusal = Some why } = sym e ∙ rw on.0 refl in
      rw is (refl, hands_further takes dpi s first.situation old now then h on.1)
  stopped_on first f s last old now then Memory h e g on =
      let o = then_grows first first.situation f (stays_there first.situation) g in
      rw (← e) (s.pages ++ on.0, on.1 ++ o.0, rw (o.1, on.2) (simp append_assoc), hands_append takes dpi s.pages on.0 old now then h on.3)

-- a command of a place that was reached, where no macro runs
module _ {S : Type 0} (takes : S → Page → S → Type 0) (dpi : Dpi) (end : ℕ) (all : List Said) (whole : Performance) (place : ℕ)
    (command : Said) (commands : List Said) (first : Interpreter) (old now : S)
    (r : IsReached takes dpi whole (rest_of_job dpi end all place (command ∷ commands)) first old now) where
  abbrev it : Performance
  it = next_step dpi all place command r.situation

  abbrev after_it : Situation → Performance
  after_it = rest_of_job dpi end all (place + 1) commands

  -- what it has led to, its macros aside, which are still to be performed
  abbrev HasBegun : Result (Unit {0}) JobFault → Interpreter → S → Type 0
  HasBegun result last then =
      GoesOn takes dpi all (begun_among dpi all place command first.running.items r.situation) r.situation result last now then

  it_goes : (result : Result (Unit {0}) JobFault) (last : Interpreter) (then : S) → HasBegun result last then
      → GoesOn takes dpi all it r.situation result last now then
  it_goes result last then =
      goes_to takes dpi all _ _ r.situation result last now then (begun_alone dpi all place command r.situation r.idle)

  it_and_after : then_on it after_it ≡ whole
  it_and_after = sym (rest_next dpi end all place command commands r.situation) ∙ r.same

  it_stopped : (last : Interpreter) (then : S) (fault : JobFault) → GoesOn takes dpi all it r.situation (Err fault) last now then
      → HandsOver takes dpi whole (Err fault) old then
  it_stopped last then fault =
      stopped_on takes dpi all whole it after_it r.situation last old now then fault r.handed it_and_after
      (rest_grows dpi end all (place + 1) commands)

  -- the performing of the command stopped
  pub command_stopped : (last : Interpreter) (then : S) (fault : JobFault) → HasBegun (Err fault) last then
      → HandsOver takes dpi whole (Err fault) old then
  command_stopped last then fault on = it_stopped last then fault (it_goes (Err fault) last then on)

  -- its macros, performed from there
  macros_on : (middle last : Interpreter) (then later : S) (result : Result (Unit {0}) JobFault) → HasBegun (Ok tt) middle then
      → ((s : Situation) → IsAt dpi s middle
      → GoesOn takes dpi all (resumed macro_limit dpi all middle.running.items s) s result last then later)
      → GoesOn takes dpi all it r.situation result last now later
  macros_on middle last then later result b f =
      let g = it_goes (Ok tt) middle then b in
      goes_from takes dpi all _ r.situation g.0 result last now then later g.2
      (goes_to takes dpi all _ _ g.0 result last then later g.3 (f g.0 g.1))

  pub macros_stopped : (middle last : Interpreter) (then later : S) (fault : JobFault) → HasBegun (Ok tt) middle then
      → ((s : Situation) → IsAt dpi s middle
      → GoesOn takes dpi all (resumed macro_limit dpi all middle.running.items s) s (Err fault) last then later)
      → HandsOver takes dpi whole (Err fault) old later
  macros_stopped middle last then later fault b f = it_stopped last later fault (macros_on middle last then later (Err fault) b f)

  pub macros_reached : (middle last : Interpreter) (then later : S) → HasBegun (Ok tt) middle then → ((s : Situation) → IsAt dpi s middle
      → GoesOn takes dpi all (resumed macro_limit dpi all middle.running.items s) s (Ok tt) last then later)
      → last.running.items ≡ [] → IsReached takes dpi whole after_it last old later
  macros_reached middle last then later b f idle =
      let g = macros_on middle last then later (Ok tt) b f in
      let all_done : done g.0 ≡ it = ap (λ (rs : List Running). resumed macro_limit dpi all rs g.0) (sym idle) ∙ g.3 in
      record {
        situation = g.0;
        is_at = g.1;
        idle = idle;
        handed = hands_further takes dpi r.situation g.0 old now later r.handed g.2;
        same = ap (λ (p : Performance). then_on p after_it) all_done ∙ it_and_after;
      }

-- the end of the input
pub end_reached : {S : Type 0} (takes : S → Page → S → Type 0) (dpi : Dpi) (end : ℕ) (all : List Said) (whole : Performance) (place : ℕ)
    (interpreter : Interpreter) (new : Performer) (old now then : S) (result : Result (Unit {0}) JobFault)
    → IsReached takes dpi whole (rest_of_job dpi end all place []) interpreter old now
    → ((dpi : Dpi) (s : Situation) → IsAt dpi s interpreter → InterpreterEnds takes dpi end s result new now then)
    → HandsOver takes dpi whole result old then × IsAsking whole result new
end_reached takes dpi end all whole place interpreter new old now then (Ok unit) r step =
    let s = r.situation in
    let d = step dpi s r.is_at in
    rw (← r.same, d.0) ((refl, hands_further takes dpi s (at_end dpi s) old now then r.handed d.1), d.2)
end_reached {S} takes dpi end all whole place interpreter new old now then (Err (Refused why)) r step =
    let s = r.situation in
    let d = step dpi s r.is_at in
    (rw (← r.same, d.1, d.2, d.3) (refl, r.handed), tt)
end_reached {S} takes dpi end all whole place interpreter new old now then (Err Memory) r step =
    let o = end_grows dpi end r.situation in
    (rw (← r.same, step dpi _ r.is_at) (r.situation.pages, o.0, o.1, r.handed), tt)

-- ---- pages that were kept

-- the pages of an accepted job that was performed
abbrev pub accepted_pages : {S : Type 0} {takes : S → Page → S → Type 0} {profile : Profile} {dpi : Dpi}
    {job : List ℕ} {done : Unit {0}} {old new : S}
    → IsPerformed takes profile dpi job (Ok done) old new → List Sheet
accepted_pages {profile = profile} {dpi} {job} p = pages_of (performance profile dpi (length job) p.commands)

pub has_pages : {S : Type 0} {takes : S → Page → S → Type 0} {profile : Profile} {dpi : Dpi} {job : List ℕ} {done : Unit {0}} {old new : S}
    → (p : IsPerformed takes profile dpi job (Ok done) old new) → HasPagesBy profile dpi job (accepted_pages p)
has_pages p = record { commands = p.commands; reading = p.reading; accepted = p.handed.0; ejected = refl }

show_more : {dpi : Dpi} (pages : List Page) {page : Page} (sheets : List Sheet) {sheet : Sheet} → AllShow dpi pages sheets
    → Shows dpi page sheet → AllShow dpi (pages ++ page ∷ []) (sheets ++ sheet ∷ [])
show_more [] [] a s = (s, tt)
show_more (first ∷ pages) (one ∷ sheets) a s = (a.0, show_more pages sheets a.1 s)
show_more pages sheets a s = absurd a

-- a copy shows what the page shows
copy_shows : {dpi : Dpi} {page copy : Page} {sheet : Sheet} → Shows dpi page sheet → IsSamePage page copy → Shows dpi copy sheet
copy_shows s c = search (rules, c.bitmap)

-- what a sink does that keeps copies
abbrev pub KeepsCopy : List Page → Page → List Page → Type 0
KeepsCopy old page new = (copy : Page) × (new ≡ old ++ copy ∷ []) × IsSamePage page copy

pub all_shown : (dpi : Dpi) {front old : List Page} (new : List Page) (before sheets : List Sheet) → old ≡ front → AllShow dpi front before
    → Hands KeepsCopy dpi sheets old new → AllShow dpi new (before ++ sheets)
all_shown dpi new before [] e s h = rw (append-nil, h, e) s
all_shown dpi {front} new before (sheet ∷ sheets) e s h =
    rw (append_assoc before (sheet ∷ []) sheets) at
    (all_shown dpi new _ sheets (rw e at h.3.1) (show_more front before s (copy_shows h.2 h.3.2)) h.4)
