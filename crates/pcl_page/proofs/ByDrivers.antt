-- What the stated profile accepts, performed by the drivers' profile.
use Rattle.std.proofs.Common.{◌≡◌, ℕ, zero, suc, ◌+◌, Bool, true, false, ◌||◌, if◌then◌else◌, List, [], ◌∷◌, length, Option, Some, None, Result, Ok, Err, refl, ap, ◌∙◌, arith, is_some}
use Rattle.pcl_base.specs.declared.operation.Operation.TheVariants as operations
use Rattle.pcl_base.specs.declared.kind.Kind.TheVariants.{FontHeader, CharacterData}
use Rattle.pcl_fonts.specs.declared.header.FontInfo.{FontInfo}
use Rattle.pcl_fonts.specs.Fields.{has_format, is_plain, info_of}
use Rattle.pcl_fonts.specs.History.{has_permanent as is_font_permanent}
use Rattle.pcl_macros.specs.History.{has_permanent as is_macro_permanent}
use Rattle.pcl_page.specs.Text.{header_refusal, character_refusal}
use Rattle.pcl_page.specs.Situation.{after, blank_passed, blanks_passed, text_in}
use Rattle.pcl_page.proofs.Names.{Dpi, Kind, MacroOpen, Asking, SheetSide, Operation, ControlMacros, DownloadCharacter, DownloadFont, PrintText, Stated, Drivers, Refusal, Value, macro_limit, operation_of, option_map, Effect, EjectMarked, Settings, defaults, font_in_use, Outcome, Said, Character, Font, font_after, Action, Keeping, Raster, ends_raster, prints, Situation, at_start, settings_below, end_raster, turned, turned_by, taken, code_printed, codes_printed, font_now, put_back, asked_for, drawn, drawn_on, draw_refusal, unless_refused, ◌|>◌, is_ignored, prepared, counted_in_limit, page_refusal, within_page_limit, after_checked, with_lasting, at_end, Run, action_of, acted, lasting_by, after_macros, after_counted, defining, keeping_of, after_command, run_by, run_from, run_of, macro_ended, Performance, done, unless, then_on, in_order, led_to, and_run, step, commands_left, runs, end_refusal, ended, after_end, performance}
use Rattle.pcl_page.proofs.Profiles.{IsStated, set_by_drivers, AreSetAlike, AreTakenAlike, outcome_alike}

-- ---- situations by both profiles

-- the same situation by the drivers' profile
abbrev pub by_drivers : Situation → Situation
by_drivers s = record s { settings = set_by_drivers s.settings }

-- a situation by the stated profile, and that by the drivers', which is the same
abbrev StandAlike : Situation → Situation → Type 0
StandAlike s other = (other ≡ by_drivers s) × IsStated s.settings

-- what the stated profile doesn't refuse leads to the same by the drivers'
abbrev AreLedAlike : Result Situation Kind → Result Situation Kind → Type 0
AreLedAlike (Err kind) other = Unit {0}
AreLedAlike (Ok s) (Err kind) = ⊥
AreLedAlike (Ok s) (Ok other) = StandAlike s other

-- the same from each situation by the stated profile
abbrev LeadsAlike : (Situation → Result Situation Kind) → Type 0
LeadsAlike next = (s : Situation) → IsStated s.settings → AreLedAlike (next s) (next (by_drivers s))

led_on : (one other : Result Situation Kind) (next : Situation → Result Situation Kind) → AreLedAlike one other → LeadsAlike next
    → AreLedAlike (one |> next) (other |> next)
led_on (Err kind) other next alike leads = tt
led_on (Ok s) (Err kind) next alike leads = absurd alike
led_on (Ok s) (Ok other) next alike leads = rw alike.0 (leads s alike.1)

-- ---- what a command sets

below_alike : (dpi : Dpi) (raster : Option Raster) (s : Settings) → IsStated s
    → AreSetAlike (settings_below dpi raster s) (settings_below dpi raster (set_by_drivers s))
below_alike dpi None s stated = (refl, stated)
below_alike dpi (Some r) s stated = (refl, stated)

raster_end_alike : (dpi : Dpi) (s : Situation) → IsStated s.settings → StandAlike (end_raster dpi s) (end_raster dpi (by_drivers s))
raster_end_alike dpi s stated =
    let below = below_alike dpi s.raster s.settings stated in
    (ap (λ (settings : Settings). record s { settings = settings; raster = None }) below.0, below.1)

prepared_alike : (dpi : Dpi) (operation : Operation) (s : Situation) → IsStated s.settings
    → StandAlike (prepared dpi operation s) (prepared dpi operation (by_drivers s))
prepared_alike dpi operation s stated = by_test (ends_raster operation)
  where
    by_test : (test : Bool)
        → StandAlike (if test then end_raster dpi s else s) (if test then end_raster dpi (by_drivers s) else by_drivers s)
    by_test true = raster_end_alike dpi s stated
    by_test false = (refl, stated)

turned_alike : (settings : Settings) (done : Effect) (s : Situation) → IsStated settings
    → StandAlike (turned settings done s) (turned (set_by_drivers settings) done (by_drivers s))
turned_alike settings done s stated = grind (arith, stated)

taken_alike : (dpi : Dpi) (operation : Operation) (value : Value) → LeadsAlike (taken dpi operation value)
taken_alike dpi operation value s stated = by_outcome _ _ (outcome_alike dpi operation value _ s.settings stated)
  where
    by_outcome : (one other : Outcome) → AreTakenAlike one other → AreLedAlike (turned_by one s) (turned_by other (by_drivers s))
    by_outcome None other alike = tt
    by_outcome (Some done) None alike = absurd alike
    by_outcome (Some done) (Some other) alike = rw (alike.0.0, alike.1) (turned_alike done.0 done.1 s alike.0.1)

-- ---- what a command draws

blank_alike : (code : ℕ) (s : Situation) → IsStated s.settings → StandAlike (blank_passed code s) (blank_passed code (by_drivers s))
blank_alike code s stated = grind (arith, stated)

blanks_alike : (codes : List ℕ) (s : Situation) → IsStated s.settings
    → StandAlike (blanks_passed codes s) (blanks_passed codes (by_drivers s))
blanks_alike [] s stated = (refl, stated)
blanks_alike (code ∷ codes) s stated = let one = blank_alike code s stated in rw one.0 (blanks_alike codes _ one.1)

code_alike : (dpi : Dpi) (font : FontInfo) (character : Option Character) (code : ℕ) (s : Situation) → IsStated s.settings
    → StandAlike (code_printed dpi font character code s) (code_printed dpi font character code (by_drivers s))
code_alike dpi font None code s stated = blank_alike code s stated
code_alike dpi font (Some c) code s stated = grind (arith, stated)

codes_alike : (dpi : Dpi) (font : FontInfo) (characters : ℕ → Option Character) (codes : List ℕ) (s : Situation) → IsStated s.settings
    → StandAlike (codes_printed dpi font characters codes s) (codes_printed dpi font characters codes (by_drivers s))
codes_alike dpi font characters [] s stated = (refl, stated)
codes_alike dpi font characters (code ∷ codes) s stated =
    let one = code_alike dpi font (characters code) code s stated in
    rw one.0 (codes_alike dpi font characters codes _ one.1)

font_alike : (s : Settings) → font_in_use (set_by_drivers s) ≡ font_in_use s
font_alike s = grind arith

asked_for_alike : (what : Asking) (value : Value) (s : Situation) → IsStated s.settings
    → StandAlike (asked_for what value s) (asked_for what value (by_drivers s))
asked_for_alike SheetSide value s stated = (refl, stated)
asked_for_alike other value s stated = (refl, stated)

printed_alike : (dpi : Dpi) (codes : List ℕ) (font : Option FontInfo) (s : Situation) → IsStated s.settings
    → StandAlike (text_in dpi codes font s) (text_in dpi codes font (by_drivers s))
printed_alike dpi codes None s stated = blanks_alike codes s stated
printed_alike dpi codes (Some font) s stated =
    rw (font_alike s.settings) (codes_alike dpi font (prints s.fonts (font_in_use s.settings)) codes s stated)

drawn_alike : (dpi : Dpi) (operation : Operation) (command : Said) (s : Situation) → IsStated s.settings
    → StandAlike (drawn dpi operation command s) (drawn dpi operation command (by_drivers s))
drawn_alike dpi (operations.Ask what) command s stated = asked_for_alike what command.value s stated
drawn_alike dpi PrintText command s stated =
    rw (font_alike s.settings) (printed_alike dpi command.bytes (info_of (font_now s)) s stated)
drawn_alike dpi other command s stated = grind (arith, stated)

either_alike : (kind : Kind) (one two : Bool) → (if one then None else Some kind) ≡ None → (if one || two then None else Some kind) ≡ None
either_alike kind true two e = refl
either_alike kind false two e = absurd cc

-- a header that the stated profile takes, the drivers' takes
header_alike : (dpi : Dpi) (bytes : List ℕ) → header_refusal Stated dpi bytes ≡ None → header_refusal Drivers dpi bytes ≡ None
header_alike dpi [] e = refl
header_alike dpi (byte ∷ bytes) e = either_alike FontHeader (has_format 0 64 (byte ∷ bytes)) _ e

-- and a character
character_alike : (bytes : List ℕ) (font : Option Font) → character_refusal Stated bytes font ≡ None
    → character_refusal Drivers bytes font ≡ None
character_alike [] font e = refl
character_alike (byte ∷ bytes) None e = refl
character_alike (byte ∷ bytes) (Some font) e = either_alike CharacterData (is_plain (byte ∷ bytes)) _ e

draw_refusal_alike : (dpi : Dpi) (operation : Operation) (command : Said) (s : Situation) → IsStated s.settings
    → draw_refusal dpi operation command s ≡ None → draw_refusal dpi operation command (by_drivers s) ≡ None
draw_refusal_alike dpi PrintText command s stated e = rw (font_alike s.settings) e
draw_refusal_alike dpi DownloadFont command s stated e = header_alike dpi command.bytes (rw stated.0 at e)
draw_refusal_alike dpi DownloadCharacter command s stated e =
    character_alike command.bytes (font_after s.fonts s.settings.font_id) (rw stated.0 at e)
draw_refusal_alike dpi other command s stated e = e

drawn_on_alike : (dpi : Dpi) (operation : Operation) (command : Said) → LeadsAlike (drawn_on dpi operation command)
drawn_on_alike dpi operation command s stated = by_refusal (draw_refusal dpi operation command s) refl
  where
    by_refusal : (why : Option Kind) → draw_refusal dpi operation command s ≡ why
        → AreLedAlike (unless_refused why (drawn dpi operation command s)) (drawn_on dpi operation command (by_drivers s))
    by_refusal None e = rw (draw_refusal_alike dpi operation command s stated e) (drawn_alike dpi operation command s stated)
    by_refusal (Some kind) e = tt

-- ---- one command

after_alike : (dpi : Dpi) (operation : Operation) (command : Said) → LeadsAlike (after dpi (Some operation) command)
unfolding after
after_alike dpi operation command s stated = by_test (is_ignored operation s)
  where
    by_test : (test : Bool) → AreLedAlike
        (if test then Ok s else (taken dpi operation command.value (prepared dpi operation s) |> drawn_on dpi operation command))
        (if test then Ok (by_drivers s)
        else (taken dpi operation command.value (prepared dpi operation (by_drivers s)) |> drawn_on dpi operation command))
    by_test true = (refl, stated)
    by_test false =
        let prepares = prepared_alike dpi operation s stated in
        rw prepares.0 (led_on _ _ (drawn_on dpi operation command)
        (taken_alike dpi operation command.value (prepared dpi operation s) prepares.1) (drawn_on_alike dpi operation command))

named_alike : (dpi : Dpi) (operation : Option Operation) (command : Said) → LeadsAlike (after dpi operation command)
unfolding after
named_alike dpi None command s stated = tt
named_alike dpi (Some operation) command s stated = after_alike dpi operation command s stated

counted_alike : LeadsAlike counted_in_limit
counted_alike s stated = grind (arith, stated)

page_limit_alike : LeadsAlike within_page_limit
page_limit_alike s stated = grind (arith, stated)

checked_alike : (dpi : Dpi) (command : Said) → LeadsAlike (after_checked dpi command)
checked_alike dpi command s stated =
    led_on _ _ within_page_limit (led_on _ _ (after dpi (operation_of command.name) command) (counted_alike s stated)
    (named_alike dpi (operation_of command.name) command)) page_limit_alike

-- ---- macros

acted_alike : (place : ℕ) (action : Option Action) → LeadsAlike (acted place action)
acted_alike place action s stated = grind (arith, stated)

lasting_alike : (action : Option Action) (s : Situation) → IsStated s.settings
    → StandAlike (lasting_by action s) (lasting_by action (by_drivers s))
lasting_alike action s stated = grind (arith, stated)

after_macros_alike : (place : ℕ) (operation : Option Operation) (value : Value) → LeadsAlike (after_macros place operation value)
after_macros_alike place (Some ControlMacros) value s stated =
    let lasting = lasting_alike (action_of value) s stated in
    rw lasting.0 (acted_alike place (action_of value) _ lasting.1)
after_macros_alike place other value s stated = (refl, stated)

after_counted_alike : (dpi : Dpi) (place : ℕ) (command : Said) → LeadsAlike (after_counted dpi place command)
after_counted_alike dpi place command s stated =
    led_on _ _ (after_macros place (operation_of command.name) command.value) (checked_alike dpi command s stated)
    (after_macros_alike place (operation_of command.name) command.value)

defining_alike : (dpi : Dpi) (place : ℕ) (keeping : Keeping) (command : Said) → LeadsAlike (defining dpi place keeping command)
defining_alike dpi place keeping command s stated = grind (arith, stated, after_counted_alike dpi place command s stated)

command_alike : (dpi : Dpi) (place : ℕ) (command : Said) → LeadsAlike (after_command dpi place command)
command_alike dpi place command s stated = by_test (is_some s.begun) (keeping_of (operation_of command.name) command.value)
  where
    by_test : (test : Bool) (keeping : Keeping)
        → AreLedAlike (if test then defining dpi place keeping command s else after_counted dpi place command s)
        (if test then defining dpi place keeping command (by_drivers s) else after_counted dpi place command (by_drivers s))
    by_test true keeping = defining_alike dpi place keeping command s stated
    by_test false keeping = after_counted_alike dpi place command s stated

-- ---- macros that run

-- the same macro that runs, by the drivers' profile
abbrev run_by_drivers : Run → Run
run_by_drivers run = record run { saved = option_map set_by_drivers run.saved }

-- what is set again at its end, if anything, was set by the stated profile
abbrev IsSavedStated : Option Settings → Type 0
IsSavedStated None = Unit {0}
IsSavedStated (Some saved) = IsStated saved

-- by both profiles the same macro runs, or none
abbrev AreRunAlike : Option Run → Option Run → Type 0
AreRunAlike None None = Unit {0}
AreRunAlike (Some run) (Some other) = (other ≡ run_by_drivers run) × IsSavedStated run.saved
AreRunAlike one other = ⊥

run_alike : (command : Said) (s later : Situation) → IsStated later.settings
    → AreRunAlike (run_of command s later) (run_of command (by_drivers s) (by_drivers later))
run_alike command s later stated = by_test (is_some s.begun) (operation_of command.name)
  where
    by_action : (action : Option Action) → AreRunAlike (run_by action later) (run_by action (by_drivers later))
    by_action action = grind (arith, stated)

    by_test : (test : Bool) (operation : Option Operation) → AreRunAlike (if test then None else run_from operation command.value later)
        (if test then None else run_from operation command.value (by_drivers later))
    by_test true operation = tt
    by_test false (Some ControlMacros) = by_action (action_of command.value)
    by_test false other = tt

macro_end_alike : (dpi : Dpi) (saved : Option Settings) (s : Situation) → IsSavedStated saved → IsStated s.settings
    → StandAlike (macro_ended dpi saved s) (macro_ended dpi (option_map set_by_drivers saved) (by_drivers s))
macro_end_alike dpi None s is_saved stated = (refl, stated)
macro_end_alike dpi (Some saved) s is_saved stated =
    let below = below_alike dpi s.raster s.settings stated in grind (arith, is_saved, below)

-- ---- commands in order

-- where the stated profile refuses nothing, performing ends with the same by the drivers'
abbrev EndsAlike : Option Refusal → Situation → Performance → Type 0
EndsAlike None s other = (other ≡ done (by_drivers s)) × IsStated s.settings
EndsAlike (Some why) s other = Unit {0}

abbrev ArePerformedAlike : Performance → Performance → Type 0
ArePerformedAlike one other = EndsAlike one.refusal one.situation other

-- the same from each situation by the stated profile
abbrev PerformsAlike : (Situation → Performance) → (Situation → Performance) → Type 0
PerformsAlike next other = (s : Situation) → IsStated s.settings → ArePerformedAlike (next s) (other (by_drivers s))

performed_on : (one other : Performance) (next further : Situation → Performance) → ArePerformedAlike one other → PerformsAlike next further
    → ArePerformedAlike (then_on one next) (then_on other further)
performed_on one other next further alike performs = by_refusal one.refusal alike
  where
    by_refusal : (why : Option Refusal) → EndsAlike why one.situation other
        → ArePerformedAlike (unless why one.situation next) (then_on other further)
    by_refusal None alike = rw alike.0 (performs one.situation alike.1)
    by_refusal (Some why) alike = tt

in_order_alike : (perform : ℕ → Said → Situation → Performance)
    → ((place : ℕ) (command : Said) → PerformsAlike (perform place command) (perform place command)) → (place : ℕ) (commands : List Said)
    → PerformsAlike (in_order perform place commands) (in_order perform place commands)
in_order_alike perform performs place [] s stated = (refl, stated)
in_order_alike perform performs place (command ∷ commands) s stated =
    let rest = in_order perform (place + 1) commands in
    performed_on _ _ rest rest (performs place command s stated) (in_order_alike perform performs (place + 1) commands)

-- running a macro does the same by both profiles
abbrev MacrosRunAlike : (Said → Run → Situation → Performance) → Type 0
MacrosRunAlike running = (command : Said) (run : Run) → IsSavedStated run.saved
    → PerformsAlike (running command run) (running command (run_by_drivers run))

module _ (dpi : Dpi) (running : Said → Run → Situation → Performance) (macros_alike : MacrosRunAlike running) where
  and_run_alike : (command : Said) (one other : Option Run) (s : Situation) → AreRunAlike one other → IsStated s.settings
      → ArePerformedAlike (and_run (running command) one s) (and_run (running command) other (by_drivers s))
  and_run_alike command None None s alike stated = (refl, stated)
  and_run_alike command (Some run) (Some other) s alike stated = rw alike.0 (macros_alike command run alike.1 s stated)
  and_run_alike command one other s alike stated = absurd alike

  led_to_alike : (command : Said) (s : Situation) (one other : Result Situation Kind) → AreLedAlike one other
      → ArePerformedAlike (led_to command s one) (led_to command (by_drivers s) other)
  led_to_alike command s (Err kind) other alike = tt
  led_to_alike command s (Ok later) (Err kind) alike = absurd alike
  led_to_alike command s (Ok later) (Ok other) alike = (ap done alike.0, alike.1)

  step_alike : (place : ℕ) (command : Said) → PerformsAlike (step dpi running place command) (step dpi running place command)
  step_alike place command s stated =
      performed_on _ _ (λ later. and_run (running command) (run_of command s later) later)
      (λ later. and_run (running command) (run_of command (by_drivers s) later) later)
      (led_to_alike command s _ _ (command_alike dpi place command s stated))
      (λ later stays. and_run_alike command _ _ later (run_alike command s later stays) stays)

macros_alike : (levels : ℕ) (dpi : Dpi) (all : List Said) → MacrosRunAlike (runs levels dpi all)
macros_alike zero dpi all command run is_saved s stated = tt
macros_alike (suc levels) dpi all command run is_saved s stated =
    let steps = step_alike dpi (runs levels dpi all) (macros_alike levels dpi all) in
    performed_on _ _ (λ later. done (macro_ended dpi run.saved later))
    (λ later. done (macro_ended dpi (option_map set_by_drivers run.saved) later))
    (in_order_alike (step dpi (runs levels dpi all)) steps run.next (commands_left all run) s stated)
    (λ later stays. let end = macro_end_alike dpi run.saved later is_saved stays in (ap done end.0, end.1))

-- ---- jobs

at_end_alike : (dpi : Dpi) (s : Situation) → IsStated s.settings → StandAlike (at_end dpi s) (at_end dpi (by_drivers s))
at_end_alike dpi s stated =
    let raster = raster_end_alike dpi s stated in
    let turns = turned_alike (defaults s.settings.profile) EjectMarked (end_raster dpi s) (stated.0, refl, refl) in
    let ends = λ (t : Situation). put_back (with_lasting (is_macro_permanent s.macros) (with_lasting (is_font_permanent s.fonts) t)) in
    (ap (λ (t : Situation). ends (turned (defaults Drivers) EjectMarked t)) raster.0 ∙ ap ends turns.0, turns.1)

after_end_alike : (dpi : Dpi) (end : ℕ) → PerformsAlike (after_end dpi end) (after_end dpi end)
after_end_alike dpi end s stated = rw same_refusal (by_refusal (end_refusal dpi s))
  where
    ends : StandAlike (at_end dpi s) (at_end dpi (by_drivers s))
    ends = at_end_alike dpi s stated

    same_refusal : end_refusal dpi (by_drivers s) ≡ end_refusal dpi s
    same_refusal = ap (λ (last : Situation). if is_some s.begun then Some MacroOpen else page_refusal last) ends.0

    by_refusal : (why : Option Kind) → ArePerformedAlike (ended dpi end why s) (ended dpi end why (by_drivers s))
    by_refusal None = (ap done ends.0, ends.1)
    by_refusal (Some kind) = tt

commands_alike : (dpi : Dpi) (end : ℕ) (commands : List Said)
    → ArePerformedAlike (performance Stated dpi end commands) (performance Drivers dpi end commands)
commands_alike dpi end commands =
    let steps = step_alike dpi (runs macro_limit dpi commands) (macros_alike macro_limit dpi commands) in
    performed_on _ _ (after_end dpi end) (after_end dpi end)
    (in_order_alike (step dpi (runs macro_limit dpi commands)) steps 0 commands (at_start Stated) (refl, refl, refl))
    (after_end_alike dpi end)

-- commands of a job that the stated profile accepts, by the drivers' profile
pub performance_alike : (dpi : Dpi) (job : List ℕ) (commands : List Said) → (performance Stated dpi (length job) commands).refusal ≡ None
    → performance Drivers dpi (length job) commands ≡ done (by_drivers (performance Stated dpi (length job) commands).situation)
performance_alike dpi job commands accepted = by_refusal _ accepted (commands_alike dpi (length job) commands)
  where
    by_refusal : (why : Option Refusal) → why ≡ None
        → EndsAlike why (performance Stated dpi (length job) commands).situation (performance Drivers dpi (length job) commands)
        → performance Drivers dpi (length job) commands ≡ done (by_drivers (performance Stated dpi (length job) commands).situation)
    by_refusal None e alike = alike.0
    by_refusal (Some why) e alike = absurd (cc e)
