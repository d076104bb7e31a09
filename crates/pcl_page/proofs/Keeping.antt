-- What a command leaves alone.
use Rattle.std.proofs.Common.{◌≡◌, ℕ, ◌<◌, Bool, true, false, cond, nat_le, List, [], ◌∷◌, Option, Some, None, Result, Ok, Err, refl, length-append, arith, rules}
use Rattle.pcl_page.proofs.Names.{nat_tests, Dpi, Kind, TooManyCommands, Operation, PrintText, command_limit, operation_of, Character, Said, Effect, EjectMarked, Settings, defaults, font_in_use, Outcome, outcome, FontInfo, info_of, prints, ends_raster, after_checked, drawn_on}
use Rattle.pcl_page.specs.Situation.{Situation, font_now, blank_passed, code_printed, codes_printed, blanks_passed, text_in, draw_refusal, unless_refused, ◌|>◌, end_raster, is_marked, ejects, sheet_of, turned_page, turned, turned_by, drawn, taken, counted, counted_in_limit, prepared, is_ignored, after, page_refusal, within_page_limit, at_end}
use Rattle.pcl_page.proofs.Sinks.{Onward, stays_there}
use Rattle.pcl_page.proofs.Turns.{prepared_page}

-- neither pages nor counts, nor what is there of macros, change where something is drawn
pub record KeepsCounts (s other : Situation) : Type 0 where
  pub pages : other.pages ≡ s.pages
  pub performed : other.performed ≡ s.performed
  pub macros : other.macros ≡ s.macros
  pub begun : other.begun ≡ s.begun
  pub asked : other.asks.pages ≡ s.asks.pages

code_keeps : (dpi : Dpi) (font : FontInfo) (c : Option Character) (code : ℕ) {s : Situation}
    → KeepsCounts s (code_printed dpi font c code s)
code_keeps dpi font c code = grind arith

codes_keep : (dpi : Dpi) (font : FontInfo) (characters : ℕ → Option Character) (codes : List ℕ) {s : Situation}
    → KeepsCounts s (codes_printed dpi font characters codes s)
codes_keep dpi font characters [] = search rules
codes_keep dpi font characters (code ∷ codes) {s} =
    let one = code_keeps dpi font (characters code) code {s = s} in
    let more = codes_keep dpi font characters codes {s = code_printed dpi font (characters code) code s} in
    record { pages = cc; performed = cc; macros = cc; begun = cc; asked = cc }

blanks_keep : (codes : List ℕ) {s : Situation} → KeepsCounts s (blanks_passed codes s)
blanks_keep [] = search rules
blanks_keep (code ∷ codes) {s} =
    let more = blanks_keep codes {s = blank_passed code s} in
    record { pages = cc; performed = cc; macros = cc; begun = cc; asked = cc }

text_keeps : (dpi : Dpi) (codes : List ℕ) (font : Option FontInfo) {s : Situation} → KeepsCounts s (text_in dpi codes font s)
text_keeps dpi codes None = blanks_keep codes
text_keeps dpi codes (Some font) {s} = codes_keep dpi font (prints s.fonts (font_in_use s.settings)) codes

pub drawn_keeps : (dpi : Dpi) (operation : Operation) (command : Said) {s : Situation} → KeepsCounts s (drawn dpi operation command s)
drawn_keeps dpi PrintText command {s} = text_keeps dpi command.bytes (info_of (font_now s))
drawn_keeps dpi other command = grind arith

-- ---- pages that are added

-- pages are only added, and neither counts nor what is there of macros change
pub record Adds (s later : Situation) : Type 0 where
  pub onward : Onward s later
  pub performed : later.performed ≡ s.performed
  pub macros : later.macros ≡ s.macros
  pub begun : later.begun ≡ s.begun

adds_none : {s later : Situation} → later ≡ s → Adds s later
adds_none {s} e = rw e (record { onward = stays_there s; performed = refl; macros = refl; begun = refl })

adds_turned : (settings : Settings) (effect : Effect) (s : Situation) (test : Bool) → ejects effect (is_marked s) ≡ test
    → Adds s (turned settings effect s)
adds_turned settings effect s true e =
    let one_more : Onward s (turned_page settings s) =
    (sheet_of s ∷ [], refl, omega (arith, length-append s.asks.pages (record { said = s.settings.asked; start = s.asks.next } ∷ []))) in
    rw e (record { onward = one_more; performed = refl; macros = refl; begun = refl })
adds_turned settings effect s false e = rw e (record { onward = stays_there s; performed = refl; macros = refl; begun = refl })

-- ---- a command, in the order of its checks

-- what follows an outcome follows a situation
pub then_from : (o : Result Situation Kind) (next : Situation → Result Situation Kind) {later : Situation} → (o |> next) ≡ Ok later
    → (now : Situation) × (o ≡ Ok now) × (next now ≡ Ok later)
then_from (Ok now) next e = (now, refl, e)
then_from (Err kind) next e = absurd cc

pub unless_from : (why : Option Kind) {s later : Situation} → unless_refused why s ≡ Ok later → later ≡ s
unless_from why e = grind arith

adds_drawn : (dpi : Dpi) (operation : Operation) (command : Said) {s now later : Situation} → Adds s now
    → drawn_on dpi operation command now ≡ Ok later → Adds s later
adds_drawn dpi operation command {s} {now} t e =
    let k = drawn_keeps dpi operation command {s = now} in
    rw (unless_from (draw_refusal dpi operation command now) e)
    (record { onward = (t.onward.0, cc, cc); performed = cc; macros = cc; begun = cc })

adds_taken : (o : Outcome) {s later : Situation} → turned_by o s ≡ Ok later → Adds s later
adds_taken None e = absurd cc
adds_taken (Some done) {s} {later} e =
    let same : turned done.0 done.1 s ≡ later = cc in
    rw (← same) (adds_turned done.0 done.1 s (ejects done.1 (is_marked s)) refl)

adds_prepared : (dpi : Dpi) (ends : Bool) (s later : Situation) → Adds (cond ends (end_raster dpi s) s) later → Adds s later
adds_prepared dpi ends s later a =
    let k = prepared_page dpi ends s in
    record { onward = (a.onward.0, cc, cc); performed = cc; macros = cc; begun = cc }

-- a command that isn't refused adds pages, and does nothing to macros
pub after_adds : (dpi : Dpi) (operation : Operation) (command : Said) (s : Situation) {later : Situation}
    → after dpi (Some operation) command s ≡ Ok later → Adds s later
unfolding after
after_adds dpi operation command s {later} e =
    let before = prepared dpi operation s in
    let on = taken dpi operation command.value before in
    elim (is_ignored operation s) as (λ ignored. cond ignored (Ok s) (on |> drawn_on dpi operation command) ≡ Ok later → Adds s later) [
      | true ↦ λ same. adds_none cc
      | false ↦ λ is.
          let t = then_from on (drawn_on dpi operation command) is in
          adds_prepared dpi (ends_raster operation) s later (adds_drawn dpi operation command
          (adds_taken (outcome dpi operation command.value (is_marked before) before.settings) t.1) t.2)
    ] e

adds_named : (dpi : Dpi) (operation : Option Operation) (command : Said) (s : Situation) {later : Situation}
    → after dpi operation command s ≡ Ok later → Adds s later
unfolding after
adds_named dpi None command s e = absurd cc
adds_named dpi (Some operation) command s e = after_adds dpi operation command s e

limit_from : (past : Bool) {s later : Situation} → nat_le command_limit s.performed ≡ past
    → cond past (Err TooManyCommands) (Ok (counted s)) ≡ Ok later → (later ≡ counted s) × (s.performed < command_limit)
limit_from past p e = grind (arith, nat_tests)

-- a command that counts, and isn't refused
pub record IsCounted (dpi : Dpi) (command : Said) (s later : Situation) : Type 0 where
  pub few : s.performed < command_limit
  pub after_is : after dpi (operation_of command.name) command (counted s) ≡ Ok later
  pub adds : Adds (counted s) later

pub is_counted : (dpi : Dpi) (command : Said) (s : Situation) {later : Situation} → after_checked dpi command s ≡ Ok later
    → IsCounted dpi command s later
is_counted dpi command s {later} e =
    let named = after dpi (operation_of command.name) command in
    let p = then_from (counted_in_limit s |> named) within_page_limit e in
    let c = then_from (counted_in_limit s) named p.1 in
    let one = limit_from (nat_le command_limit s.performed) refl c.1 in
    let is : named (counted s) ≡ Ok later = cc (one.0, c.2, unless_from (page_refusal p.0) p.2) in
    record { few = one.1; after_is = is; adds = adds_named dpi (operation_of command.name) command (counted s) is }

-- the end of the input
pub end_adds : (dpi : Dpi) (s : Situation) → Onward s (at_end dpi s)
end_adds dpi s = (adds_turned (defaults s.settings.profile) EjectMarked (end_raster dpi s)
    (ejects EjectMarked (is_marked (end_raster dpi s))) refl).onward
