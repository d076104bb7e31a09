-- Whole jobs of page texts are accepted, and mean the pages of the texts.
use Rattle.std.proofs.Common.{◌≡◌, ℕ, ◌+◌, ◌*◌, ◌<◌, ◌≤◌, true, List, [], ◌∷◌, ◌++◌, length, map, Option, None, refl, sym, ap, subst, ◌∙◌, append_assoc, append-nil, length-append, arith, lit≤, false}
use Rattle.pcl_meaning.proofs.Names.{flat_map, nat_tests, Dpi, Profile, Stated, Size, Refusal, macro_limit, command_limit, page_limit, page_width, page_height, page_row_bytes, height_small, commands_of, IsReading, Settings, defaults, Page, Temporary, control, pages_fit, Mark, is_black, Sheet, Situation, at_start, at_end, Shows, Performance, done, unless, then_on, runs, after_all, end_refusal, after_end, pages_of, asks_among, HasPagesBy, HasAsksBy, performance, Token, command_count, token_bytes, start_bytes, end_bytes, frame_bytes, IsPageText, bitmap_rows, IsWrittenPage, AreAlike, AllAlike, PrintEach, most_commands, of_job, said_for, page_said, later_said, first_page, PageStart, dot_of_rows, job_of, MeansRows}
use Rattle.pcl_env.specs.Outcome.{outcome}
use Rattle.pcl_macros.specs.declared.table.MacroControl.TheVariants as macros
use Rattle.pcl_macros.specs.History.{control as macro_control}
use Rattle.pcl_page.specs.Situation.{after}
use Rattle.pcl_meaning.proofs.Deeds.{Deed}
use Rattle.pcl_meaning.proofs.Readings.{ReadsAs, reads_joined, reads_none, said_many}
use Rattle.pcl_meaning.proofs.Sequences.{token_deeds, body_deeds, reset, tokens_read, start_read, end_read, frame_read}
use Rattle.pcl_meaning.proofs.Following.{AreLeading, stay, lead, leading_append, commands_done}
use Rattle.pcl_meaning.proofs.Dots.{page_dot}
use Rattle.pcl_meaning.proofs.Printing.{IsBetween, begins_between, reset_fonts, reset_macros, between, text_deeds, text_taken}

-- ---- a page text

-- what stands in a text
pub text_read : {dpi : Dpi} {size : Size} {copies : ℕ} {rows : List (List ℕ)} {text : List ℕ}
    (printed : IsPageText dpi size copies rows text) → ReadsAs text (text_deeds dpi size copies printed.tokens)
text_read {dpi} {size} {copies} {rows} printed =
    let few : length rows ≤ 65535 = omega (arith, printed.count, height_small size dpi) in
    let small : copies ≤ 65535 = omega (arith, printed.few_copies) in
    subst (λ (bytes : List ℕ). ReadsAs bytes (text_deeds dpi size copies printed.tokens))
    (sym (printed.spelled ∙ append_assoc (start_bytes dpi copies size) (flat_map token_bytes printed.tokens) end_bytes))
    (reads_joined (start_read dpi size small) (reads_joined (tokens_read false printed.tokens _ _ rows printed.prints few) end_read))

body_counted : (tokens : List Token) → length (body_deeds tokens) ≡ command_count tokens
body_counted [] = refl
body_counted (token ∷ tokens) = grind (arith, length-append (token_deeds token) (body_deeds tokens), body_counted tokens)

text_counted : (dpi : Dpi) (size : Size) (copies : ℕ) (tokens : List Token)
    → length (text_deeds dpi size copies tokens) ≡ command_count tokens + 10
text_counted dpi size copies tokens = omega (arith, body_counted tokens, length-append {A = Deed})

-- ---- between two resets

-- after the second reset, which deletes the temporary fonts and macros too
abbrev closed : Profile → List Sheet → ℕ → Situation
closed profile pages n =
    record (between (defaults profile) pages n) {
      fonts = control Temporary 0 0 ∷ reset_fonts;
      macros = macro_control macros.Temporary 0 ∷ reset_macros;
      asks = record (said_for pages) { is_reset = true };
    }

-- the end of the input changes nothing after a reset
ended_there : (profile : Profile) (dpi : Dpi) (end : ℕ) {pages : List Sheet} {n : ℕ} → length pages ≤ page_limit
    → after_end dpi end (closed profile pages n) ≡ done (at_end dpi (closed profile pages n))
ended_there profile dpi end {pages} {n} few = rw (pages_fit (at_end dpi (closed profile pages n)) few) refl

-- the job is accepted with these pages, asks for what its texts say, and is read as this many commands
pub record IsAccepted (profile : Profile) (dpi : Dpi) (job : List ℕ) (pages : List Sheet) (count : ℕ) : Type 0 where
  pub meaning : HasPagesBy profile dpi job pages
  pub asks : HasAsksBy profile dpi job (said_for pages)
  pub counted : length meaning.commands ≡ count

-- bytes that are read as deeds that eject these pages
pub job_accepted : {profile : Profile} {dpi : Dpi} {text : List ℕ} {deeds : List Deed} (t : Settings) {pages : List Sheet} (n : ℕ)
    → ReadsAs text deeds → AreLeading dpi deeds (between (defaults profile) [] 1) (between t pages n) → length pages ≤ page_limit
    → length deeds ≤ 99999998 → IsAccepted profile dpi (frame_bytes ++ text ++ frame_bytes) pages (length deeds + 2)
unfolding after outcome
job_accepted {profile} {dpi} {text} {deeds} t {pages} n read leads fits few =
    let all = reset ∷ (deeds ++ reset ∷ []) in
    let job = frame_bytes ++ text ++ frame_bytes in
    let r = reads_joined frame_read (reads_joined read frame_read) in
    let commands = commands_of 0 r.pieces in
    let first = between (defaults profile) [] 1 in
    let last = closed t.profile pages (n + 1) in
    let closes : AreLeading dpi (reset ∷ []) (between t pages n) last = lead refl (pages_fit last fits) stay in
    let whole : AreLeading dpi all (at_start profile) last = lead refl (pages_fit first (lit≤ tt)) (leading_append leads closes) in
    let count : (at_start profile).performed + length all ≤ command_limit = omega (arith, length-append deeds (reset ∷ [])) in
    let c = commands_done dpi (runs macro_limit dpi commands) 0 commands all (at_start profile) (r.said 0) whole count refl in
    let performed : performance profile dpi (length job) commands ≡ done (at_end dpi last) =
    ap (λ (p : Performance). then_on p (after_end dpi (length job))) c.0 ∙ ended_there t.profile dpi (length job) fits in
    let accepted = ap (λ (p : Performance). p.refusal) performed in
    let reading : IsReading profile job commands =
    record { pieces = r.pieces; each = r.each profile []; spelled = r.spelled; said = refl } in
    record {
      meaning = record { commands = commands; reading = reading; accepted = accepted; ejected = sym (ap pages_of performed) };
      asks = record {
        commands = commands;
        reading = reading;
        accepted = accepted;
        asked = sym (ap (λ (p : Performance). of_job job (asks_among p)) performed);
      };
      counted = omega (arith, said_many commands all (r.said 0), length-append deeds (reset ∷ []));
    }

-- ---- a job of one text

pub text_means_page : (dpi : Dpi) (size : Size) (copies : ℕ) (rows : List (List ℕ)) (text : List ℕ)
    (printed : IsPageText dpi size copies rows text) → command_count printed.tokens + 12 ≤ command_limit
    → MeansRows dpi size copies rows (job_of text)
text_means_page dpi size copies rows text printed few =
    let t = text_taken printed {n = 1} (begins_between Stated) (lit≤ tt) in
    let job = job_accepted t.settings t.count (text_read printed) t.leads (lit≤ tt)
    (omega (arith, few, text_counted dpi size copies printed.tokens)) in
    record { sheet = _; meaning = job.meaning; size_is = refl; copies_are = refl; dots = λ x y wide high. t.black x y wide }

-- ---- texts one after the other

-- texts lead from between texts to between texts, and eject sheets like these
pub data AreTextsTaken (dpi : Dpi) (meant : List Sheet) (texts : List ℕ) (from : Situation) (pages : List Sheet) : Type 0 where
  taken : (deeds : List Deed) (again : List Sheet) (settings : Settings) (count : ℕ) → ReadsAs texts deeds
      → AreLeading dpi deeds from (between settings (pages ++ again) count) → AllAlike dpi meant again → length again ≡ length meant
      → length deeds + 2 ≤ most_commands dpi meant → AreTextsTaken dpi meant texts from pages

sheet_alike : {dpi : Dpi} {sheet : Sheet} {page : Page} {inked : List Mark} → Shows dpi page sheet
    → ((x y : ℕ) → x < page_width page.size dpi → is_black inked x y ≡ dot_of_rows (bitmap_rows page.bitmap) x y)
    → AreAlike dpi sheet (record { size = page.size; copies = page.copies; marks = inked })
sheet_alike {dpi} {sheet} {page} shows black = record {
  size = sym shows.size;
  copies = sym shows.copies;
  dots = λ x y wide high.
      let below : y < page_height page.bitmap.size page.bitmap.dpi = rw (page.size_is ∙ shows.size, page.dpi_is ∙ shows.resolution) high in
      sym (black x y (rw shows.size wide) ∙ page_dot _ (page_row_bytes page.bitmap.size page.bitmap.dpi) page.bitmap.bytes x y below
      ∙ shows.dots x y wide high);
}

-- a written page, said with the resolution of its job
at_resolution : (page : Page) {text : List ℕ} {dpi : Dpi} → page.dpi ≡ dpi → IsWrittenPage page text
    → (printed : IsPageText dpi page.size page.copies (bitmap_rows page.bitmap) text)
    × (command_count printed.tokens ≤ 3 * page_height page.size dpi)
at_resolution page e w = rw (← e) (w.0, w.1)

pub texts_taken : {dpi : Dpi} (meant : List Sheet) {texts : List ℕ} {t : Settings} {pages : List Sheet} {n : ℕ}
    → PrintEach IsWrittenPage dpi meant texts → IsBetween t → length pages + length meant ≤ page_limit
    → AreTextsTaken dpi meant texts (between t pages n) pages
texts_taken [] {t} {pages} {n} p b few = taken [] [] t n (rw p reads_none) (rw (append-nil pages) stay) tt refl (omega arith)
texts_taken {dpi} (sheet ∷ meant) {t} {pages} {n} p b few =
    let page = p.2.0 in
    let shows = p.2.1 in
    let written = at_resolution page shows.resolution p.2.2 in
    let printed = written.0 in
    let deeds = text_deeds dpi page.size page.copies printed.tokens in
    let room : length pages < page_limit = omega arith in
    let one = text_taken printed b room in
    let again : Sheet = record { size = page.size; copies = page.copies; marks = one.inked } in
    let more = pages ++ again ∷ [] in
    let high = ap (λ (size : Size). page_height size dpi) shows.size in
    elim (texts_taken meant {pages = more} {n = one.count} p.4 one.stands (omega (arith, length-append pages (again ∷ [])))) [
      | taken others sheets u count read leads alike same fewer ↦
          taken (deeds ++ others) (again ∷ sheets) u count
          (subst (λ (bytes : List ℕ). ReadsAs bytes (deeds ++ others)) (sym p.3) (reads_joined (text_read printed) read))
          (leading_append one.leads (rw (append_assoc pages (again ∷ []) sheets) at leads)) (sheet_alike shows one.black, alike)
          (omega (arith, same))
          (omega (arith, fewer, written.1, high, text_counted dpi page.size page.copies printed.tokens, length-append deeds others))
    ]

-- ---- the pages of an accepted job

abbrev Fits : Performance → Type 0
Fits whole = whole.refusal ≡ None → length (pages_of whole) ≤ page_limit

-- no more pages than there may be, where the end of the input is not refused
end_fits : (dpi : Dpi) (s : Situation) → end_refusal dpi s ≡ None → length (at_end dpi s).pages ≤ page_limit
end_fits dpi s n = grind (arith, nat_tests)

-- it is the end of the input that tells
unless_fits : (dpi : Dpi) (end : ℕ) (why : Option Refusal) (s : Situation) → Fits (unless why s (after_end dpi end))
unless_fits dpi end why s = grind (arith, end_fits dpi s)

pub job_fits : {profile : Profile} {dpi : Dpi} {job : List ℕ} {pages : List Sheet} → HasPagesBy profile dpi job pages
    → length pages ≤ page_limit
job_fits {profile} {dpi} {job} h =
    let first = after_all dpi h.commands 0 h.commands (at_start profile) in
    rw h.ejected (unless_fits dpi (length job) first.refusal first.situation h.accepted)

-- ---- a job that is written again

-- how many commands a job that is written again has at most
few_commands : (dpi : Dpi) (sheets : List Sheet) → most_commands dpi sheets ≤ 25210 * length sheets + 2
few_commands dpi [] = omega arith
few_commands dpi (sheet ∷ sheets) = omega (arith, few_commands dpi sheets, height_small sheet.size dpi)

-- pages that are alike say the same
page_alike : {dpi : Dpi} {sheet other : Sheet} (start : PageStart) → AreAlike dpi sheet other
    → page_said start other ≡ page_said start sheet
page_alike start alike = rw (alike.size, alike.copies) refl

pages_alike : (dpi : Dpi) (meant again : List Sheet) → AllAlike dpi meant again
    → map later_said again ≡ map later_said meant
pages_alike dpi [] [] a = refl
pages_alike dpi (sheet ∷ meant) (other ∷ again) a =
    let one : later_said other ≡ later_said sheet = rw (a.0.size, a.0.copies) refl in
    let more = pages_alike dpi meant again a.1 in cc
pages_alike dpi meant again a = absurd a

said_alike : (dpi : Dpi) (meant again : List Sheet) → AllAlike dpi meant again → said_for again ≡ said_for meant
said_alike dpi [] [] a = refl
said_alike dpi (sheet ∷ meant) (other ∷ again) a =
    let one = page_alike first_page a.0 in
    let more = pages_alike dpi meant again a.1 in cc
said_alike dpi meant again a = absurd a

-- the written job is accepted, its pages are alike, it asks for what its texts say, and it has few commands
pub record IsAgain (profile : Profile) (dpi : Dpi) (pages : List Sheet) (job : List ℕ) : Type 0 where
  pub again : List Sheet
  pub meaning : HasPagesBy profile dpi job again
  pub alike : AllAlike dpi pages again
  pub asks : HasAsksBy profile dpi job (said_for pages)
  pub few : length meaning.commands ≤ most_commands dpi pages

pub written_again : {profile : Profile} {dpi : Dpi} {job : List ℕ} (texts : List ℕ) {pages : List Sheet} → HasPagesBy profile dpi job pages
    → PrintEach IsWrittenPage dpi pages texts → IsAgain profile dpi pages (frame_bytes ++ texts ++ frame_bytes)
written_again {profile} {dpi} texts {pages} h p =
    let fits = job_fits h in
    elim (texts_taken pages p (begins_between profile) (omega (arith, fits))) [
      | taken deeds again settings count read leads alike same few ↦
          let job = job_accepted settings count read leads (omega (arith, same, fits)) (omega (arith, fits, few, few_commands dpi pages)) in
          record {
            again = again;
            meaning = job.meaning;
            alike = alike;
            asks = subst (HasAsksBy profile dpi (frame_bytes ++ texts ++ frame_bytes)) (said_alike dpi pages again alike) job.asks;
            few = omega (arith, job.counted, few);
          }
    ]
