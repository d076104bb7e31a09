-- Performing the deeds of a page text prints its page.
use Rattle.std.proofs.Common.{◌≡◌, ℕ, pos, zero, suc, ◌+◌, ◌-◌, ◌*◌, ◌/◌, ◌<◌, ◌≤◌, Bool, true, false, cond, ◌||◌, ◌==◌, nat_le, List, [], ◌∷◌, ◌++◌, length, drop, replicate, Option, Some, None, refl, ap, ◌∙◌, length-append, arith, Ok}
use Rattle.pcl_meaning.proofs.Names.{copies_limit, not, nat_lt, AllByRecursion, length-replicate, map-append, or-false, nat_tests, Dpi, Profile, Dpi300, Dpi600, Method, Plain, Horizontal, Vertical, PclUnit, Operation, FormFeed, PageSize, Copies, TopMargin, Move, RasterResolution, RasterWidth, StartRaster, EndRasterResetMethod, RasterMethod, RasterOffset, RasterRow, Size, Executive, Value, page_limit, dots_per_inch, method_code, code_of, page_width, units_high, zero_value, Effect, Settings, put, put_x, put_y, to_first_line, copies_said, size_said, defaults, with_size, before_feed, return_carriage, Temporary, FontEvent, control, MacroEvent, Asked, pages_fit, with_page, with_said_size, Mark, is_black, dot_at, Raster, ends_raster, scale_of, raster_from, bytes_of_width, row_sent, row_mark, IsRowData, Token, opening, method, skip, send, IsRowOf, IsPageText, PageStart, Asks, first_page, next_page, drawn_on, sheet_said, later_said, said_for, dot_of_rows}
use Rattle.pcl_env.specs.declared.effect.Effect.TheVariants as page
use Rattle.pcl_env.specs.Outcome.{outcome}
use Rattle.pcl_env.specs.Settings.{nothing_asked}
use Rattle.pcl_macros.specs.declared.table.MacroControl.TheVariants as macros
use Rattle.pcl_macros.specs.History.{control as macro_control}
use Rattle.pcl_page.specs.Situation.{Sheet, Situation, ◌|>◌, below, ejects, end_raster, after}
use Rattle.pcl_output.specs.Tokens.{PrintsRows}
use Rattle.pcl_meaning.proofs.Deeds.{Deed, deed}
use Rattle.pcl_meaning.proofs.Readings.{number_value, whole_is}
use Rattle.pcl_meaning.proofs.Sequences.{body_deeds, start_deeds, end_deeds}
use Rattle.pcl_meaning.proofs.Following.{said_of, quietly, does, AreLeading, stay, lead, leading_append}
use Rattle.pcl_meaning.proofs.Dots.{dot_from, first_row, white_from, skipped_dots, row_inks}
use Rattle.pcl_meaning.proofs.Pads.{cleared_is}

-- ---- between texts

-- no more is asked than what page texts say, and a page length
abbrev pub AsksForLittle : Asked → Type 0
AsksForLittle asked =
    asked ≡ record nothing_asked { copies = asked.copies; page_size = asked.page_size; page_length = asked.page_length }

-- the settings between texts: the first row of a raster is plain, no height is set, and little is asked besides dots
pub record IsBetween (t : Settings) : Type 0 where
  pub method : t.method ≡ Plain
  pub height : t.raster_height ≡ None
  pub asked : AsksForLittle t.asked

pub begins_between : (profile : Profile) → IsBetween (defaults profile)
begins_between profile = record { method = refl; height = refl; asked = refl }

-- what is asked once a page text has said its copies and its size
said_then : (size : Size) (copies : ℕ) (asked : Asked) (marks : List Mark) → AsksForLittle asked
    → size_said size (copies_said copies asked) ≡ sheet_said (record { size = size; copies = copies; marks = marks })
said_then size copies asked marks little = ap (λ (said : Asked). size_said size (copies_said copies said)) little

-- what a job of page texts does to fonts: the reset at its start deletes the temporary ones
abbrev pub reset_fonts : List FontEvent
reset_fonts = control Temporary 0 0 ∷ []

-- and to macros
abbrev pub reset_macros : List MacroEvent
reset_macros = macro_control macros.Temporary 0 ∷ []

-- how the page after these begins
abbrev pub begins_after : List Sheet → PageStart
begins_after [] = first_page
begins_after (sheet ∷ sheets) = next_page

-- whether a reset is what stands before the page after these
abbrev pub is_after_reset : List Sheet → Bool
is_after_reset [] = true
is_after_reset (sheet ∷ sheets) = false

-- what was asked with these pages
abbrev pub asks_before : List Sheet → Asks
asks_before pages = record (said_for pages) { next = begins_after pages; is_reset = is_after_reset pages }

-- the same once the next page's size was said
abbrev sized_asks : Size → List Sheet → Asks
sized_asks size pages = with_said_size (pos (code_of size)) (asks_before pages)

-- an unmarked page with no raster, and no definition
abbrev unmarked : Settings → Asks → List Sheet → ℕ → Situation
unmarked t asks pages n = record {
  settings = t;
  raster = None;
  fonts = reset_fonts;
  macros = reset_macros;
  begun = None;
  marks = [];
  pages = pages;
  asks = asks;
  performed = n;
}

-- the same between two texts
abbrev pub between : Settings → List Sheet → ℕ → Situation
between t pages n = unmarked t (asks_before pages) pages n

prepared_is : (dpi : Dpi) (ends : Bool) {t : Settings} {asks : Asks} {pages : List Sheet} {n : ℕ}
    → cond ends (end_raster dpi (unmarked t asks pages n)) (unmarked t asks pages n) ≡ unmarked t asks pages n
prepared_is dpi ends = grind arith

-- ---- what the start of a text sets

copies_out : (dpi : Dpi) (copies : ℕ) (t : Settings) → 0 < copies → copies ≤ copies_limit
    → outcome dpi Copies (number_value copies) false t ≡ Some (record t { copies = copies; asked = copies_said copies t.asked }, page.Stay)
unfolding outcome
copies_out dpi copies t some few =
    let from : nat_le 1 copies ≡ true = grind (arith, nat_tests) in
    let to : nat_le copies 99 ≡ true = grind (arith, nat_tests) in
    rw (whole_is copies, from, to) refl

size_out : (dpi : Dpi) (size : Size) (t : Settings)
    → outcome dpi PageSize (number_value (code_of size)) false t ≡ Some (with_size size t, page.EjectMarked)
unfolding outcome
size_out dpi Executive t = refl
size_out dpi other t = refl

abbrev top_zero : Settings → Settings
top_zero t = to_first_line (record t { top = 0; bottom = units_high t.size - 3600 })

top_out : (dpi : Dpi) (t : Settings) → outcome dpi TopMargin (number_value 0) false t ≡ Some (top_zero t, page.Stay)
unfolding outcome
top_out dpi t =
    let none : 0 * t.vmi ≡ 0 = omega arith in
    let fits : nat_lt (units_high t.size) 0 ≡ false = grind (arith, nat_tests) in
    rw (none, fits) refl

across_out : (dpi : Dpi) (t : Settings) → outcome dpi (Move Horizontal PclUnit) (number_value 0) false t ≡ Some (put_x 0 t, page.Stay)
unfolding outcome
across_out dpi t = let none : 0 + 0 * t.pcl_unit / 10000 ≡ 0 = omega arith in rw none refl

down_out : (dpi : Dpi) (t : Settings) → t.top ≡ 0
    → outcome dpi (Move Vertical PclUnit) (number_value 0) false t ≡ Some (put_y 0 t, page.Stay)
unfolding outcome
down_out dpi t top = let none : t.top + 0 * t.pcl_unit / 10000 ≡ 0 = omega arith in rw none refl

resolution_out : (dpi : Dpi) (t : Settings) → outcome dpi RasterResolution (number_value (dots_per_inch dpi)) false t
    ≡ Some (record t { resolution = dots_per_inch dpi }, page.Stay)
unfolding outcome
resolution_out Dpi300 t = refl
resolution_out Dpi600 t = refl

width_out : (size : Size) (dpi : Dpi) (t : Settings) → outcome dpi RasterWidth (number_value (page_width size dpi)) false t
    ≡ Some (record t { raster_width = Some (page_width size dpi) }, page.Stay)
unfolding outcome
width_out size dpi t =
    let some : (page_width size dpi == 0) ≡ false = grind (arith, nat_tests) in rw (whole_is (page_width size dpi), some) refl

-- the settings after the copies
abbrev with_copies : ℕ → Settings → Settings
with_copies copies t = record t { copies = copies; asked = copies_said copies t.asked }

-- the settings of a text's raster
abbrev pub ready : Dpi → Size → ℕ → Settings → Settings
ready dpi size copies t =
    record (put_y 0 (put_x 0 (top_zero (with_size size (with_copies copies t)))))
    { resolution = dots_per_inch dpi; raster_width = Some (page_width size dpi) }

-- the raster of a text: at the page's left edge, as wide as the page, k rows done
abbrev body_raster : Size → Dpi → ℕ → List ℕ → Raster
body_raster size dpi k seed = record { left = 0; top = 0; scale = 1; width = page_width size dpi; height = None; rows = k; seed = seed }

-- in the body of a text
abbrev in_body : Size → Dpi → Settings → Method → ℕ → List ℕ → List Mark → Asks → List Sheet → ℕ → Situation
in_body size dpi t m k seed marks asks pages n =
    record (unmarked (record t { method = m }) asks pages n) { raster = Some (body_raster size dpi k seed); marks = marks }

abbrev zeros : Size → Dpi → List ℕ
zeros size dpi = replicate (bytes_of_width (page_width size dpi)) 0

one_scale : (dpi : Dpi) (size : Size) {y : ℕ} {height : Option ℕ} → height ≡ None → y ≡ 0
    → record (body_raster size dpi 0 (zeros size dpi)) { top = dot_at dpi y; scale = scale_of dpi (dots_per_inch dpi); height = height }
    ≡ body_raster size dpi 0 (zeros size dpi)
one_scale dpi size h t = grind arith

start_after : {size : Size} (dpi : Dpi) {copies : ℕ} {t : Settings} {asks : Asks} {pages : List Sheet} (n : ℕ) → IsBetween t
    → does dpi (deed StartRaster (number_value 0) []) (unmarked (ready dpi size copies t) asks pages n)
    ≡ Ok (in_body size dpi (ready dpi size copies t) Plain 0 (zeros size dpi) [] asks pages (n + 1))
unfolding after outcome
start_after {size} dpi {copies} {t} n b =
    let raster : raster_from dpi 0 (ready dpi size copies t) ≡ body_raster size dpi 0 (zeros size dpi) =
    one_scale dpi size b.height (omega arith) in rw (raster, b.method) refl

-- a command that sets something between texts, and the deeds after it
set_leads : {dpi : Dpi} {operation : Operation} {value : Value} {t next : Settings} {effect : Effect} {asks : Asks} {pages : List Sheet}
    {n : ℕ} {deeds : List Deed} {later : Situation} → length pages ≤ page_limit
    → outcome dpi operation value false t ≡ Some (next, effect) → ejects effect false ≡ false
    → ((s : Situation) → (drawn_on dpi operation (said_of (deed operation value [])) s |> quietly operation value) ≡ Ok s)
    → AreLeading dpi deeds (unmarked next asks pages (n + 1)) later
    → AreLeading dpi (deed operation value [] ∷ deeds) (unmarked t asks pages n) later
unfolding after
set_leads {dpi} {operation} {value} {t} {next} {asks = asks} {pages = pages} {n} fits set turns draws rest =
    let at = unmarked next asks pages (n + 1) in
    let prepared = prepared_is dpi (ends_raster operation) {t = t} {asks = asks} {pages = pages} {n = n + 1} in
    lead {next = at} (rw (prepared, set, turns) (draws at)) (pages_fit at fits) rest

-- the size of a text, which is said between two pages
size_after : (dpi : Dpi) (size : Size) (t : Settings) (pages : List Sheet) (n : ℕ)
    → does dpi (deed PageSize (number_value (code_of size)) []) (between t pages n)
    ≡ Ok (unmarked (with_size size t) (sized_asks size pages) pages (n + 1))
unfolding after outcome
size_after dpi Executive t pages n = refl
size_after dpi other t pages n = refl

start_leads : (size : Size) (dpi : Dpi) (copies : ℕ) {t : Settings} (pages : List Sheet) (n : ℕ) → IsBetween t
    → 0 < copies → copies ≤ copies_limit → length pages ≤ page_limit → AreLeading dpi (start_deeds dpi copies size) (between t pages n)
    (in_body size dpi (ready dpi size copies t) Plain 0 (zeros size dpi) [] (sized_asks size pages) pages (n + 1 + 1 + 1 + 1 + 1 + 1 + 1 + 1))
start_leads size dpi copies {t} pages n b some few fits =
    let sized = with_size size (with_copies copies t) in
    let down = put_y 0 (put_x 0 (top_zero sized)) in
    let m = n + 1 + 1 + 1 + 1 + 1 + 1 + 1 in
    let u = ready dpi size copies t in
    let last = in_body size dpi u Plain 0 (zeros size dpi) [] (sized_asks size pages) pages (m + 1) in
    let begun : AreLeading dpi (deed StartRaster (number_value 0) [] ∷ []) (unmarked u (sized_asks size pages) pages m) last =
    lead (start_after dpi m b) (pages_fit last fits) stay in
    let said = unmarked sized (sized_asks size pages) pages (n + 1 + 1) in
    set_leads fits (copies_out dpi copies t some few) refl (λ s. refl)
    (lead (size_after dpi size (with_copies copies t) pages (n + 1)) (pages_fit said fits)
    (set_leads fits (top_out dpi sized) refl (λ s. refl)
    (set_leads fits (across_out dpi _) refl (λ s. refl)
    (set_leads fits (down_out dpi (put_x 0 (top_zero sized)) refl) refl (λ s. refl)
    (set_leads fits (resolution_out dpi down) refl (λ s. refl)
    (set_leads fits (width_out size dpi _) refl (λ s. refl) begun))))))

-- ---- the body

abbrev sent_mark : Size → Dpi → ℕ → List ℕ → List ℕ → Mark
sent_mark size dpi k seed row = row_mark row (body_raster size dpi k seed)

-- the commands of a body, each performed k rows below the top
module _ (size : Size) (dpi : Dpi) (t : Settings) (m : Method) (k : ℕ) (seed : List ℕ) (marks : List Mark) (asks : Asks) (pages : List Sheet)
    (n : ℕ) where
  abbrev here : Situation
  here = in_body size dpi t m k seed marks asks pages n

  method_after : (next : Method)
      → does dpi (deed RasterMethod (number_value (method_code next)) []) here ≡ Ok (in_body size dpi t next k seed marks asks pages (n + 1))
  unfolding after outcome
  method_after Plain = refl
  method_after other = refl

  skip_after : (count : ℕ) → does dpi (deed RasterOffset (number_value count) []) here
      ≡ Ok (in_body size dpi t m (k + count) (zeros size dpi) marks asks pages (n + 1))
  unfolding after outcome
  skip_after count = rw (whole_is count) refl

  -- the row that is sent is the row that is printed
  row_after : {row bytes : List ℕ} → IsRowData m seed row bytes → IsRowOf size dpi row
      → does dpi (deed RasterRow (number_value (length bytes)) bytes) here
      ≡ Ok (in_body size dpi t m (k + 1) row (sent_mark size dpi k seed row ∷ marks) asks pages (n + 1))
  unfolding after outcome
  row_after {row} {bytes} sends is =
      let sent : row_sent m bytes (body_raster size dpi k seed) ≡ row =
      rw (← sends.decodes) (cleared_is row is.1) in rw sent refl

rows_below : (count : ℕ) (size : Size) (dpi : Dpi) (rows : List (List ℕ)) → AllByRecursion (IsRowOf size dpi) rows
    → AllByRecursion (IsRowOf size dpi) (drop count rows)
rows_below zero size dpi rows a = a
rows_below (suc count) size dpi [] a = a
rows_below (suc count) size dpi (row ∷ rows) a = rows_below count size dpi rows a.1

-- the tokens are performed after row k, and ink the dots of the rows that they print
data IsPrinted (size : Size) (dpi : Dpi) (t : Settings) (deeds : List Deed) (rows : List (List ℕ)) (k : ℕ) (from : Situation)
    (inked : List Mark) (asks : Asks) (pages : List Sheet) : Type 0 where
  is_printed : (last : Method) (end : ℕ) (seed : List ℕ) (all : List Mark) (count : ℕ)
      → AreLeading dpi deeds from (in_body size dpi t last end seed all asks pages count)
      → ((x y : ℕ) → x < page_width size dpi → is_black all x y ≡ (dot_from k rows x y || is_black inked x y))
      → IsPrinted size dpi t deeds rows k from inked asks pages

-- a newer mark beside dots of rows below it
newer_mark : (below row older : Bool) → (below || cond row true older) ≡ ((row || below) || older)
newer_mark below row older = grind arith

sent_dots : (size : Size) (dpi : Dpi) (k : ℕ) (seed row : List ℕ) (rest : List (List ℕ)) (inked : List Mark) (x y : ℕ)
    → x < page_width size dpi → (dot_from (k + 1) rest x y || is_black (sent_mark size dpi k seed row ∷ inked) x y)
    ≡ (dot_from k (row ∷ rest) x y || is_black inked x y)
sent_dots size dpi k seed row rest inked x y within =
    rw (row_inks k row y within, first_row k row rest x y) (newer_mark (dot_from (k + 1) rest x y) _ (is_black inked x y))

-- a command, and what is printed after it
printed_after : {size : Size} {dpi : Dpi} {t : Settings} {d : Deed} {deeds : List Deed} {rows below : List (List ℕ)} {k further : ℕ}
    {from next : Situation} {inked newer : List Mark} {asks : Asks} {pages : List Sheet} → does dpi d from ≡ Ok next
    → length next.pages ≤ page_limit → IsPrinted size dpi t deeds below further next newer asks pages → ((x y : ℕ) → x < page_width size dpi
    → (dot_from further below x y || is_black newer x y) ≡ (dot_from k rows x y || is_black inked x y))
    → IsPrinted size dpi t (d ∷ deeds) rows k from inked asks pages
printed_after {next = next} one fits (is_printed last end seed all count rest black) same =
    is_printed last end seed all count (lead one (pages_fit next fits) rest) (λ x y within. black x y within ∙ same x y within)

body_printed : (inside : Bool) (tokens : List Token) {size : Size} {dpi : Dpi} (t : Settings) {m : Method} {seed : List ℕ}
    (rows : List (List ℕ)) (k : ℕ) (inked : List Mark) (asks : Asks) (pages : List Sheet) (n : ℕ)
    → PrintsRows inside m seed tokens rows → AllByRecursion (IsRowOf size dpi) rows → length seed ≡ bytes_of_width (page_width size dpi)
    → length pages ≤ page_limit → IsPrinted size dpi t (body_deeds tokens) rows k (in_body size dpi t m k seed inked asks pages n)
    inked asks pages
unfolding PrintsRows
body_printed false [] t {m} {seed} rows k inked asks pages n p are long fits =
    is_printed m k seed inked n stay (λ x y within. rw (white_from k rows x y p) refl)
body_printed false (opening ∷ tokens) t {seed} rows k inked asks pages n p are long fits =
    body_printed true tokens t rows k inked asks pages n p are long fits
body_printed true (method digits next ends ∷ tokens) {size} {dpi} t {m} {seed} rows k inked asks pages n p are long fits =
    printed_after (method_after size dpi t m k seed inked asks pages n next) fits
    (body_printed (not ends) tokens t rows k inked asks pages (n + 1) p.1 are long fits) (λ x y within. refl)
body_printed true (skip digits count ends ∷ tokens) {size} {dpi} t {m} {seed} rows k inked asks pages n p are long fits =
    let r = body_printed (not ends) tokens t (drop count rows) (k + count) inked asks pages (n + 1) (rw long at p.4)
    (rows_below count size dpi rows are) (length-replicate _ 0) fits in
    printed_after (skip_after size dpi t m k seed inked asks pages n count) fits r (λ x y within. rw (skipped_dots count k rows x y p.3) refl)
body_printed true (send digits bytes ∷ tokens) {size} {dpi} t {m} {seed} (row ∷ rest) k inked asks pages n p are long fits =
    printed_after (row_after size dpi t m k seed inked asks pages n p.1 are.0) fits
    (body_printed false tokens t rest (k + 1) _ asks pages (n + 1) p.2 are.1 are.0.0 fits) (sent_dots size dpi k seed row rest inked)
body_printed inside tokens t rows k inked asks pages n p are long fits = absurd p

-- ---- the end

-- after the raster of a text
abbrev beyond : Size → Dpi → Settings → Method → ℕ → List ℕ → Settings
beyond size dpi t m k seed = record (put (below dpi (body_raster size dpi k seed)) (record t { method = m })) { method = Plain }

end_after : (size : Size) (dpi : Dpi) (t : Settings) (m : Method) (k : ℕ) (seed : List ℕ) {marks : List Mark} {asks : Asks}
    {pages : List Sheet} (n : ℕ) → does dpi (deed EndRasterResetMethod (number_value 0) []) (in_body size dpi t m k seed marks asks pages n)
    ≡ Ok (record (unmarked (beyond size dpi t m k seed) asks pages (n + 1)) { marks = marks })
unfolding after outcome
end_after size dpi t m k seed n = refl

-- one page more
asks_more : {asked : Asked} (pages : List Sheet) (sheet : Sheet) → asked ≡ sheet_said sheet
    → with_page asked (sized_asks sheet.size pages) ≡ asks_before (pages ++ sheet ∷ [])
asks_more [] sheet e = rw e refl
asks_more (page ∷ pages) sheet e = rw (e, map-append later_said pages (sheet ∷ [])) refl

feed_after : (dpi : Dpi) (u : Settings) (marks : List Mark) (pages : List Sheet) (n : ℕ)
    → u.asked ≡ sheet_said (record { size = u.size; copies = u.copies; marks = marks })
    → does dpi (deed FormFeed zero_value []) (record (unmarked u (sized_asks u.size pages) pages n) { marks = marks })
    ≡ Ok (between (to_first_line (before_feed u)) (pages ++ record { size = u.size; copies = u.copies; marks = marks } ∷ []) (n + 1))
unfolding after outcome
feed_after dpi u marks pages n e = rw (asks_more pages (record { size = u.size; copies = u.copies; marks = marks }) e) refl

feed_between : (test : Bool) (u : Settings) → u.method ≡ Plain → u.raster_height ≡ None → AsksForLittle u.asked
    → IsBetween (to_first_line (cond test (return_carriage u) u))
feed_between test u plain none asked = grind arith

-- where the settings are between texts again
abbrev ended_at : Size → Dpi → Settings → Method → ℕ → List ℕ → Settings
ended_at size dpi t m k seed = to_first_line (before_feed (beyond size dpi t m k seed))

end_leads : (size : Size) (dpi : Dpi) (t : Settings) (m : Method) (k : ℕ) (seed : List ℕ) (marks : List Mark) (pages : List Sheet) (n : ℕ)
    → t.raster_height ≡ None → AsksForLittle t.asked → t.asked ≡ sheet_said (record { size = t.size; copies = t.copies; marks = marks })
    → length pages < page_limit → IsBetween (ended_at size dpi t m k seed)
    × AreLeading dpi end_deeds (in_body size dpi t m k seed marks (sized_asks t.size pages) pages n)
    (between (ended_at size dpi t m k seed) (pages ++ record { size = t.size; copies = t.copies; marks = marks } ∷ []) (n + 1 + 1))
end_leads size dpi t m k seed marks pages n none little asked few =
    let u = beyond size dpi t m k seed in
    let middle : Situation = record (unmarked u (sized_asks t.size pages) pages (n + 1)) { marks = marks } in
    let sheet : Sheet = record { size = t.size; copies = t.copies; marks = marks } in
    let last = between (to_first_line (before_feed u)) (pages ++ sheet ∷ []) (n + 1 + 1) in
    let fits = pages_fit last (omega (arith, length-append pages (sheet ∷ []))) in
    let fed = lead {s = middle} {next = last} (feed_after dpi u marks pages (n + 1) asked) fits stay in (
      feed_between u.feed_returns u refl none little,
      lead (end_after size dpi t m k seed n) (pages_fit middle (omega arith)) fed,
    )

-- ---- a whole text

abbrev pub text_deeds : Dpi → Size → ℕ → List Token → List Deed
text_deeds dpi size copies tokens = start_deeds dpi copies size ++ (body_deeds tokens ++ end_deeds)

-- a text leads from between texts to between texts, and ejects the page that it prints
pub record IsTextTaken (dpi : Dpi) (size : Size) (copies : ℕ) (deeds : List Deed) (rows : List (List ℕ)) (from : Situation)
    (pages : List Sheet) : Type 0 where
  pub settings : Settings
  pub stands : IsBetween settings
  pub inked : List Mark
  pub count : ℕ
  pub leads : AreLeading dpi deeds from (between settings (pages ++ record { size = size; copies = copies; marks = inked } ∷ []) count)
  pub black : (x y : ℕ) → x < page_width size dpi → is_black inked x y ≡ dot_of_rows rows x y

all_rows : (rows : List (List ℕ)) (x y : ℕ) → (dot_from 0 rows x y || false) ≡ dot_of_rows rows x y
all_rows rows x y =
    let place : y - 0 ≡ y = omega arith in
    let below : nat_le 0 y ≡ true = grind (arith, nat_tests) in rw (or-false (dot_from 0 rows x y), below, place) refl

pub text_taken : {dpi : Dpi} {size : Size} {copies : ℕ} {rows : List (List ℕ)} {text : List ℕ}
    (printed : IsPageText dpi size copies rows text)
    {t : Settings} {pages : List Sheet} {n : ℕ} → IsBetween t → length pages < page_limit
    → IsTextTaken dpi size copies (text_deeds dpi size copies printed.tokens) rows (between t pages n) pages
text_taken {dpi} {size} {copies} {rows} text {t} {pages} {n} b few =
    let u = ready dpi size copies t in
    let m = n + 1 + 1 + 1 + 1 + 1 + 1 + 1 + 1 in
    let start = start_leads size dpi copies pages n b text.some_copies text.few_copies (omega arith) in
    elim (body_printed false text.tokens u rows 0 [] (sized_asks size pages) pages m text.prints text.rows_are (length-replicate _ 0) (omega arith)) [
      | is_printed last k seed inked count body black ↦
          let little : AsksForLittle u.asked = ap (λ (said : Asked). size_said size (copies_said copies said)) b.asked in
          let end = end_leads size dpi u last k seed inked pages count b.height little (said_then size copies t.asked inked b.asked) few in
          record {
            settings = _;
            stands = end.0;
            inked = inked;
            count = count + 1 + 1;
            leads = leading_append start (leading_append body end.1);
            black = λ x y within. black x y within ∙ all_rows rows x y;
          }
    ]
