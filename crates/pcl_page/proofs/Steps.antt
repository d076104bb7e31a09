-- The performer follows the situation, command by command.
use Rattle.std.proofs.Common.{◌≡◌, ℕ, ◌+◌, ◌<◌, ◌≤◌, Bool, true, false, cond, nat_le, List, [], ◌∷◌, ◌++◌, length, Option, Some, None, Result, Ok, Err, refl, sym, ap, ◌∙◌, append-nil, length-append, inl, inr, arith, rules, is_some, ◌&&◌}
use Rattle.pcl_page.proofs.Names.{nat_tests, Dpi, CallFault, Refused, Memory, Kind, TooManyPages, Operation, FillRectangle, ControlFonts, DownloadFont, DownloadCharacter, PrintText, command_limit, page_limit, operation_of, is_below_zero, Said, Effect, Stay, Settings, defaults, Outcome, stays, Page, Performer, ends_raster, is_ignored_in_raster, Shows, IsIn, IsEjected, Takes, Draws, HandsMore, IsTurned, IsHandled, Asked, Asks, asks_of, lasting_if, restarted, with_page, after_checked, drawn_on}
use Rattle.pcl_env.specs.Outcome.{outcome}
use Rattle.pcl_fonts.specs.History.{has_permanent as is_font_permanent}
use Rattle.pcl_macros.specs.History.{has_permanent as is_macro_permanent}
use Rattle.pcl_page.specs.Situation.{Sheet, Situation, turned_page, put_back, with_lasting, draw_refusal, unless_refused, ◌|>◌, end_raster, is_marked, sheet_of, turned, turned_by, drawn, counted, prepared, is_ignored, after, at_end, page_refusal, within_page_limit}
use Rattle.pcl_page.proofs.Turns.{prepared_page, with_settings, pages_fit, pages_past, handed_sheet, below_same}
use Rattle.pcl_page.proofs.Keeping.{drawn_keeps}

-- ---- a command

pub counted_in : {dpi : Dpi} {s : Situation} {old new : Performer} → IsIn dpi s old → new.environment ≡ old.environment
    → new.raster ≡ old.raster
    → new.page ≡ old.page → new.is_marked ≡ old.is_marked → new.ejected ≡ old.ejected → new.performed ≡ old.performed + 1
    → new.asks ≡ old.asks → new.fonts ≡ old.fonts → IsIn dpi (counted s) new
counted_in i e r b m j p a f = search (rules, f, b)

-- a command that is not past the limit, by its operation
pub checked_as : (dpi : Dpi) (command : Said) {operation : Option Operation} (s : Situation) → s.performed < command_limit
    → operation_of command.name ≡ operation
    → after_checked dpi command s ≡ (after dpi operation command (counted s) |> within_page_limit)
checked_as dpi command s few named =
    let under : nat_le command_limit s.performed ≡ false = grind (arith, nat_tests) in
    rw (under, named) refl

-- ---- commands that are refused where they draw

pub only_stays : (s : Settings) {done : Settings × Effect} → stays s ≡ Some done → done.1 ≡ Stay
only_stays s {done} e = let same : ◌≡◌ {A = Settings × Effect} (s, Stay) done = cc in rw (← same) refl

taken_stays : (below : Bool) (s : Settings) {done : Settings × Effect} → cond below None (stays s) ≡ Some done → done.1 ≡ Stay
taken_stays below s e = grind arith

-- they let the page stay
refused_stays : (dpi : Dpi) (operation : Operation) (command : Said) (m : Bool) (settings : Settings) {done : Settings × Effect}
    (s : Situation) {kind : Kind}
    → draw_refusal dpi operation command s ≡ Some kind → outcome dpi operation command.value m settings ≡ Some done → done.1 ≡ Stay
unfolding outcome
refused_stays dpi ControlFonts command m settings s e o = only_stays settings o
refused_stays dpi FillRectangle command m settings s e o = only_stays settings o
refused_stays dpi DownloadFont command m settings s e o = taken_stays (is_below_zero command.value) settings o
refused_stays dpi DownloadCharacter command m settings s e o = taken_stays (is_below_zero command.value) settings o
refused_stays dpi PrintText command m settings s e o = taken_stays (is_below_zero command.value) settings o
refused_stays dpi other command m settings s e o = absurd cc

pub stays_pages : (done : Settings × Effect) (s : Situation) → done.1 ≡ Stay → (turned done.0 done.1 s).pages ≡ s.pages
stays_pages done s e = rw e refl

pub no_more : (pages more : List Sheet) → pages ≡ pages ++ more → more ≡ []
no_more pages [] e = refl
no_more pages (sheet ∷ more) e = absurd (omega (arith, ap length e, length-append pages (sheet ∷ more)))

-- ---- a command and its sink

module _ {S : Type 0} (takes : S → Page → S → Type 0) (dpi : Dpi) (operation : Operation) (command : Said) (s : Situation) where
  -- the situation at the turn of the page
  abbrev before : Situation
  before = prepared dpi operation (counted s)

  -- what the settings become there
  abbrev set_to : Outcome
  set_to = outcome dpi operation command.value (is_marked before) before.settings

  -- and the situation after the turn
  abbrev turned_with : Settings × Effect → Situation
  turned_with done = turned done.0 done.1 before

  pub checked_ignored : (old new : Performer) (sink : S)
      → IsIn dpi s old → old.performed < command_limit → old.ejected ≤ page_limit → operation_of command.name ≡ Some operation
      → (is_some old.raster && is_ignored_in_raster operation) ≡ true → IsIn dpi (counted s) new
      → IsHandled takes dpi command s (Ok operation) new sink sink
  unfolding after
  checked_ignored old new sink i few fit named e now =
      let ignored : is_ignored operation s ≡ true = cc in (
        counted s,
        named,
        checked_as dpi command s (omega (arith, few, i.performed)) named
            ∙ rw (ignored, pages_fit (counted s) (omega (arith, i.ejected))) refl,
        now,
        ([], sym (append-nil s.pages), refl),
      )

  -- by why it isn't drawn, if it isn't
  checked_by : (now : Situation) {why : Option Kind}
      → after_checked dpi command s ≡ (drawn_on dpi operation command now |> within_page_limit)
      → draw_refusal dpi operation command now ≡ why
      → after_checked dpi command s ≡ (unless_refused why (drawn dpi operation command now) |> within_page_limit)
  checked_by now is e = is ∙ rw e refl

  -- what is drawn hands over no page
  drawn_fits : (now : Situation) {past : Option Kind} → page_refusal now ≡ past
      → within_page_limit (drawn dpi operation command now) ≡ unless_refused past (drawn dpi operation command now)
  drawn_fits now e = rw ((drawn_keeps dpi operation command {s = now}).pages, e) refl

  -- the page was turned: what holds before anything is drawn, and what then is the situation after the command
  pub record IsGone (now : Situation) (sink later : S) : Type 0 where
    pub checked_is : after_checked dpi command s ≡ (drawn_on dpi operation command now |> within_page_limit)
    pub fits : page_refusal now ≡ None
    pub handed : HandsMore takes dpi s (drawn dpi operation command now) sink later
    pub quiet : (kind : Kind) → draw_refusal dpi operation command now ≡ Some kind → later ≡ sink

  -- nothing is refused where it is drawn
  gone_drawn : (now : Situation) {sink later : S} → IsGone now sink later → draw_refusal dpi operation command now ≡ None
      → after_checked dpi command s ≡ Ok (drawn dpi operation command now)
  gone_drawn now g e = checked_by now g.checked_is e ∙ drawn_fits now g.fits

  -- memory ran out after the turn
  gone_short : (now : Situation) (new : Performer) (sink later : S) (why : Option Kind) → IsGone now sink later
      → draw_refusal dpi operation command now ≡ why → IsHandled takes dpi command s (Err Memory) new sink later
  gone_short now new sink later None g e = inr (drawn dpi operation command now, gone_drawn now g e, g.handed)
  gone_short now new sink later (Some kind) g e = inl (g.quiet kind e)

  -- what is drawn of the command after the turn
  abbrev DrawsOn : Performer → Result (Unit {0}) CallFault → Performer → Type 0
  DrawsOn middle result new =
      (now : Situation) → IsIn dpi now middle
      → Draws dpi (draw_refusal dpi operation command now) (drawn dpi operation command now) result new

  -- a command that isn't ignored
  module _ {old : Performer} (i : IsIn dpi s old) (few : old.performed < command_limit) (named : operation_of command.name ≡ Some operation)
      (performed : (is_some old.raster && is_ignored_in_raster operation) ≡ false) where
    -- what it leads to, by the outcome of its operation
    checked_at : {o : Outcome} → set_to ≡ o
        → after_checked dpi command s ≡ (turned_by o before |> drawn_on dpi operation command |> within_page_limit)
    unfolding after
    checked_at is =
        let ignored : is_ignored operation s ≡ false = cc (i.raster, performed) in
        checked_as dpi command s (omega (arith, few, i.performed)) named ∙ rw (ignored, is) refl

    gone_with : (done : Settings × Effect) (sink later : S) → set_to ≡ Some done → page_refusal (turned_with done) ≡ None
        → HandsMore takes dpi before (turned_with done) sink later → IsGone (turned_with done) sink later
    gone_with done sink later is fits h = record {
      checked_is = checked_at is;
      fits = fits;
      handed =
          let drawn_is = (drawn_keeps dpi operation command {s = turned_with done}).pages in
          (h.0, cc (drawn_is, h.1, (prepared_page dpi (ends_raster operation) (counted s)).pages), h.2);
      quiet = λ kind e.
          let stay = refused_stays dpi operation command (is_marked before) before.settings (turned_with done) e is in
          rw (no_more before.pages h.0 (sym (stays_pages done before stay) ∙ h.1)) at h.2;
    }

    -- pages that are past the limit come from a command that isn't refused where it draws
    past_why : {done : Settings × Effect} {kind : Kind} (why : Option Kind) → set_to ≡ Some done
        → page_refusal (turned_with done) ≡ Some kind → draw_refusal dpi operation command (turned_with done) ≡ why → why ≡ None
    past_why None is past e = refl
    past_why {done} (Some other) is past e =
        let stay = refused_stays dpi operation command (is_marked before) before.settings (turned_with done) e is in
        let pages = stays_pages done before stay ∙ (prepared_page dpi (ends_raster operation) (counted s)).pages in
        let fits : page_refusal (turned_with done) ≡ None = rw pages (pages_fit s (omega (arith, i.ejected, old.few_pages))) in
        absurd cc

    pub refused_by : (new : Performer) (sink later : S) (o : Outcome) (fault : CallFault) → set_to ≡ o
        → IsTurned takes dpi o before (Err fault) new sink later → IsHandled takes dpi command s (Err fault) new sink later
    refused_by new sink later None (Refused kind) is t = (rw t.0 (checked_at is), t.1)
    refused_by new sink later (Some done) (Refused kind) is t =
        let free = past_why _ is t.0 refl in
        (checked_by (turned_with done) (checked_at is) free ∙ drawn_fits (turned_with done) t.0, t.1)
    refused_by new sink later None Memory is t = inl t
    refused_by new sink later (Some done) Memory is t = inl t

    pub checked_drawn : (middle new : Performer) (sink later : S) (o : Outcome) → set_to ≡ o
        → IsTurned takes dpi o before (Ok tt) middle sink later → DrawsOn middle (Ok tt) new
        → IsHandled takes dpi command s (Ok operation) new sink later
    checked_drawn middle new sink later None is t f = absurd t
    checked_drawn middle new sink later (Some done) is t f =
        let g = gone_with done sink later is t.1 t.2 in
        let d = f (turned_with done) t.0 in
        (drawn dpi operation command (turned_with done), named, gone_drawn (turned_with done) g d.0, d.1, g.handed)

    -- a command that is refused where it draws
    pub checked_undrawn : (middle new : Performer) (sink later : S) (o : Outcome) (fault : CallFault) → set_to ≡ o
        → IsTurned takes dpi o before (Ok tt) middle sink later → DrawsOn middle (Err fault) new
        → IsHandled takes dpi command s (Err fault) new sink later
    checked_undrawn middle new sink later None fault is t f = absurd t
    checked_undrawn middle new sink later (Some done) (Refused kind) is t f =
        let g = gone_with done sink later is t.1 t.2 in
        let d = f (turned_with done) t.0 in
        (checked_by (turned_with done) g.checked_is d, g.quiet kind d)
    checked_undrawn middle new sink later (Some done) Memory is t f =
        gone_short (turned_with done) new sink later _ (gone_with done sink later is t.1 t.2) refl

-- ---- the end of the input

-- what the end makes of a page that is turned where it is marked
abbrev ended_from : Situation → Situation → Situation
ended_from s turned = put_back (with_lasting (is_macro_permanent s.macros) (with_lasting (is_font_permanent s.fonts) turned))

-- the end, where it is not refused
abbrev EndsAt : {S : Type 0} → (S → Page → S → Type 0) → Dpi → Situation → Situation → Performer → S → S → Type 0
EndsAt {S} takes dpi s end new sink later = (page_refusal end ≡ None) × HandsMore takes dpi s end sink later × (asks_of new.asks ≡ end.asks)

-- what the end makes of what is asked
abbrev pub end_asks : Situation → Asks → Asks
end_asks s asks = restarted (lasting_if (is_macro_permanent s.macros) (lasting_if (is_font_permanent s.fonts) asks))

pub end_marked : {S : Type 0} (takes : S → Page → S → Type 0) (dpi : Dpi) (s : Situation) (copies : ℕ) (asked : Asked)
    (old middle new : Performer) (sink later : S) → IsIn dpi s old
    → old.is_marked ≡ true → old.ejected < page_limit → copies ≡ old.environment.copies → asked ≡ old.environment.asked
    → IsEjected asked old middle → Takes takes copies old sink later
    → asks_of new.asks ≡ end_asks s (asks_of middle.asks) → EndsAt takes dpi s (at_end dpi s) new sink later
end_marked takes dpi s copies asked old middle new sink later i m few c a e t again =
    let end = end_raster dpi s in
    let is : is_marked s ≡ true = cc in
    let count = length-append s.pages (sheet_of end ∷ []) in
    let below = below_same dpi s.raster s.settings in
    let said : asked ≡ end.settings.asked = a ∙ ap (λ (t : Settings). t.asked) i.settings ∙ sym below.2 in
    let copied : copies ≡ s.settings.copies = cc (c, i.settings) in
    let shows : Shows dpi t.0 (sheet_of end) = rw (below.0, below.1) (handed_sheet s i.painted (i.sized is) copied t.1) in
    rw is (
      pages_fit (ended_from s (turned_page (defaults s.settings.profile) end))
          (omega (arith, i.ejected, count)),
      (sheet_of end ∷ [], refl, (t.0, later, shows, t.2, refl)),
      again ∙ ap (end_asks s) (e.asks ∙ ap (λ (x : Asked). with_page x (asks_of old.asks)) said ∙ ap (with_page end.settings.asked) i.asks),
    )

pub end_unmarked : {S : Type 0} (takes : S → Page → S → Type 0) (dpi : Dpi) (s : Situation) (old new : Performer) (sink later : S)
    → IsIn dpi s old → old.is_marked ≡ false → old.ejected ≤ page_limit → later ≡ sink → asks_of new.asks ≡ end_asks s (asks_of old.asks)
    → EndsAt takes dpi s (at_end dpi s) new sink later
end_unmarked takes dpi s old new sink later i m few same again =
    let is : is_marked s ≡ false = cc in
    rw is (
      pages_fit (ended_from s (with_settings (defaults s.settings.profile) (end_raster dpi s)))
          (omega (arith, i.ejected)),
      ([], sym (append-nil s.pages), same),
      again ∙ ap (end_asks s) i.asks,
    )

pub end_past : {dpi : Dpi} {s : Situation} {old : Performer} → IsIn dpi s old → old.is_marked ≡ true → page_limit ≤ old.ejected
    → page_refusal (at_end dpi s) ≡ Some TooManyPages
end_past {dpi} {s} i m many =
    let end = end_raster dpi s in
    let count = length-append s.pages (sheet_of end ∷ []) in
    let is : is_marked s ≡ true = cc in
    rw is (pages_past (ended_from s (turned_page (defaults s.settings.profile) end))
    (omega (arith, i.ejected, count)))
