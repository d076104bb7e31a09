-- The performer follows the situation: rasters that end, pages that are turned, and what is drawn.
use Rattle.std.proofs.Common.{◌≡◌, ℕ, ◌<◌, ◌≤◌, Bool, true, false, cond, nat_le, List, [], ◌∷◌, length, Option, Some, None, Result, Ok, Err, refl, sym, ◌∙◌, append-nil, length-append, arith, rules, ◌++◌}
use Rattle.pcl_page.proofs.Names.{nat_tests, Dpi, Memory, TooManyPages, Operation, Size, Value, page_limit, Picture, Effect, Stay, Eject, EjectMarked, Unsupported, Settings, to_first_line, Outcome, outcome, AnswersAs, Page, Performer, Asked, Mark, are_marked, Raster, ends_raster, Situation, settings_below, end_raster, is_marked, ejects, sheet_of, turned_page, prepared, page_refusal, Shows, IsPainted, IsIn, IsBlank, IsFollowed, IsEjected, IsHanded, Takes, IsPrepared, IsDrawn, HandsMore, IsTurned}
use Rattle.pcl_page.proofs.Sizes.{size_kept}

-- ---- pages

-- ---- the end of a raster

-- it changes nothing of the page that is ejected, nor what it is asked with
pub below_same : (dpi : Dpi) (raster : Option Raster) (s : Settings) → ((settings_below dpi raster s).size ≡ s.size)
    × ((settings_below dpi raster s).copies ≡ s.copies) × ((settings_below dpi raster s).asked ≡ s.asked)
below_same dpi raster s = grind arith

-- what the end of a raster does, if it ends
pub record KeepsPage (dpi : Dpi) (ends : Bool) (s other : Situation) : Type 0 where
  pub settings : other.settings ≡ cond ends (settings_below dpi s.raster s.settings) s.settings
  pub raster : other.raster ≡ cond ends None s.raster
  pub size : other.settings.size ≡ s.settings.size
  pub fonts : other.fonts ≡ s.fonts
  pub macros : other.macros ≡ s.macros
  pub begun : other.begun ≡ s.begun
  pub marks : other.marks ≡ s.marks
  pub pages : other.pages ≡ s.pages
  pub performed : other.performed ≡ s.performed
  pub asks : other.asks ≡ s.asks

pub prepared_page : (dpi : Dpi) (ends : Bool) (s : Situation) → KeepsPage dpi ends s (cond ends (end_raster dpi s) s)
prepared_page dpi true s = search (rules, (below_same dpi s.raster s.settings).0)
prepared_page dpi false s = search rules

-- a page that is marked has the size that is set, still
pub still_sized : {dpi : Dpi} {s : Situation} {old : Performer} (other : Situation) (new : Performer) → IsIn dpi s old
    → other.marks ≡ s.marks → new.page.bitmap ≡ old.page.bitmap → other.settings.size ≡ s.settings.size
    → is_marked other ≡ true → new.page.bitmap.size ≡ other.settings.size
still_sized other new i m b e marked = let was = i.sized (rw m at marked) in cc

pub prepared_in : {dpi : Dpi} {operation : Operation} {s : Situation} {old new : Performer} → IsIn dpi s old
    → IsPrepared dpi operation old new → IsIn dpi (prepared dpi operation s) new
prepared_in {dpi} {operation} {s} {old} {new} i p =
    let k = prepared_page dpi (ends_raster operation) s in
    search (rules, p.fonts, k.fonts, k.marks, p.bitmap, k.size, still_sized (prepared dpi operation s) new i k.marks p.bitmap k.size)

-- ---- the outcome of a command

pub answered : (o : Outcome) {effect : Effect} (old : Settings) {new : Settings} → AnswersAs o (Ok effect) old new
    → (done : Settings × Effect) × (o ≡ Some done) × (effect ≡ done.1) × (new ≡ done.0)
answered None old a = let e = a.0 in absurd cc
answered (Some done) {effect} old a = (done, refl, (let e : ◌≡◌ {A = Result Effect Unsupported} (Ok effect) (Ok done.1) = a.0 in cc), a.1)

-- ---- pages that stay

-- with no marks every dot is white
white_in : {dpi : Dpi} {s : Situation} {old : Performer} → IsIn dpi s old → s.marks ≡ [] → IsBlank old.page.bitmap
white_in i none x y wide high =
    let p = i.painted in p.dots x y (rw p.dpi_is at wide) (rw p.dpi_is at high) ∙ rw none refl

unmarked : (marks : List Mark) → are_marked marks ≡ false → marks ≡ []
unmarked marks e = grind arith

-- and a white page shows no marks
white_painted : {dpi : Dpi} {bitmap : Picture} → bitmap.dpi ≡ dpi → IsBlank bitmap → IsPainted dpi [] bitmap
white_painted d white = record { dpi_is = d; dots = λ x y wide high. white x y (rw d wide) (rw d high) }

-- a page of the size that is set shows the same marks
followed_page : {dpi : Dpi} {s : Situation} {size : Size} {old middle new : Performer} (marked : Bool) → is_marked s ≡ marked
    → IsIn dpi s old → size ≡ s.settings.size → middle.page.bitmap ≡ old.page.bitmap → IsFollowed size middle new
    → IsPainted dpi s.marks new.page.bitmap
followed_page {size = size} {middle = middle} true is i e b f =
    let before : middle.page.bitmap.size ≡ size = let sized = i.sized is in cc in
    rw (f.same before, b) i.painted
followed_page {dpi} {s} {new = new} false is i e b f =
    let none = unmarked s.marks is in
    let resolution : new.page.bitmap.dpi ≡ dpi = cc (f.resolution, b, i.painted.dpi_is) in
    rw none (white_painted resolution (f.white (rw b (white_in i none))))

-- and the performer is where it was
pub followed_in : {dpi : Dpi} {s : Situation} {old new : Performer} → IsIn dpi s old → IsFollowed old.environment.size old new
    → IsIn dpi s new
followed_in {s = s} {old} {new} i f =
    let size : old.environment.size ≡ s.settings.size = cc (i.settings) in
    let painted = followed_page (is_marked s) refl i size refl f in
    let sized : is_marked s ≡ true → new.page.bitmap.size ≡ s.settings.size = λ marked. f.size_is ∙ size in
    search (rules, f.fonts, painted, sized)

-- a marked page has followed
pub has_followed : {dpi : Dpi} {s : Situation} {old : Performer} → IsIn dpi s old → old.is_marked ≡ true
    → IsFollowed old.environment.size old old
has_followed {s = s} {old} i marked =
    let is : is_marked s ≡ true = cc (i.marked, marked) in
    let size : old.page.bitmap.size ≡ old.environment.size = let sized = i.sized is in cc (sized, i.settings) in
    search (rules, size)

-- where the page stays it keeps its size, unless nothing marks it
stayed_size : {dpi : Dpi} (operation : Operation) (value : Value) {s : Situation} {settings : Settings} (effect : Effect) {old : Performer}
    → IsIn dpi s old → outcome dpi operation value (is_marked s) s.settings ≡ Some (settings, effect) → ejects effect (is_marked s) ≡ false
    → is_marked s ≡ true → old.page.bitmap.size ≡ settings.size
stayed_size operation value Eject i o e marked = absurd cc
stayed_size {dpi} operation value {s} Stay i o e marked =
    i.sized marked ∙ sym (size_kept dpi operation value (is_marked s) s.settings o)
stayed_size operation value EjectMarked i o e marked = absurd cc

-- as many pages as there may be
pub pages_fit : (s : Situation) → length s.pages ≤ page_limit → page_refusal s ≡ None
pages_fit s le = let t : nat_le (length s.pages) page_limit ≡ true = grind (arith, nat_tests) in rw t refl

pub pages_past : (s : Situation) → page_limit < length s.pages → page_refusal s ≡ Some TooManyPages
pages_past s gt = let t : nat_le (length s.pages) page_limit ≡ false = grind (arith, nat_tests) in rw t refl

-- what a situation is whose page isn't ejected
abbrev pub with_settings : Settings → Situation → Situation
with_settings settings s = record s { settings = settings }

-- the page that was ejected is the situation's
pub handed_sheet : {dpi : Dpi} (s : Situation) {copies : ℕ} {performer : Performer} {page : Page}
    → IsPainted dpi s.marks performer.page.bitmap → performer.page.bitmap.size ≡ s.settings.size → copies ≡ s.settings.copies
    → IsHanded copies performer page → Shows dpi page (sheet_of s)
handed_sheet {dpi} s {performer = performer} {page} p size c handed =
    let same : page.bitmap.size ≡ s.settings.size = cc (handed.bitmap, size) in record {
      size = sym page.size_is ∙ same;
      resolution = sym page.dpi_is ∙ cc (handed.bitmap, p.dpi_is);
      copies = handed.copies_are ∙ c;
      dots = λ x y wide high. rw handed.bitmap (p.dots x y (rw size wide) (rw size high));
    }

-- ---- a turn and its sink

module _ {S : Type 0} (takes : S → Page → S → Type 0) (dpi : Dpi) where
  -- memory ran out before the page was handed over
  pub turned_memory : (o : Outcome) (s : Situation) (new : Performer) {sink later : S} → later ≡ sink
      → IsTurned takes dpi o s (Err Memory) new sink later
  turned_memory None s new same = same
  turned_memory (Some done) s new same = same

module _ {S : Type 0} (takes : S → Page → S → Type 0) (dpi : Dpi) (operation : Operation) (value : Value) (effect : Effect)
    (s : Situation) where
  -- the outcome in the situation
  abbrev comes_to : Outcome
  comes_to = outcome dpi operation value (is_marked s) s.settings

  pub turned_stays : (old new : Performer) (sink later : S)
      → IsIn dpi s old → AnswersAs (outcome dpi operation value old.is_marked old.environment) (Ok effect) old.environment new.environment
      → ejects effect old.is_marked ≡ false → old.ejected ≤ page_limit → new.page.bitmap ≡ old.page.bitmap → new.is_marked ≡ old.is_marked
      → new.ejected ≡ old.ejected → new.performed ≡ old.performed → new.asks ≡ old.asks → new.raster ≡ old.raster
      → new.fonts ≡ old.fonts → later ≡ sink → IsTurned takes dpi comes_to s (Ok tt) new sink later
  turned_stays old new sink later i a e few b m j p q r t same =
      let d = answered (outcome dpi operation value old.is_marked old.environment) old.environment a in
      let o : comes_to ≡ Some d.0 = let is = d.1 in cc in
      let no : ejects d.0.1 (is_marked s) ≡ false = cc in
      let sized : is_marked s ≡ true → new.page.bitmap.size ≡ d.0.0.size =
      λ marked. rw b (stayed_size operation value d.0.1 i o no marked) in
      rw (o, no) (
        search (rules, d.3, t, b, sized),
        pages_fit (with_settings d.0.0 s) (omega (arith, i.ejected)),
        ([], sym (append-nil s.pages), same),
      )

  -- the settings were set, the page was handed over, and a white one began
  module _ {size : Size} {copies : ℕ} {asked : Asked} {old middle begun last : Performer} (sink later : S) (i : IsIn dpi s old)
      (a : AnswersAs (outcome dpi operation value old.is_marked old.environment) (Ok effect) old.environment middle.environment)
      (does : ejects effect old.is_marked ≡ true) (few : old.ejected < page_limit) (size_is : size ≡ old.environment.size)
      (copies_are : copies ≡ old.environment.copies) (asked_is : asked ≡ old.environment.asked) (f : IsFollowed size middle begun)
      (e : IsEjected asked begun last × Takes takes copies begun sink later)
      (page : middle.page ≡ old.page) (ejected : middle.ejected ≡ old.ejected) (performed : middle.performed ≡ old.performed)
      (raster : middle.raster ≡ old.raster) (fonts : middle.fonts ≡ old.fonts) (asks : middle.asks ≡ old.asks) where
    done_so : (done : Settings × Effect) × (comes_to ≡ Some done) × (middle.environment ≡ done.0) × (ejects done.1 (is_marked s) ≡ true)
    done_so =
        let d = answered (outcome dpi operation value old.is_marked old.environment) old.environment a in
        let yes : ejects d.0.1 (is_marked s) ≡ true = cc in
        (d.0, (let is = d.1 in cc), d.3, yes)

    handed_so : (settings : Settings)
        → (page_refusal (turned_page settings s) ≡ None) × HandsMore takes dpi s (turned_page settings s) sink later
    handed_so settings =
        let count = length-append s.pages (sheet_of s ∷ []) in
        let before : size ≡ s.settings.size = cc (size_is, i.settings) in
        let copied : copies ≡ s.settings.copies = cc (copies_are, i.settings) in
        let bitmap : middle.page.bitmap ≡ old.page.bitmap = cc page in
        let painted = followed_page (is_marked s) refl i before bitmap f in (
          pages_fit (turned_page settings s) (omega (arith, i.ejected, few, count)),
          (sheet_of s ∷ [], refl, (e.1.0, later, handed_sheet s painted (f.size_is ∙ before) copied e.1.1, e.1.2, refl)),
        )

    pub turned_ejects : IsTurned takes dpi comes_to s (Ok tt) last sink later
    turned_ejects =
        let d = done_so in
        let h = handed_so d.0.0 in
        let environment : last.environment ≡ to_first_line d.0.0 = cc in
        let resolution : last.page.bitmap.dpi ≡ dpi = cc (e.0.resolution, f.resolution, page, i.painted.dpi_is) in
        let count = length-append s.pages (sheet_of s ∷ []) in
        let counted : last.ejected ≡ length (s.pages ++ sheet_of s ∷ []) =
        omega (arith, e.0.ejected, f.ejected, ejected, i.ejected, count) in
        rw (d.1, d.3) (search (rules, environment, counted, f.fonts, e.0.fonts, fonts, white_painted resolution e.0.white), h.0, h.1)

-- ---- what is drawn

pub drawn_in : {dpi : Dpi} {mark : Mark} {raster : Option Raster} {s : Situation} {old begun new : Performer} → IsIn dpi s old
    → IsFollowed old.environment.size old begun → IsDrawn mark begun new → new.raster ≡ raster
    → IsIn dpi (record s { raster = raster; marks = mark ∷ s.marks }) new
drawn_in {dpi} {mark} {raster} {s} {old} {begun} {new} i f d r =
    let there = followed_in i f in
    let p = there.painted in
    let painted : IsPainted dpi (mark ∷ s.marks) new.page.bitmap = record {
      dpi_is = cc;
      dots = λ x y wide high.
          d.dots x y (rw (d.size, ← p.dpi_is) at wide) (rw (d.size, ← p.dpi_is) at high)
          ∙ rw (p.dots x y (rw d.size at wide) (rw d.size at high)) refl;
    } in
    let sized : new.page.bitmap.size ≡ s.settings.size = cc (d.size, f.size_is, i.settings) in
    let settings : new.environment ≡ s.settings = cc (d.settings, there.settings) in
    search (rules, settings, d.fonts, there.fonts, painted, sized)
