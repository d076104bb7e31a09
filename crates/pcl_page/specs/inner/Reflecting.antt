-- The performer and the situation that it is in.
use Rattle.std.specs.Prelude.{◌≡◌, ℕ, pos, ◌+ℤ◌, ◌-ℤ◌, ◌*ℤ◌, ◌+◌, ◌^◌, ◌<◌, true, false, if◌then◌else◌, unwrap_or, List, ◌++◌, length, ◌⊎◌, Option, Some, None, Result, Ok, Err}
use Rattle.pcl_base.specs.declared.dpi.Dpi.{Dpi}
use Rattle.pcl_base.specs.declared.fault.JobFault.{JobFault}
use Rattle.pcl_base.specs.declared.fault.JobFault.TheVariants as job
use Rattle.pcl_base.specs.declared.fault.CallFault.{CallFault}
use Rattle.pcl_base.specs.declared.fault.CallFault.TheVariants.{Refused, Memory}
use Rattle.pcl_base.specs.declared.kind.Kind.{Kind}
use Rattle.pcl_base.specs.declared.kind.Kind.TheVariants.{UnsupportedValue}
use Rattle.pcl_base.specs.declared.name.Name.TheVariants.{Empty}
use Rattle.pcl_base.specs.declared.operation.Operation.{Operation}
use Rattle.pcl_base.specs.declared.size.Size.{Size}
use Rattle.pcl_base.specs.Operation.{operation_of}
use Rattle.pcl_base.specs.Refusal.{refusal}
use Rattle.pcl_base.specs.Size.{page_width, page_height}
use Rattle.pcl_bitmap.specs.Bitmap.{Picture, dot}
use Rattle.pcl_escape.specs.Said.{Said}
use Rattle.pcl_env.specs.Settings.{Settings, to_first_line}
use Rattle.pcl_fonts.specs.declared.header.FontInfo.{FontInfo}
use Rattle.pcl_fonts.specs.Fields.{Character}
use Rattle.pcl_fonts.specs.History.{FontEvent}
use Rattle.pcl_fonts.specs.Table.{Holds, Follows}
use Rattle.pcl_env.specs.Outcome.{Outcome}
use Rattle.pcl_bitmap.specs.declared.page.Page.{Page}
use Rattle.pcl_page.specs.declared.performer.Performer.{Performer}
use Rattle.pcl_page.specs.declared.text.Printed.{Printed}
use Rattle.pcl_bitmap.specs.declared.ink.Ink.TheVariants.{Black}
use Rattle.pcl_bitmap.specs.Dots.{is_black_ink, pattern_dot}
use Rattle.pcl_env.specs.declared.asked.Asked.{Asked}
use Rattle.pcl_page.specs.Asks.{with_page, asks_of}
use Rattle.pcl_page.specs.Marks.{Mark, is_black, dot_at}
use Rattle.pcl_page.specs.Text.{dots_per_bit}
use Rattle.pcl_page.specs.Raster.{Raster, raster_from, row_sent, with_row, row_mark, ends_raster}
use Rattle.pcl_page.specs.Situation.{Sheet, Situation, settings_below, is_marked, turned, at_end, page_refusal, after, counted_in_limit, within_page_limit, ◌|>◌}
use Rattle.pcl_page.specs.Delivering.{Hands}

-- a bitmap shows marks
pub record IsPainted (dpi : Dpi) (marks : List Mark) (bitmap : Picture) : Type 0 where
  pub dpi_is : bitmap.dpi ≡ dpi
  pub dots : (x y : ℕ) → x < page_width bitmap.size dpi → y < page_height bitmap.size dpi → dot bitmap x y ≡ is_black marks x y

-- the performer is in the situation: a page that is marked has the size that is set, and one that isn't may have any
pub record IsIn (dpi : Dpi) (s : Situation) (performer : Performer) : Type 0 where
  pub settings : performer.environment ≡ s.settings
  pub raster : performer.raster ≡ s.raster
  pub marked : performer.is_marked ≡ is_marked s
  pub ejected : performer.ejected ≡ length s.pages
  pub performed : performer.performed ≡ s.performed
  pub asks : asks_of performer.asks ≡ s.asks
  pub fonts : Holds performer.fonts s.fonts
  pub painted : IsPainted dpi s.marks performer.page.bitmap
  pub sized : is_marked s ≡ true → performer.page.bitmap.size ≡ s.settings.size

-- no dot is black
abbrev pub IsBlank : Picture → Type 0
IsBlank bitmap = (x y : ℕ) → x < page_width bitmap.size bitmap.dpi → y < page_height bitmap.size bitmap.dpi → dot bitmap x y ≡ false

-- the page has this size: it is the same where it had that already, and white where it was white
pub record IsFollowed (size : Size) (old new : Performer) : Type 0 where
  pub settings : new.environment ≡ old.environment
  pub raster : new.raster ≡ old.raster
  pub marked : new.is_marked ≡ old.is_marked
  pub ejected : new.ejected ≡ old.ejected
  pub fonts : new.fonts ≡ old.fonts
  pub performed : new.performed ≡ old.performed
  pub asks : new.asks ≡ old.asks
  pub size_is : new.page.bitmap.size ≡ size
  pub resolution : new.page.bitmap.dpi ≡ old.page.bitmap.dpi
  pub same : old.page.bitmap.size ≡ size → new.page.bitmap ≡ old.page.bitmap
  pub white : IsBlank old.page.bitmap → IsBlank new.page.bitmap

-- the page that was asked with this was handed over, and a white one of its size begins
pub record IsEjected (asked : Asked) (old new : Performer) : Type 0 where
  pub settings : new.environment ≡ to_first_line old.environment
  pub raster : new.raster ≡ old.raster
  pub marked : new.is_marked ≡ false
  pub ejected : new.ejected ≡ old.ejected + 1
  pub fonts : new.fonts ≡ old.fonts
  pub performed : new.performed ≡ old.performed
  pub asks : asks_of new.asks ≡ with_page asked (asks_of old.asks)
  pub size : new.page.bitmap.size ≡ old.page.bitmap.size
  pub resolution : new.page.bitmap.dpi ≡ old.page.bitmap.dpi
  pub white : IsBlank new.page.bitmap

-- the page is the performer's with these copies
pub record IsHanded (copies : ℕ) (performer : Performer) (page : Page) : Type 0 where
  pub size : page.size ≡ performer.page.size
  pub resolution : page.dpi ≡ performer.page.dpi
  pub copies_are : page.copies ≡ copies
  pub bitmap : page.bitmap ≡ performer.page.bitmap

-- the sink took the page with these copies
abbrev pub Takes : {S : Type 0} → (S → Page → S → Type 0) → ℕ → Performer → S → S → Type 0
Takes {S} takes copies performer old new = (page : Page) × IsHanded copies performer page × takes old page new

-- the raster is this one, and all else is as before
pub record HasRaster (raster : Option Raster) (old new : Performer) : Type 0 where
  pub settings : new.environment ≡ old.environment
  pub raster_is : new.raster ≡ raster
  pub marked : new.is_marked ≡ old.is_marked
  pub ejected : new.ejected ≡ old.ejected
  pub fonts : new.fonts ≡ old.fonts
  pub performed : new.performed ≡ old.performed
  pub asks : new.asks ≡ old.asks
  pub bitmap : new.page.bitmap ≡ old.page.bitmap

-- a raster that the command ends has ended, and all else but the cursor is as before
pub record IsPrepared (dpi : Dpi) (operation : Operation) (old new : Performer) : Type 0 where
  pub settings : new.environment ≡ (if ends_raster operation then settings_below dpi old.raster old.environment else old.environment)
  pub raster : new.raster ≡ (if ends_raster operation then None else old.raster)
  pub marked : new.is_marked ≡ old.is_marked
  pub ejected : new.ejected ≡ old.ejected
  pub fonts : new.fonts ≡ old.fonts
  pub performed : new.performed ≡ old.performed
  pub asks : new.asks ≡ old.asks
  pub bitmap : new.page.bitmap ≡ old.page.bitmap

-- something was drawn on the page
pub record IsDrawn (mark : Mark) (old new : Performer) : Type 0 where
  pub settings : new.environment ≡ old.environment
  pub marked : new.is_marked ≡ true
  pub ejected : new.ejected ≡ old.ejected
  pub fonts : new.fonts ≡ old.fonts
  pub performed : new.performed ≡ old.performed
  pub asks : new.asks ≡ old.asks
  pub size : new.page.bitmap.size ≡ old.page.bitmap.size
  pub resolution : new.page.bitmap.dpi ≡ old.page.bitmap.dpi
  pub dots : (x y : ℕ) → x < page_width old.page.bitmap.size old.page.bitmap.dpi → y < page_height old.page.bitmap.size old.page.bitmap.dpi
      → dot new.page.bitmap x y ≡ (if mark.covers x y then is_black_ink mark.ink else dot old.page.bitmap x y)

-- a mark's dots are black, and the page is marked
pub record IsInked (mark : Mark) (performer : Performer) : Type 0 where
  pub marked : performer.is_marked ≡ true
  pub black : (x y : ℕ) → x < page_width performer.page.bitmap.size performer.page.bitmap.dpi
      → y < page_height performer.page.bitmap.size performer.page.bitmap.dpi → mark.covers x y ≡ true
      → dot performer.page.bitmap x y ≡ true

-- the dots of a character of a font, with the cursor at a dot
abbrev pub drawn_character : Dpi → FontInfo → Character → ℕ → ℕ → Mark
drawn_character dpi font c x y = record {
  covers = pattern_dot (pos x +ℤ c.left *ℤ pos (dots_per_bit dpi font.resolution))
      (pos y -ℤ c.top *ℤ pos (dots_per_bit dpi font.resolution)) (dots_per_bit dpi font.resolution) c.width c.height c.rows;
  ink = Black;
}

-- a character is printed where the cursor is
pub record IsAtCursor (dpi : Dpi) (here : Printed) (s : Settings) : Type 0 where
  pub x : here.x ≡ dot_at dpi s.cursor.x
  pub y : here.y ≡ dot_at dpi s.cursor.y
  pub near : (here.x < 2 ^ 30) × (here.y < 2 ^ 30)

-- the character that was printed last is inked, if one was
abbrev pub IsLastInked : Dpi → FontInfo → (ℕ → Option Character) → Option Printed → Performer → Type 0
IsLastInked dpi font characters None performer = Unit {0}
IsLastInked dpi font characters (Some last) performer =
    (c : Character) → characters last.code ≡ Some c → IsInked (drawn_character dpi font c last.x last.y) performer

-- something became of fonts, and all else is as before
pub record HasEvent (event : FontEvent) (old new : Performer) : Type 0 where
  pub settings : new.environment ≡ old.environment
  pub raster : new.raster ≡ old.raster
  pub marked : new.is_marked ≡ old.is_marked
  pub ejected : new.ejected ≡ old.ejected
  pub performed : new.performed ≡ old.performed
  pub asks : new.asks ≡ old.asks
  pub follows : Follows old.fonts new.fonts event
  pub bitmap : new.page.bitmap ≡ old.page.bitmap

-- what is set is this, on a page of the same size, and all else is as before
pub record HasSettings (settings : Settings) (old new : Performer) : Type 0 where
  pub settings_are : new.environment ≡ settings
  pub size : settings.size ≡ old.environment.size
  pub raster : new.raster ≡ old.raster
  pub marked : new.is_marked ≡ old.is_marked
  pub ejected : new.ejected ≡ old.ejected
  pub performed : new.performed ≡ old.performed
  pub asks : new.asks ≡ old.asks
  pub fonts : new.fonts ≡ old.fonts
  pub bitmap : new.page.bitmap ≡ old.page.bitmap

-- the situation was reached, or it is refused why, or memory ran out
abbrev pub Draws : Dpi → Option Kind → Situation → Result (Unit {0}) CallFault → Performer → Type 0
Draws dpi why s (Ok unit) new = (why ≡ None) × IsIn dpi s new
Draws dpi why s (Err (Refused kind)) new = why ≡ Some kind
Draws dpi why s (Err Memory) new = Unit {0}

-- a row was sent to the raster that has begun, or to one that starts at the page's left edge, on a page of the size that is set
pub record IsSent (dpi : Dpi) (bytes : List ℕ) (old new : Performer) : Type 0 where
  pub begun : Performer
  pub followed : IsFollowed old.environment.size old begun
  pub raster : Raster
  pub raster_is : raster ≡ unwrap_or old.raster (raster_from dpi 0 old.environment)
  pub sent : new.raster ≡ Some (with_row (row_sent old.environment.method bytes raster) raster)
  pub drawn : IsDrawn (row_mark (row_sent old.environment.method bytes raster) raster) begun new

-- the sink took the pages by which a situation has more than another
abbrev pub HandsMore : {S : Type 0} → (S → Page → S → Type 0) → Dpi → Situation → Situation → S → S → Type 0
HandsMore {S} takes dpi before now old new = (more : List Sheet) × (now.pages ≡ before.pages ++ more) × Hands takes dpi more old new

-- the settings of an outcome were set and the page was turned; or why not, or memory ran out, and then the sink is as before
abbrev pub IsTurned : {S : Type 0} → (S → Page → S → Type 0) → Dpi → Outcome → Situation → Result (Unit {0}) CallFault → Performer → S → S
    → Type 0
IsTurned {S} takes dpi (Some done) s (Ok unit) new old_sink new_sink =
    IsIn dpi (turned done.0 done.1 s) new × (page_refusal (turned done.0 done.1 s) ≡ None)
    × HandsMore takes dpi s (turned done.0 done.1 s) old_sink new_sink
IsTurned {S} takes dpi (Some done) s (Err (Refused kind)) new old_sink new_sink =
    (page_refusal (turned done.0 done.1 s) ≡ Some kind) × (new_sink ≡ old_sink)
IsTurned {S} takes dpi None s (Ok unit) new old_sink new_sink = ⊥
IsTurned {S} takes dpi None s (Err (Refused kind)) new old_sink new_sink = (kind ≡ UnsupportedValue) × (new_sink ≡ old_sink)
IsTurned {S} takes dpi outcome s (Err Memory) new old_sink new_sink = new_sink ≡ old_sink

-- the situation after a command that counts, the page that it ejects among its pages, or the first reason to refuse it; macros aside
abbrev pub after_checked : Dpi → Said → Situation → Result Situation Kind
after_checked dpi command s = counted_in_limit s |> after dpi (operation_of command.name) command |> within_page_limit

-- a command was performed, or it is refused, or memory ran out, before the page was handed over that it ejects or after that
abbrev pub IsHandled : {S : Type 0} → (S → Page → S → Type 0) → Dpi → Said → Situation → Result Operation CallFault → Performer → S → S
    → Type 0
IsHandled {S} takes dpi command s (Ok operation) new old_sink new_sink =
    (later : Situation) × (operation_of command.name ≡ Some operation) × (after_checked dpi command s ≡ Ok later) × IsIn dpi later new
    × HandsMore takes dpi s later old_sink new_sink
IsHandled {S} takes dpi command s (Err (Refused kind)) new old_sink new_sink =
    (after_checked dpi command s ≡ Err kind) × (new_sink ≡ old_sink)
IsHandled {S} takes dpi command s (Err Memory) new old_sink new_sink =
    (new_sink ≡ old_sink) ⊎ ((later : Situation) × (after_checked dpi command s ≡ Ok later) × HandsMore takes dpi s later old_sink new_sink)

-- the input's end was performed, or it is refused at the end with the empty name, or memory ran out
abbrev pub EndDone : {S : Type 0} → (S → Page → S → Type 0) → Dpi → ℕ → Situation → Result (Unit {0}) JobFault → Performer → S → S
    → Type 0
EndDone {S} takes dpi end s (Ok unit) new old_sink new_sink =
    (page_refusal (at_end dpi s) ≡ None) × HandsMore takes dpi s (at_end dpi s) old_sink new_sink
    × (asks_of new.asks ≡ (at_end dpi s).asks)
EndDone {S} takes dpi end s (Err (job.Refused why)) new old_sink new_sink =
    (kind : Kind) × (page_refusal (at_end dpi s) ≡ Some kind) × (why ≡ refusal kind end Empty) × (new_sink ≡ old_sink)
EndDone {S} takes dpi end s (Err job.Memory) new old_sink new_sink = new_sink ≡ old_sink
