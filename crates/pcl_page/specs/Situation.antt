-- Where a job stands, and what a command outside of macros makes of that.
use Rattle.std.specs.Prelude.{ℕ, ◌+◌, ◌*◌, ◌==◌, ◌&&◌, ◌||◌, not, is_some, Bool, true, false, nat_le, unwrap_or, if◌then◌else◌, length, List, [], ◌∷◌, ◌++◌, Option, Some, None, Result, Ok, Err}
use Rattle.std.specs.Option.{option_map, option_and_then}
use Rattle.pcl_base.specs.declared.dpi.Dpi.{Dpi}
use Rattle.pcl_base.specs.declared.kind.Kind.{Kind}
use Rattle.pcl_base.specs.declared.kind.Kind.TheVariants.{UnsupportedCommand, UnsupportedValue, TooManyCommands, TooManyPages}
use Rattle.pcl_base.specs.declared.operation.Asking.{Asking}
use Rattle.pcl_base.specs.declared.operation.Asking.TheVariants.{Sides, MediaType, PaperSource, SheetSide, Orientation, JobSeparation}
use Rattle.pcl_base.specs.declared.operation.Operation.{Operation}
use Rattle.pcl_base.specs.declared.operation.Operation.TheVariants.{Reset, UniversalExit, PageSize, Ask, FillRectangle, ControlFonts, DownloadFont, DownloadCharacter, SelectFont, PrintText, StartRaster, RasterOffset, RasterRow}
use Rattle.pcl_base.specs.declared.profile.Profile.{Profile}
use Rattle.pcl_base.specs.declared.size.Size.{Size}
use Rattle.pcl_base.specs.declared.value.Value.{Value}
use Rattle.pcl_base.specs.Dpi.{units_per_dot}
use Rattle.pcl_base.specs.Limits.{command_limit, page_limit}
use Rattle.pcl_base.specs.Operation.{is_stated}
use Rattle.pcl_base.specs.Value.{whole_of, signed_whole, count_of}
use Rattle.pcl_bitmap.specs.declared.ink.Ink.{Ink}
use Rattle.pcl_bitmap.specs.declared.ink.Ink.TheVariants.{Black, White}
use Rattle.pcl_bitmap.specs.Dots.{rectangle_dot}
use Rattle.pcl_escape.specs.Said.{Said}
use Rattle.pcl_env.specs.declared.effect.Effect.{Effect}
use Rattle.pcl_env.specs.declared.effect.Effect.TheVariants.{Stay, Eject, EjectMarked}
use Rattle.pcl_env.specs.Settings.{Position, Settings, defaults, put, to_first_line, font_in_use}
use Rattle.pcl_env.specs.Outcome.{Outcome, outcome}
use Rattle.pcl_fonts.specs.declared.fonts.FontControl.{FontControl}
use Rattle.pcl_fonts.specs.declared.fonts.FontControl.TheVariants.{All, Temporary}
use Rattle.pcl_fonts.specs.declared.header.FontInfo.{FontInfo}
use Rattle.pcl_fonts.specs.Fields.{Font, Character, info_of}
use Rattle.pcl_fonts.specs.History.{FontEvent, header, character, control, font_after, has_permanent as is_font_permanent}
use Rattle.pcl_macros.specs.History.{MacroEvent, has_permanent as is_macro_permanent}
use Rattle.pcl_macros.specs.Table.{Begun}
use Rattle.pcl_page.specs.Asks.{Asks, no_asks, with_page, with_exit, with_reset, restarted, with_side, with_said_size, with_said_sides, with_said_source, with_separation, lasting_if}
use Rattle.pcl_page.specs.Marks.{Mark, are_marked, dot_at, dots_of}
use Rattle.pcl_page.specs.Text.{control_of, select_by_id, header_refusal, character_refusal, text_refusal, prints, character_mark, after_character, after_blank}
use Rattle.pcl_page.specs.Raster.{Raster, raster_from, skipped, row_sent, with_row, row_mark, is_ignored_in_raster, ends_raster}

-- a page as the job means it, where `Page` of the code is one that was painted
pub record Sheet : Type 0 where
  pub size : Size
  pub copies : ℕ
  pub marks : List Mark

-- where a job stands: what is set, the raster that has begun, what became of soft fonts and of macros, the newest first, the
-- definition that is open, the marks of the page, the newest first, the pages that were ejected, in order, what was asked
-- besides dots, and how many commands were performed
pub record Situation : Type 0 where
  pub settings : Settings
  pub raster : Option Raster
  pub fonts : List FontEvent
  pub macros : List MacroEvent
  pub begun : Option Begun
  pub marks : List Mark
  pub pages : List Sheet
  pub asks : Asks
  pub performed : ℕ

-- before the first command of a job that is read by this profile
abbrev pub at_start : Profile → Situation
at_start profile = record {
  settings = defaults profile;
  raster = None;
  fonts = [];
  macros = [];
  begun = None;
  marks = [];
  pages = [];
  asks = no_asks;
  performed = 0;
}

-- whether something was performed that marks the page
abbrev pub is_marked : Situation → Bool
is_marked s = are_marked s.marks

-- ---- the end of a raster

-- the end of a raster puts the cursor below its last row
abbrev pub below : Dpi → Raster → Position
below dpi r = record { x = r.left * units_per_dot dpi; y = (r.top + r.rows * r.scale) * units_per_dot dpi }

-- the cursor goes below the raster, where one has begun
abbrev pub settings_below : Dpi → Option Raster → Settings → Settings
settings_below dpi None s = s
settings_below dpi (Some r) s = put (below dpi r) s

-- the raster ends, where one has begun, and the cursor goes below it
abbrev pub end_raster : Dpi → Situation → Situation
end_raster dpi s = record s { settings = settings_below dpi s.raster s.settings; raster = None }

-- ---- the page

-- the page as it would be ejected now: its size, its copies and its marks
abbrev pub sheet_of : Situation → Sheet
sheet_of s = record { size = s.settings.size; copies = s.settings.copies; marks = s.marks }

-- whether a command ejects the page: some never, some always, some where it is marked
abbrev pub ejects : Effect → Bool → Bool
ejects Stay marked = false
ejects Eject marked = true
ejects EjectMarked marked = marked

-- the page is ejected: it has the size and the copies from before these settings, and was asked with what was set before
abbrev pub turned_page : Settings → Situation → Situation
turned_page settings s = record s {
  settings = to_first_line settings;
  marks = [];
  pages = s.pages ++ sheet_of s ∷ [];
  asks = with_page s.settings.asked s.asks;
}

-- The settings change, and the page is ejected where the command says so. The cursor then goes to the first line.
abbrev pub turned : Settings → Effect → Situation → Situation
turned settings effect s = if ejects effect (is_marked s) then turned_page settings s else record s { settings = settings }

-- ---- marks and rasters

-- what a rectangle is filled with, by the number of its command
abbrev pub ink_of : Value → Option Ink
ink_of value =
    option_and_then (λ n. if n == 0 || n == 5 then Some Black else (if n == 1 then Some White else None)) (count_of value)

-- the rectangle that is set, with its upper left dot at the cursor's, in this ink
abbrev pub rectangle_mark : Dpi → Ink → Settings → Mark
rectangle_mark dpi ink s = record {
  covers = rectangle_dot (dot_at dpi s.cursor.x) (dot_at dpi s.cursor.y) (dots_of dpi s.rectangle_width) (dots_of dpi s.rectangle_height);
  ink = ink;
}

-- the rectangle is filled with this ink, and marks the page
abbrev pub filled_with : Dpi → Option Ink → Situation → Situation
filled_with dpi None s = s
filled_with dpi (Some ink) s = record s { marks = rectangle_mark dpi ink s.settings ∷ s.marks }

-- ---- fonts and text

-- one thing more became of the soft fonts: a header, a character or a control
abbrev pub with_event : FontEvent → Situation → Situation
with_event event s = record s { fonts = event ∷ s.fonts }

-- a header and a character are for the ID and the code that were set last; no data are none
abbrev pub with_font : List ℕ → Situation → Situation
with_font [] s = s
with_font (byte ∷ bytes) s = with_event (header s.settings.font_id (byte ∷ bytes)) s

-- a character for the ID and the code that were set last; without data there is none
abbrev pub with_character : List ℕ → Situation → Situation
with_character [] s = s
with_character (byte ∷ bytes) s = with_event (character s.settings.font_id s.settings.character_code (byte ∷ bytes)) s

-- a font control changes what stays in the printer: all fonts, or one that the job didn't send
abbrev pub font_lasts : FontControl → Bool → Bool
font_lasts All is_sent = true
font_lasts Temporary is_sent = false
font_lasts other is_sent = not is_sent

-- where the test holds, the job does what `lasts` says, and asks for all of its bytes
abbrev pub with_lasting : Bool → Situation → Situation
with_lasting test s = record s { asks = lasting_if test s.asks }

-- a font control, for the font and the character whose ID and code were set last
abbrev pub fonts_controlled : Option FontControl → Situation → Situation
fonts_controlled None s = s
fonts_controlled (Some what) s =
    let is_sent = is_some (font_after s.fonts s.settings.font_id) in
    with_event (control what s.settings.font_id s.settings.character_code) (with_lasting (font_lasts what is_sent) s)

-- the font that is selected and in use, where it is there
abbrev pub font_now : Situation → Option Font
font_now s = option_and_then (font_after s.fonts) (font_in_use s.settings)

-- a code that prints no character: a space moves the cursor
abbrev pub blank_passed : ℕ → Situation → Situation
blank_passed code s = record s { settings = after_blank code s.settings }

-- one code in a font: the character that it prints marks the page at the cursor, which goes on
abbrev pub code_printed : Dpi → FontInfo → Option Character → ℕ → Situation → Situation
code_printed dpi font None code s = blank_passed code s
code_printed dpi font (Some c) code s =
    record s { settings = after_character font c s.settings; marks = character_mark dpi font c s.settings ∷ s.marks }

-- codes, by the characters that they print
abbrev pub codes_printed : Dpi → FontInfo → (ℕ → Option Character) → List ℕ → Situation → Situation
codes_printed dpi font characters [] s = s
codes_printed dpi font characters (code ∷ codes) s =
    codes_printed dpi font characters codes (code_printed dpi font (characters code) code s)

-- codes that print no characters
abbrev pub blanks_passed : List ℕ → Situation → Situation
blanks_passed [] s = s
blanks_passed (code ∷ codes) s = blanks_passed codes (blank_passed code s)

-- without a font no code prints a character
abbrev pub text_in : Dpi → List ℕ → Option FontInfo → Situation → Situation
text_in dpi codes None s = blanks_passed codes s
text_in dpi codes (Some font) s = codes_printed dpi font (prints s.fonts (font_in_use s.settings)) codes s

-- ---- universal exits

-- a universal exit with these lines was performed
abbrev pub exited : List ℕ → Situation → Situation
exited lines s = record s { asks = with_exit (length s.pages) lines s.asks }

-- the printer is put back to its defaults, besides what is set: a reset deletes the temporary fonts
abbrev pub put_back : Situation → Situation
put_back s = with_event (control Temporary 0 0) (record s { asks = restarted s.asks })

-- the next page is asked for on this side of a sheet, or from this source; sides, a media type and an orientation eject a marked page on
-- some printers, and what only drivers ask holds for all of a page
abbrev pub asked_for : Asking → Value → Situation → Situation
asked_for SheetSide value s = record s { asks = with_side (signed_whole value) s.asks }
asked_for PaperSource value s = record s { asks = with_said_source (signed_whole value) s.asks }
asked_for JobSeparation value s = with_lasting (is_marked s) (record s { asks = with_separation (signed_whole value) s.asks })
asked_for Sides value s = with_lasting (is_marked s) (record s { asks = with_said_sides (signed_whole value) s.asks })
asked_for MediaType value s = with_lasting (is_marked s) s
asked_for Orientation value s = with_lasting (is_marked s) s
asked_for other value s = if is_stated other then s else with_lasting (is_marked s) s

-- ---- what a command draws

-- What a command draws, or does to the raster and to fonts. A row is sent to the raster that has begun; outside a raster it starts one at
-- the page's left edge. It marks the page, and becomes the seed row.
abbrev pub drawn : Dpi → Operation → Said → Situation → Situation
drawn dpi Reset command s = put_back (record s { asks = with_reset s.asks })
drawn dpi UniversalExit command s = put_back (exited command.bytes s)
drawn dpi PageSize command s = record s { asks = with_said_size (signed_whole command.value) s.asks }
drawn dpi (Ask what) command s = asked_for what command.value s
drawn dpi ControlFonts command s = fonts_controlled (control_of command.value) s
drawn dpi DownloadFont command s = with_font command.bytes s
drawn dpi DownloadCharacter command s = with_character command.bytes s
drawn dpi (SelectFont side) command s = record s { settings = select_by_id side (whole_of command.value) s.fonts s.settings }
drawn dpi PrintText command s = text_in dpi command.bytes (info_of (font_now s)) s
drawn dpi FillRectangle command s = filled_with dpi (ink_of command.value) s
drawn dpi StartRaster command s =
    record s { raster = Some (raster_from dpi (if whole_of command.value == 0 then 0 else dot_at dpi s.settings.cursor.x) s.settings) }
drawn dpi RasterOffset command s = record s { raster = option_map (skipped (whole_of command.value)) s.raster }
drawn dpi RasterRow command s =
    let r = unwrap_or s.raster (raster_from dpi 0 s.settings) in
    let row = row_sent s.settings.method command.bytes r in
    record s { raster = Some (with_row row r); marks = row_mark row r ∷ s.marks }
drawn dpi other command s = s

-- why a command isn't drawn that sets what it sets: a number that says nothing is a value that isn't taken
abbrev pub draw_refusal : Dpi → Operation → Said → Situation → Option Kind
draw_refusal dpi ControlFonts command s = if is_some (control_of command.value) then None else Some UnsupportedValue
draw_refusal dpi FillRectangle command s = if is_some (ink_of command.value) then None else Some UnsupportedValue
draw_refusal dpi DownloadFont command s = header_refusal s.settings.profile dpi command.bytes
draw_refusal dpi DownloadCharacter command s =
    character_refusal s.settings.profile command.bytes (font_after s.fonts s.settings.font_id)
draw_refusal dpi PrintText command s = text_refusal command.bytes (font_now s)
draw_refusal dpi other command s = None

-- ---- one command, in the order of its checks

-- the situation, or why there is none
abbrev pub unless_refused : Option Kind → Situation → Result Situation Kind
unless_refused None s = Ok s
unless_refused (Some kind) s = Err kind

-- what comes next follows only where nothing was refused
infixl 10 ◌|>◌
abbrev pub ◌|>◌ : Result Situation Kind → (Situation → Result Situation Kind) → Result Situation Kind
Ok s |> next = next s
Err kind |> next = Err kind

-- one command more was performed
abbrev pub counted : Situation → Situation
counted s = record s { performed = s.performed + 1 }

-- one command more may be performed, and counts
abbrev pub counted_in_limit : Situation → Result Situation Kind
counted_in_limit s = if nat_le command_limit s.performed then Err TooManyCommands else Ok (counted s)

-- whether the command is ignored, as some are in a raster
abbrev pub is_ignored : Operation → Situation → Bool
is_ignored operation s = is_some s.raster && is_ignored_in_raster operation

-- a raster that the command ends is ended first
abbrev pub prepared : Dpi → Operation → Situation → Situation
prepared dpi operation s = if ends_raster operation then end_raster dpi s else s

-- a value that is taken sets something and may turn the page
abbrev pub turned_by : Outcome → Situation → Result Situation Kind
turned_by None s = Err UnsupportedValue
turned_by (Some done) s = Ok (turned done.0 done.1 s)

-- what a command sets, and whether it ejects the page, before it draws; or its value isn't taken
abbrev pub taken : Dpi → Operation → Value → Situation → Result Situation Kind
taken dpi operation value s = turned_by (outcome dpi operation value (is_marked s) s.settings) s

-- A command that counts, by what its name means: an unknown name is refused, and in a raster some are ignored. What becomes of the page is
-- known before anything is drawn.
unfoldable pub after : Dpi → Option Operation → Said → Situation → Result Situation Kind
after dpi None command s = Err UnsupportedCommand
after dpi (Some operation) command s =
    if is_ignored operation s then Ok s
    else (taken dpi operation command.value (prepared dpi operation s)
    |> λ now. unless_refused (draw_refusal dpi operation command now) (drawn dpi operation command now))

-- one page more than there may be was ejected
abbrev pub page_refusal : Situation → Option Kind
page_refusal s = if nat_le (length s.pages) page_limit then None else Some TooManyPages

-- a command is refused where more pages were ejected than there may be
abbrev pub within_page_limit : Situation → Result Situation Kind
within_page_limit s = unless_refused (page_refusal s) s

-- ---- the end of the input

-- the end of the input acts as a reset that counts nothing; no macro runs after it. Fonts and macros that the job made permanent stay in
-- the printer.
abbrev pub at_end : Dpi → Situation → Situation
at_end dpi s =
    put_back (with_lasting (is_macro_permanent s.macros) (with_lasting (is_font_permanent s.fonts)
    (turned (defaults s.settings.profile) EjectMarked (end_raster dpi s))))
