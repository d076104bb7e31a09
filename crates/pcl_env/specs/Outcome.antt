-- What each command does to the settings and to the page, and which values it takes.
use Rattle.std.specs.Prelude.{◌≡◌, ℕ, ◌+◌, ◌-◌, ◌*◌, ◌/◌, ◌==◌, ◌&&◌, ◌||◌, not, nat_lt, nat_le, Bool, true, min, max, if◌then◌else◌, length, List, [], ◌∷◌, Option, Some, None, Result, Ok, IsErr, ℤ}
use Rattle.std.specs.List.{list_any}
use Rattle.std.specs.Ordering.{int_eq}
use Rattle.pcl_base.specs.declared.dpi.Dpi.{Dpi}
use Rattle.pcl_base.specs.declared.dpi.Dpi.TheVariants.{Dpi300, Dpi600}
use Rattle.pcl_base.specs.declared.method.Method.{Method}
use Rattle.pcl_base.specs.declared.method.Method.TheVariants.{Plain}
use Rattle.pcl_base.specs.declared.operation.Asking.{Asking}
use Rattle.pcl_base.specs.declared.operation.Asking.TheVariants.{PaperSource, SheetSide, Orientation, LeftOffset, TopOffset}
use Rattle.pcl_base.specs.declared.operation.Axis.{Axis}
use Rattle.pcl_base.specs.declared.operation.Axis.TheVariants.{Horizontal, Vertical}
use Rattle.pcl_base.specs.declared.operation.Unit.{Unit as Measure}
use Rattle.pcl_base.specs.declared.operation.Unit.TheVariants.{PclUnit, Decipoint, Column}
use Rattle.pcl_base.specs.declared.operation.Operation.{Operation}
use Rattle.pcl_base.specs.declared.operation.Operation.TheVariants.{Reset, UniversalExit, ClearMargins, HalfLineFeed, HorizontalTab, LineFeed, FormFeed, CarriageReturn, Shift, PageSize, Copies, VerticalMotionIndex, LineSpacing, TopMargin, TextLength, PerforationSkip, OnlyZero, Ask, UnitOfMeasure, HorizontalMotionIndex, LineTermination, LeftMargin, Move, CursorStack, MacroId, RectangleSize, FontId, CharacterCode, DownloadFont, DownloadCharacter, SelectFont, PrintText, RasterResolution, RasterWidth, RasterHeight, RasterPresentation, StartRaster, EndRasterResetMethod, RasterMethod, SeedRowSource, RasterOffset, RasterRow}
use Rattle.pcl_base.specs.declared.profile.Profile.{Profile}
use Rattle.pcl_base.specs.declared.profile.Profile.TheVariants.{Stated, Drivers}
use Rattle.pcl_base.specs.declared.size.Size.{Size}
use Rattle.pcl_base.specs.declared.value.Sign.{Sign}
use Rattle.pcl_base.specs.declared.value.Sign.TheVariants.{Absent, Plus, Minus}
use Rattle.pcl_base.specs.declared.value.Value.{Value}
use Rattle.pcl_base.specs.Limits.{copies_limit, id_limit, stack_limit}
use Rattle.pcl_base.specs.Method.{method_with_code}
use Rattle.pcl_base.specs.Size.{size_with_code, units_wide, units_high}
use Rattle.pcl_base.specs.Value.{whole_of, is_minus, is_exit_number, is_below_zero, scaled_by}
use Rattle.pcl_env.specs.declared.effect.Effect.{Effect}
use Rattle.pcl_env.specs.declared.effect.Effect.TheVariants as page
use Rattle.pcl_env.specs.declared.effect.Unsupported.{Unsupported}
use Rattle.pcl_env.specs.Offset.{page_offset, lies_at}
use Rattle.pcl_env.specs.Settings.{inch, margin, Position, Settings, put_x, put_y, put, to_first_line, asked_with, copies_said, defaults, with_size}

-- the settings after a command and what becomes of the page; none where the value isn't taken
abbrev pub Outcome : Type 0
Outcome = Option (Settings × Effect)

-- these settings, and the page isn't ejected
abbrev pub stays : Settings → Outcome
stays s = Some (s, page.Stay)

-- the same, where the test holds
abbrev pub stays_if : Bool → Settings → Outcome
stays_if test s = if test then stays s else None

-- of the whole part, which isn't below 0
abbrev pub by_count : Value → (ℕ → Outcome) → Outcome
by_count v f = if is_below_zero v then None else f (whole_of v)

-- the number is one of these
abbrev pub is_one_of : List ℕ → ℕ → Bool
is_one_of numbers n = list_any (λ m. m == n) numbers

-- these settings, where the whole part is from 0 on, up to a bound, or one of some numbers
abbrev pub from_zero : Value → Settings → Outcome
from_zero v s = by_count v (λ n. stays s)

-- these settings, where the whole part is from 0 to a bound
abbrev pub up_to : ℕ → Value → Settings → Outcome
up_to most v s = by_count v (λ n. stays_if (nat_le n most) s)

-- these settings, where the whole part is one of these numbers
abbrev pub one_of : List ℕ → Value → Settings → Outcome
one_of numbers v s = by_count v (λ n. stays_if (is_one_of numbers n) s)

-- ---- lines and columns

-- CR goes to the left margin
abbrev pub return_carriage : Settings → Settings
return_carriage s = put_x s.left s

-- LF and FF do CR first where the line termination says so
abbrev pub before_feed : Settings → Settings
before_feed s = if s.feed_returns then return_carriage s else s

-- how far down a line feed may go
abbrev pub feed_limit : Settings → ℕ
feed_limit s = if s.skips then min s.bottom (units_high s.size) else units_high s.size

-- down by so much; past the limit the page is ejected instead
abbrev pub feed : ℕ → Settings → Outcome
feed by s = if nat_lt (feed_limit s) (s.cursor.y + by) then Some (s, page.Eject) else stays (put_y (s.cursor.y + by) s)

-- the next place that is a multiple of eight columns from the left margin; from left of the margin it is the margin
abbrev pub tab_stop : Settings → ℕ
tab_stop s =
    let tab = 8 * s.hmi in
    if nat_lt s.cursor.x s.left then s.left
    else (if s.hmi == 0 then s.cursor.x else s.left + ((s.cursor.x - s.left) / tab + 1) * tab)

-- ---- margins

-- a margin past the page's end isn't taken; on an unmarked page the cursor goes to the first line
abbrev pub set_top : ℕ → Bool → Settings → Settings
set_top top is_marked s =
    let set = record s { top = top; bottom = units_high s.size - margin } in
    if nat_lt (units_high s.size) top then s else (if is_marked then set else to_first_line set)

-- the bottom is put this many units below the upper edge; one below the lower edge isn't taken
abbrev pub set_bottom : ℕ → Settings → Settings
set_bottom bottom s = if nat_lt (units_high s.size) bottom then s else record s { bottom = bottom }

-- a margin from the page's right edge on isn't taken; a cursor left of it goes to it
abbrev pub set_left : ℕ → Settings → Settings
set_left left s =
    if nat_lt left (units_wide s.size) then put_x (max s.cursor.x left) (record s { left = left }) else s

-- ---- moves

-- the length of one of the unit
abbrev pub unit_of : Axis → Measure → Settings → ℕ
unit_of axis PclUnit s = s.pcl_unit
unit_of axis Decipoint s = 10
unit_of Horizontal Column s = s.hmi
unit_of Vertical Column s = s.vmi

-- from where a move without a sign counts: the left edge, the top margin, or for rows the first line
abbrev pub origin_of : Axis → Measure → Settings → ℕ
origin_of Horizontal unit s = 0
origin_of Vertical PclUnit s = s.top
origin_of Vertical Decipoint s = s.top
origin_of Vertical Column s = s.top + 3 * s.vmi / 4

-- with a sign a move counts from the cursor
abbrev pub moved : Sign → ℕ → ℕ → ℕ → ℕ
moved Absent origin cursor amount = origin + amount
moved Plus origin cursor amount = cursor + amount
moved Minus origin cursor amount = cursor - amount

-- the cursor goes along the line, or down the page, as a value in this unit says
abbrev pub move_along : Axis → Measure → Value → Settings → Settings
move_along Horizontal unit v s = put_x (moved v.sign (origin_of Horizontal unit s) s.cursor.x (scaled_by (unit_of Horizontal unit s) v)) s
move_along Vertical unit v s = put_y (moved v.sign (origin_of Vertical unit s) s.cursor.y (scaled_by (unit_of Vertical unit s) v)) s

-- ---- the cursor stack

-- a full stack stays as it is
abbrev pub push : Settings → Settings
push s = if nat_lt (length s.stack) stack_limit then record s { stack = s.cursor ∷ s.stack } else s

-- the newest position comes back, if there is one
abbrev pub popped : List Position → Settings → Settings
popped [] s = s
popped (place ∷ older) s = put place (record s { stack = older })

-- the cursor goes to the position that was pushed last, which leaves the stack, if there is one
abbrev pub pop : Settings → Settings
pop s = popped s.stack s

-- ---- sizes and rasters

-- a page size is set, and ejects a marked page; a number of no size isn't taken
abbrev pub set_size : Option Size → Settings → Outcome
set_size None s = None
set_size (Some size) s = Some (with_size size s, page.EjectMarked)

-- the width of the rectangle, or its height, becomes this many units
abbrev pub set_rectangle : Axis → ℕ → Settings → Settings
set_rectangle Horizontal length s = record s { rectangle_width = length }
set_rectangle Vertical length s = record s { rectangle_height = length }

-- the raster resolutions that are taken on pages of this resolution, in dots per inch
abbrev pub resolutions : Dpi → List ℕ
resolutions Dpi300 = 75 ∷ 100 ∷ 150 ∷ 300 ∷ []
resolutions Dpi600 = 75 ∷ 100 ∷ 150 ∷ 200 ∷ 300 ∷ 600 ∷ []

-- 0 sets none
abbrev pub none_if_zero : ℕ → Option ℕ
none_if_zero n = if n == 0 then None else Some n

-- the method of the rows that follow; a number of no method isn't taken
abbrev pub set_method : Option Method → Settings → Outcome
set_method None s = None
set_method (Some method) s = stays (record s { method = method })

-- ---- what a job asks of the printer besides dots

-- another paper source and another side of the sheet are for the next page
abbrev pub effect_of_asking : Asking → Effect
effect_of_asking PaperSource = page.EjectMarked
effect_of_asking SheetSide = page.EjectMarked
effect_of_asking other = page.Stay

-- An offset moves the page on its sheet, whole: the stated profile takes 0 alone. Drivers send others, but on a marked page only the one
-- that it lies at.
abbrev pub is_offset_taken : Profile → Value → Bool → Option ℤ → Bool
is_offset_taken Stated v m said = whole_of v == 0
is_offset_taken Drivers v m said = not m || int_eq (page_offset v) (lies_at said)

-- the value is taken of what is asked: of the orientation portrait alone, of an offset as the profile and the page allow, else any
abbrev pub is_asking_taken : Asking → Value → Bool → Settings → Bool
is_asking_taken Orientation v m s = whole_of v == 0
is_asking_taken LeftOffset v m s = is_offset_taken s.profile v m s.asked.left_offset
is_asking_taken TopOffset v m s = is_offset_taken s.profile v m s.asked.top_offset
is_asking_taken other v m s = true

-- ---- each command

-- lines per inch that VMI can be set to, and PCL units per inch
abbrev pub line_spacings : List ℕ
line_spacings = 1 ∷ 2 ∷ 3 ∷ 4 ∷ 6 ∷ 8 ∷ 12 ∷ 16 ∷ 24 ∷ 48 ∷ []

-- the numbers of PCL units per inch that are taken
abbrev pub units_of_measure : List ℕ
units_of_measure =
    96 ∷ 100 ∷ 120 ∷ 144 ∷ 150 ∷ 160 ∷ 180 ∷ 200 ∷ 225 ∷ 240 ∷ 288 ∷ 300 ∷ 360
    ∷ 400 ∷ 450 ∷ 480 ∷ 600 ∷ 720 ∷ 800 ∷ 900 ∷ 1200 ∷ 1440 ∷ 1800 ∷ 2400 ∷ 3600 ∷ 7200 ∷ []

-- a command with this value, on a page that is marked or not; all others set nothing, and those whose numbers say what is drawn or
-- done to fonts and macros are refused there
unfoldable pub outcome : Dpi → Operation → Value → Bool → Settings → Outcome
outcome dpi Reset v m s = Some (defaults s.profile, page.EjectMarked)
outcome dpi UniversalExit v m s = if is_exit_number v then Some (defaults s.profile, page.EjectMarked) else None
outcome dpi ClearMargins v m s = stays (record s { left = 0 })
outcome dpi HalfLineFeed v m s = feed (s.vmi / 2) s
outcome dpi HorizontalTab v m s = stays (put_x (tab_stop s) s)
outcome dpi LineFeed v m s = feed s.vmi (before_feed s)
outcome dpi FormFeed v m s = Some (before_feed s, page.Eject)
outcome dpi CarriageReturn v m s = if s.return_feeds then feed s.vmi (return_carriage s) else stays (return_carriage s)
outcome dpi (Shift side) v m s = stays (record s { in_use = side })
outcome dpi PageSize v m s = by_count v (λ n. set_size (size_with_code n) s)
outcome dpi Copies v m s =
    by_count v (λ n. stays_if (nat_le 1 n && nat_le n copies_limit) (record s { copies = n; asked = copies_said n s.asked }))
outcome dpi VerticalMotionIndex v m s = from_zero v (record s { vmi = scaled_by 150 v })
outcome dpi LineSpacing v m s = one_of line_spacings v (record s { vmi = inch / whole_of v })
outcome dpi TopMargin v m s = from_zero v (set_top (whole_of v * s.vmi) m s)
outcome dpi TextLength v m s = by_count v (λ n. stays_if (nat_le 1 n) (set_bottom (s.top + n * s.vmi) s))
outcome dpi PerforationSkip v m s = up_to 1 v (record s { skips = whole_of v == 1 })
outcome dpi OnlyZero v m s = stays_if (whole_of v == 0) s
outcome dpi (Ask what) v m s =
    if is_asking_taken what v m s then Some (record s { asked = asked_with what v s.vmi s.asked }, effect_of_asking what) else None
outcome dpi UnitOfMeasure v m s = one_of units_of_measure v (record s { pcl_unit = inch / whole_of v })
outcome dpi HorizontalMotionIndex v m s = from_zero v (record s { hmi = scaled_by 60 v })
outcome dpi LineTermination v m s =
    up_to 3 v (record s { return_feeds = is_one_of (1 ∷ 3 ∷ []) (whole_of v); feed_returns = is_one_of (2 ∷ 3 ∷ []) (whole_of v) })
outcome dpi LeftMargin v m s = from_zero v (set_left (whole_of v * s.hmi) s)
outcome dpi (Move axis unit) v m s = stays (move_along axis unit v s)
outcome dpi CursorStack v m s = up_to 1 v (if whole_of v == 0 then push s else pop s)
outcome dpi MacroId v m s = up_to id_limit v (record s { macro_id = whole_of v })
outcome dpi (RectangleSize axis unit) v m s = from_zero v (set_rectangle axis (scaled_by (unit_of axis unit s) v) s)
outcome dpi FontId v m s = up_to id_limit v (record s { font_id = whole_of v })
outcome dpi CharacterCode v m s = up_to 255 v (record s { character_code = whole_of v })
outcome dpi DownloadFont v m s = from_zero v s
outcome dpi DownloadCharacter v m s = from_zero v s
outcome dpi (SelectFont side) v m s = from_zero v s
outcome dpi PrintText v m s = from_zero v s
outcome dpi RasterResolution v m s = one_of (resolutions dpi) v (record s { resolution = whole_of v })
outcome dpi RasterWidth v m s = from_zero v (record s { raster_width = none_if_zero (whole_of v) })
outcome dpi RasterHeight v m s = from_zero v (record s { raster_height = none_if_zero (whole_of v) })
outcome dpi RasterPresentation v m s = one_of (0 ∷ 3 ∷ []) v s
outcome dpi StartRaster v m s = up_to 1 v s
outcome dpi EndRasterResetMethod v m s = stays (record s { method = Plain })
outcome dpi RasterMethod v m s = by_count v (λ n. set_method (method_with_code n) s)
outcome dpi SeedRowSource v m s = stays_if (whole_of v == 0) s
outcome dpi RasterOffset v m s = from_zero v s
outcome dpi RasterRow v m s = from_zero v s
outcome dpi other v m s = stays s

-- ---- what a call answers

-- the settings and the effect of the outcome; where the value isn't taken, the settings stay
abbrev pub AnswersAs : Outcome → Result Effect Unsupported → Settings → Settings → Type 0
AnswersAs None answer old new = IsErr answer × (new ≡ old)
AnswersAs (Some done) answer old new = (answer ≡ Ok done.1) × (new ≡ done.0)
