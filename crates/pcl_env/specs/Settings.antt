-- What a job has set, and its cursor. Lengths and positions are in units of 1/7200 inch, those of rasters in raster dots.
use Rattle.std.specs.Prelude.{ℕ, suc, ◌+◌, ◌-◌, ◌*◌, ◌/◌, ◌*ℤ◌, Bool, true, false, if◌then◌else◌, min, List, [], Option, Some, None, ℤ, pos, negsuc}
use Rattle.std.specs.Ordering.{int_eq}
use Rattle.pcl_base.specs.declared.method.Method.{Method}
use Rattle.pcl_base.specs.declared.method.Method.TheVariants.{Plain}
use Rattle.pcl_base.specs.declared.operation.Asking.{Asking}
use Rattle.pcl_base.specs.declared.operation.Asking.TheVariants.{Sides, OutputBin, MediaType, PaperSource, SheetSide, PageLength, Orientation, LeftOffset, TopOffset, JobSeparation, TextScale, PrintQuality, Shingling, Depletion, RasterQuality}
use Rattle.pcl_base.specs.declared.operation.Side.{Side}
use Rattle.pcl_base.specs.declared.operation.Side.TheVariants.{Primary, Secondary}
use Rattle.pcl_base.specs.declared.profile.Profile.{Profile}
use Rattle.pcl_base.specs.declared.size.Size.{Size}
use Rattle.pcl_base.specs.declared.size.Size.TheVariants.{Letter}
use Rattle.pcl_base.specs.declared.value.Value.{Value}
use Rattle.pcl_base.specs.Size.{code_of, units_wide, units_high}
use Rattle.pcl_base.specs.Value.{signed_whole}
use Rattle.pcl_env.specs.declared.asked.Asked.{Asked}
use Rattle.pcl_env.specs.Offset.{page_offset}

-- ---- lengths

-- how many units an inch has
abbrev pub inch : ℕ
inch = 7200

-- above and below the text, until a job sets another
abbrev pub margin : ℕ
margin = inch / 2

-- ---- the settings

-- a place on the page, from its upper left corner
pub record Position : Type 0 where
  pub x : ℕ
  pub y : ℕ

-- what the commands so far have set, and where the cursor stands
pub record Settings : Type 0 where
  -- which commands a job may have: the same from its first to its last
  pub profile : Profile
  pub size : Size
  pub copies : ℕ
  -- the PCL unit, the column width (HMI) and the line spacing (VMI)
  pub pcl_unit : ℕ
  pub hmi : ℕ
  pub vmi : ℕ
  -- the margins, as places on the page
  pub top : ℕ
  pub bottom : ℕ
  pub left : ℕ
  -- a line feed skips the bottom margin; CR does LF too; LF and FF do CR first
  pub skips : Bool
  pub return_feeds : Bool
  pub feed_returns : Bool
  -- the cursor, and the positions on its stack, the newest first
  pub cursor : Position
  pub stack : List Position
  -- the macro, the font and the character that are meant, the fonts that are selected, and which of the two is in use
  pub macro_id : ℕ
  pub font_id : ℕ
  pub character_code : ℕ
  pub primary : Option ℕ
  pub secondary : Option ℕ
  pub in_use : Side
  -- the sizes of a rectangle
  pub rectangle_width : ℕ
  pub rectangle_height : ℕ
  -- rasters: dots per inch, the width and the height where they are set, and how row data are sent
  pub resolution : ℕ
  pub raster_width : Option ℕ
  pub raster_height : Option ℕ
  pub method : Method
  -- what the job asks of the printer besides dots
  pub asked : Asked

-- ---- moves

-- the cursor is held within the page
abbrev pub put_x : ℕ → Settings → Settings
put_x x s = record s { cursor = record { x = min x (units_wide s.size); y = s.cursor.y } }

-- the cursor goes to this many units below the upper edge, held within the page
abbrev pub put_y : ℕ → Settings → Settings
put_y y s = record s { cursor = record { x = s.cursor.x; y = min y (units_high s.size) } }

-- the cursor goes to this place, held within the page
abbrev pub put : Position → Settings → Settings
put place s = put_y place.y (put_x place.x s)

-- the first line stands three quarters of a line below the top margin
abbrev pub first_line : Settings → ℕ
first_line s = s.top + 3 * s.vmi / 4

-- the cursor goes to the first line, and its x stays
abbrev pub to_first_line : Settings → Settings
to_first_line s = put_y (first_line s) s

-- to the right or to the left
abbrev pub advance : ℤ → Settings → Settings
advance (pos n) s = put_x (s.cursor.x + n) s
advance (negsuc n) s = put_x (s.cursor.x - suc n) s

-- ---- what a job asks of the printer besides dots

-- nothing is asked, as at the start of a job and after a reset
abbrev pub nothing_asked : Asked
nothing_asked = record {
  copies = None;
  page_size = None;
  page_length = None;
  orientation = None;
  sides = None;
  output_bin = None;
  media_type = None;
  paper_source = None;
  left_offset = None;
  top_offset = None;
  text_scale = None;
  print_quality = None;
  shingling = None;
  depletion = None;
  raster_quality = None;
}

-- The last value of each asking counts, with this line spacing. A page length is this many lines; paper source 0 ejects the page and leaves
-- the source as it is; a side of the sheet is asked of the next page alone, and jobs are separated at once (pcl_page).
abbrev pub asked_with : Asking → Value → ℕ → Asked → Asked
asked_with Sides v vmi asked = record asked { sides = Some (signed_whole v) }
asked_with OutputBin v vmi asked = record asked { output_bin = Some (signed_whole v) }
asked_with MediaType v vmi asked = record asked { media_type = Some (signed_whole v) }
asked_with PaperSource v _ asked = if int_eq (signed_whole v) (pos 0) then asked else record asked { paper_source = Some (signed_whole v) }
asked_with SheetSide v vmi asked = asked
asked_with PageLength v vmi asked = record asked { page_length = Some (signed_whole v *ℤ pos vmi) }
asked_with Orientation v vmi asked = record asked { orientation = Some (signed_whole v) }
asked_with LeftOffset v vmi asked = record asked { left_offset = Some (page_offset v) }
asked_with TopOffset v vmi asked = record asked { top_offset = Some (page_offset v) }
asked_with JobSeparation v vmi asked = asked
asked_with TextScale v vmi asked = record asked { text_scale = Some (signed_whole v) }
asked_with PrintQuality v vmi asked = record asked { print_quality = Some (signed_whole v) }
asked_with Shingling v vmi asked = record asked { shingling = Some (signed_whole v) }
asked_with Depletion v vmi asked = record asked { depletion = Some (signed_whole v) }
asked_with RasterQuality v vmi asked = record asked { raster_quality = Some (signed_whole v) }

-- this many copies of each page were said last
abbrev pub copies_said : ℕ → Asked → Asked
copies_said copies asked = record asked { copies = Some (pos copies) }

-- a page size takes the place of a page length that was said before
abbrev pub size_said : Size → Asked → Asked
size_said size asked = record asked { page_size = Some (pos (code_of size)); page_length = None }

-- what a call's return leaves: what was said of the page's size in the call stays
abbrev pub with_size_of : Asked → Asked → Asked
with_size_of called asked = record asked { page_size = called.page_size; page_length = called.page_length }

-- ---- what a reset leaves

-- what is set at the start of a job and after a reset, at either resolution
abbrev pub defaults : Profile → Settings
defaults profile = record {
  profile = profile;
  size = Letter;
  copies = 1;
  pcl_unit = inch / 300;
  hmi = inch / 10;
  vmi = inch / 6;
  top = margin;
  bottom = units_high Letter - margin;
  left = 0;
  skips = true;
  return_feeds = false;
  feed_returns = false;
  cursor = record { x = 0; y = margin + 3 * (inch / 6) / 4 };
  stack = [];
  macro_id = 0;
  font_id = 0;
  character_code = 0;
  primary = None;
  secondary = None;
  in_use = Primary;
  rectangle_width = 0;
  rectangle_height = 0;
  resolution = 75;
  raster_width = None;
  raster_height = None;
  method = Plain;
  asked = nothing_asked;
}

-- a page size sets the margins, and moves the cursor to the left end of the first line
abbrev pub with_size : Size → Settings → Settings
with_size size s = to_first_line (record s {
  size = size;
  top = margin;
  bottom = units_high size - margin;
  left = 0;
  cursor = record { x = 0; y = 0 };
  asked = size_said size s.asked;
})

-- ---- fonts and calls

-- a font of this ID is selected, whose columns have this width
abbrev pub select : Side → ℕ → ℕ → Settings → Settings
select Primary id width s = record s { primary = Some id; hmi = width }
select Secondary id width s = record s { secondary = Some id; hmi = width }

-- the font that is selected for a side, and for the side in use
abbrev pub font_of : Side → Settings → Option ℕ
font_of Primary s = s.primary
font_of Secondary s = s.secondary

-- the ID that is selected for the font in use, primary or secondary, if there is one
abbrev pub font_in_use : Settings → Option ℕ
font_in_use s = font_of s.in_use s

-- what a call keeps: all but the page size, the cursor and its stack
abbrev pub kept : Settings → Settings
kept s = record s { size = Letter; cursor = record { x = 0; y = 0 }; stack = [] }

-- a call's return puts everything back but the page size, what was said of it, the cursor and its stack
abbrev pub restored : Settings → Settings → Settings
restored saved s = record saved { size = s.size; cursor = s.cursor; stack = s.stack; asked = with_size_of s.asked saved.asked }
