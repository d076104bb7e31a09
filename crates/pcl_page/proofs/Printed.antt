-- What is drawn, text and fonts: the performer follows the situation.
use Rattle.std.proofs.Common.{◌≡◌, ℕ, suc, ◌+◌, ◌-◌, ◌*◌, Bool, true, cond, List, ◌∷◌, Option, Some, None, unwrap_or, ℤ, pos, negsuc, refl, sym, subst, ◌∙◌, rules, arith, ◌==◌}
use Rattle.pcl_fonts.specs.Fields.{quarter_dot}
use Rattle.pcl_page.proofs.Names.{Dpi, Side, NoFont, RasterRow, Black, Said, Font, Character, FontInfo, info_of, Settings, put_x, advance, font_of, font_in_use, Performer, Printed, Mark, prints, character_mark, are_spaces, select, select_there, text_refusal, after_character, after_blank, Situation, raster_from, drawn, blank_passed, code_printed, codes_printed, blanks_passed, text_in, drawn_character, IsIn, IsFollowed, IsDrawn, IsInked, IsAtCursor, IsLastInked, IsSent, HasSettings}
use Rattle.pcl_page.proofs.Turns.{still_sized, drawn_in}

pub settings_in : {dpi : Dpi} {settings : Settings} {s : Situation} {old new : Performer} → IsIn dpi s old → HasSettings settings old new
    → IsIn dpi (record s { settings = settings }) new
settings_in {settings = settings} {s} {new = new} i h =
    let size : settings.size ≡ s.settings.size = cc (h.size, i.settings) in
    search (rules, h.fonts, h.bitmap, size, still_sized (record s { settings = settings }) new i refl h.bitmap size)

-- ---- rectangles and rows

pub row_in : {dpi : Dpi} {s : Situation} {old new : Performer} (command : Said) → IsIn dpi s old → IsSent dpi command.bytes old new
    → IsIn dpi (drawn dpi RasterRow command s) new
row_in {dpi} {s} command i m =
    let raster : m.raster ≡ unwrap_or s.raster (raster_from dpi 0 s.settings) = cc in
    rw (raster, i.settings) at (drawn_in i m.followed m.drawn m.sent)

-- ---- one code

-- a character is drawn at the cursor
cursor_drawn : {dpi : Dpi} {here : Printed} (font : FontInfo) (old : Performer) {begun new : Performer} (c : Character)
    → IsAtCursor dpi here old.environment
    → IsDrawn (drawn_character dpi font c here.x here.y) begun new → IsDrawn (character_mark dpi font c old.environment) begun new
cursor_drawn font old c at d = rw (at.x, at.y) at d

pub character_printed : {dpi : Dpi} {here : Printed} {s : Situation} {old begun middle new : Performer} (font : FontInfo)
    (c : Character) (code : ℕ) → IsIn dpi s old → IsAtCursor dpi here old.environment → IsFollowed old.environment.size old begun
    → IsDrawn (drawn_character dpi font c here.x here.y) begun middle → middle.raster ≡ begun.raster
    → HasSettings (after_character font c middle.environment) middle new
    → IsIn dpi (code_printed dpi font (Some c) code s) new
character_printed {old = old} {middle = middle} {new} font c code i at f d r h =
    let inked = rw i.settings at (drawn_in i f (cursor_drawn font old c at d) (r ∙ f.raster ∙ i.raster)) in
    settings_in inked (subst (λ (t : Settings). HasSettings (after_character font c t) middle new) inked.settings h)

pub blank_passed_in : {dpi : Dpi} {s : Situation} {old new : Performer} (code : ℕ) → IsIn dpi s old
    → HasSettings (after_blank code old.environment) old new → IsIn dpi (blank_passed code s) new
blank_passed_in {old = old} {new} code i h =
    settings_in i (subst (λ (t : Settings). HasSettings (after_blank code t) old new) i.settings h)

-- ---- what is inked already

-- what was drawn in black is inked
pub inked_by : {mark : Mark} {old new : Performer} → mark.ink ≡ Black → IsDrawn mark old new → IsInked mark new
inked_by black d = record {
  marked = d.marked;
  black = λ x y wide high covers.
      d.dots x y (rw (d.size, d.resolution) at wide) (rw (d.size, d.resolution) at high) ∙ rw (covers, black) refl;
}

black_again : (covers is_black : Bool) → (covers ≡ true → is_black ≡ true) → is_black ≡ cond covers true is_black
black_again covers is_black black = grind arith

-- to draw once more what is inked changes nothing
pub drawn_again : {mark : Mark} {performer : Performer} → mark.ink ≡ Black → IsInked mark performer → IsDrawn mark performer performer
drawn_again black i = search (rules, black, black_again, i.black)

pub inked_still : {mark : Mark} {settings : Settings} {old new : Performer} → IsInked mark old → HasSettings settings old new
    → IsInked mark new
inked_still i h = search (rules, h.bitmap)

pub last_still : (dpi : Dpi) (font : FontInfo) (characters : ℕ → Option Character) (last : Option Printed)
    {settings : Settings} {old new : Performer}
    → IsLastInked dpi font characters last old → HasSettings settings old new → IsLastInked dpi font characters last new
last_still dpi font characters None i h = i
last_still dpi font characters (Some last) i h = λ c is. inked_still (i c is) h

-- ---- all codes

-- text moves the cursor and leaves the selections
move_use : (side : Side) (x : ℕ) (s : Settings) → font_of side (put_x x s) ≡ font_of side s
move_use side x s = grind arith

advance_use : (units : ℤ) (s : Settings) → font_in_use (advance units s) ≡ font_in_use s
advance_use (pos n) s = move_use s.in_use (s.cursor.x + n) s
advance_use (negsuc n) s = move_use s.in_use (s.cursor.x - suc n) s

blank_use : (space : Bool) (units : ℤ) (s : Settings) → font_in_use (cond space (advance units s) s) ≡ font_in_use s
blank_use space units s = grind (arith, advance_use)

code_use : (dpi : Dpi) (font : FontInfo) (c : Option Character) (code : ℕ) (s : Situation)
    → font_in_use (code_printed dpi font c code s).settings ≡ font_in_use s.settings
code_use dpi font None code s = blank_use (code == 32) (pos s.settings.hmi) s.settings
code_use dpi font (Some c) code s = advance_use _ s.settings

code_fonts : (dpi : Dpi) (font : FontInfo) (c : Option Character) (code : ℕ) (s : Situation)
    → (code_printed dpi font c code s).fonts ≡ s.fonts
code_fonts dpi font c code s = grind arith

-- codes that are printed up to here, of codes that a situation begins with
pub record IsPrintedTo (dpi : Dpi) (font : FontInfo) (s : Situation) (codes rest : List ℕ) (performer : Performer) : Type 0 where
  pub now : Situation
  pub is_in : IsIn dpi now performer
  pub fonts : now.fonts ≡ s.fonts
  pub in_use : font_in_use now.settings ≡ font_in_use s.settings
  pub left : codes_printed dpi font (prints s.fonts (font_in_use s.settings)) rest now
      ≡ codes_printed dpi font (prints s.fonts (font_in_use s.settings)) codes s

-- the character that is printed once more where it was the last is inked
pub inked_last : {dpi : Dpi} {font : FontInfo} {s : Situation} {codes rest : List ℕ} {performer : Performer} {c : Character}
    (last : Option Printed) (here : Printed) (p : IsPrintedTo dpi font s codes rest performer)
    → IsLastInked dpi font (prints s.fonts (font_in_use s.settings)) last performer → last ≡ Some here
    → Some c ≡ prints s.fonts (font_in_use s.settings) here.code → IsInked (drawn_character dpi font c here.x here.y) performer
inked_last {c} last here p i same e = (rw same at i) c (sym e)

-- what was inked is the one character of its code
pub last_now : (dpi : Dpi) (font : FontInfo) {performer : Performer} {c : Character} (characters : ℕ → Option Character) (here : Printed)
    → Some c ≡ characters here.code → IsInked (drawn_character dpi font c here.x here.y) performer
    → IsLastInked dpi font characters (Some here) performer
last_now dpi font {c = c} characters here e i = λ other is. let same : c ≡ other = cc in rw same at i

-- the character of a code is that of the beginning
pub same_character : {dpi : Dpi} {font : FontInfo} {s : Situation} {codes rest : List ℕ} {performer : Performer}
    (p : IsPrintedTo dpi font s codes rest performer) (code : ℕ) (c : Option Character)
    → c ≡ prints p.now.fonts (font_in_use p.now.settings) code → c ≡ prints s.fonts (font_in_use s.settings) code
same_character p code c e = rw (p.fonts, p.in_use) at e

pub code_done : {dpi : Dpi} {font : FontInfo} {s : Situation} {codes rest : List ℕ} {performer later : Performer} (code : ℕ)
    (c : Option Character) (p : IsPrintedTo dpi font s codes (code ∷ rest) performer)
    → c ≡ prints p.now.fonts (font_in_use p.now.settings) code → IsIn dpi (code_printed dpi font c code p.now) later
    → IsPrintedTo dpi font s codes rest later
code_done {dpi} {font} code c p e i =
    record {
      now = code_printed dpi font c code p.now;
      is_in = i;
      fonts = code_fonts dpi font c code p.now ∙ p.fonts;
      in_use = code_use dpi font c code p.now ∙ p.in_use;
      left = rw (same_character p code c e) p.left;
    }

-- ---- with a font and without

-- a font is selected by what is known of it
pub selected_there : (side : Side) (id : ℕ) (font : Option Font) {info : FontInfo} (s : Settings) → Some info ≡ info_of font
    → select_there side id font s ≡ select side id (info.pitch * quarter_dot info.resolution) s
selected_there side id None s e = absurd cc
selected_there side id (Some font) s e = grind arith

-- blanks that are passed up to here, of codes that a situation begins with
pub record IsPassedTo (dpi : Dpi) (s : Situation) (codes rest : List ℕ) (performer : Performer) : Type 0 where
  pub now : Situation
  pub is_in : IsIn dpi now performer
  pub left : blanks_passed rest now ≡ blanks_passed codes s

pub blank_done : {dpi : Dpi} {s : Situation} {codes rest : List ℕ} {performer later : Performer} (code : ℕ)
    (p : IsPassedTo dpi s codes (code ∷ rest) performer) → HasSettings (after_blank code performer.environment) performer later
    → IsPassedTo dpi s codes rest later
blank_done code p h = record { now = blank_passed code p.now; is_in = blank_passed_in code p.is_in h; left = p.left }

pub without_font : (codes : List ℕ) (font : Option Font) (blank : Bool) → None ≡ info_of font → are_spaces codes ≡ blank
    → text_refusal codes font ≡ cond blank None (Some NoFont)
without_font codes font blank e is = grind arith

pub with_its_font : (codes : List ℕ) (font : Option Font) {info : FontInfo} → Some info ≡ info_of font → text_refusal codes font ≡ None
with_its_font codes font e = grind arith

pub printed_as : {dpi : Dpi} {one other : Option FontInfo} {new : Performer} (codes : List ℕ) (s : Situation) → one ≡ other
    → IsIn dpi (text_in dpi codes one s) new → IsIn dpi (text_in dpi codes other s) new
printed_as codes s e i = rw (← e) i
