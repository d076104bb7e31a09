-- What the data of a soft font say: the header of a font, and a character (docs/LANGUAGE.md, "Soft fonts").
use Rattle.std.specs.Prelude.{ℕ, ◌+◌, ◌*◌, ◌/◌, ℤ, Bool, true, false, ◌&&◌, ◌||◌, ◌==◌, if◌then◌else◌, nat_le, nat_eq, List, [], length, take, drop, slice_index, Option, Some, None, is_some}
use Rattle.std.specs.Option.{unwrap_or}
use Rattle.std.specs.Int.{w16, cast_signed}
use Rattle.byteorder.specs.Endian.{big_number}
use Rattle.pcl_base.specs.declared.dpi.Dpi.{Dpi}
use Rattle.pcl_base.specs.declared.dpi.Dpi.TheVariants.{Dpi300, Dpi600}
use Rattle.pcl_base.specs.declared.profile.Profile.{Profile}
use Rattle.pcl_base.specs.declared.profile.Profile.TheVariants.{Stated, Drivers}
use Rattle.pcl_base.specs.Dpi.{dots_per_inch, units_per_dot}
use Rattle.pcl_fonts.specs.Compressed.{expanded}
use Rattle.pcl_fonts.specs.declared.header.FontInfo.{FontInfo}
use Rattle.pcl_fonts.specs.declared.header.FontType.{FontType}
use Rattle.pcl_fonts.specs.declared.header.FontType.TheVariants.{SevenBit, EightBit, EveryCode}

-- ---- fields

-- the number in the two bytes from a place on, the higher one first, and the same with a sign
abbrev pub word : List ℕ → ℕ → ℕ
word bytes place = big_number 2 (drop place bytes)

-- the number in these two bytes with a sign, from -32768 to 32767
abbrev pub signed_word : List ℕ → ℕ → ℤ
signed_word bytes place = cast_signed w16 (word bytes place)

-- one byte has this value
abbrev pub has_byte : List ℕ → ℕ → ℕ → Bool
has_byte bytes place value = nat_eq (slice_index bytes place) value

-- ---- headers

-- the codes that a font of a type has: those of seven bits that print, those of eight, or all
abbrev pub has_code : FontType → ℕ → Bool
has_code SevenBit code = nat_le 32 code && nat_le code 127
has_code EightBit code = (nat_le 32 code && nat_le code 127) || nat_le 160 code
has_code EveryCode code = true

-- a font without its characters: whether each character has an advance of its own, the pitch in quarter dots, the resolution of
-- its dots, the type, and whether a reset leaves it
pub record Font : Type 0 where
  pub proportional : Bool
  pub pitch : ℕ
  pub resolution : Dpi
  pub type : FontType
  pub permanent : Bool

-- what text has to know of a font, if there is one
abbrev pub info_of : Option Font → Option FontInfo
info_of None = None
info_of (Some font) = Some (record { proportional = font.proportional; pitch = font.pitch; resolution = font.resolution })

-- a header of a format, which has this many bytes at least: all that the size field says, a type of three, no orientation, a spacing
-- of two
abbrev pub has_format : ℕ → ℕ → List ℕ → Bool
has_format format least bytes =
    nat_le least (length bytes) && nat_le least (word bytes 0) && nat_le (word bytes 0) (length bytes)
    && has_byte bytes 2 format && nat_le (slice_index bytes 3) 2 && has_byte bytes 12 0 && nat_le (slice_index bytes 13) 1

-- one resolution along both axes: 300 dots per inch, or that of the pages
abbrev pub states_resolution : Dpi → List ℕ → Bool
states_resolution dpi bytes =
    nat_eq (word bytes 64) (word bytes 66) && (nat_eq (word bytes 64) 300 || nat_eq (word bytes 64) (dots_per_inch dpi))

-- the headers that a profile takes, on pages of this resolution: those of format 0, and those of format 20, which state one
abbrev pub is_header : Profile → Dpi → List ℕ → Bool
is_header Stated dpi bytes = has_format 0 64 bytes
is_header Drivers dpi bytes = has_format 0 64 bytes || (has_format 20 68 bytes && states_resolution dpi bytes)

-- the resolution of a font's dots, which a header of format 20 alone states
abbrev pub resolution_of : List ℕ → Dpi
resolution_of bytes = if has_byte bytes 2 20 && nat_eq (word bytes 64) 600 then Dpi600 else Dpi300

-- the font that a header defines, of types 0 to 2; a new font is temporary
abbrev pub defined_font : List ℕ → Font
defined_font bytes = record {
  proportional = has_byte bytes 13 1;
  pitch = word bytes 16;
  resolution = resolution_of bytes;
  type = if slice_index bytes 3 == 0 then SevenBit else if slice_index bytes 3 == 1 then EightBit else EveryCode;
  permanent = false;
}

-- a quarter of a font's dot, in units of 1/7200 inch
abbrev pub quarter_dot : Dpi → ℕ
quarter_dot resolution = units_per_dot resolution / 4

-- ---- characters

-- A character: how far its pattern lies right of the cursor and how far its first row above it, in pattern bits; the
-- pattern's width and height in bits; the advance in quarter dots; and the rows of the pattern. A bit is a dot of the font.
pub record Character : Type 0 where
  pub left : ℤ
  pub top : ℤ
  pub width : ℕ
  pub height : ℕ
  pub delta : ℤ
  pub rows : List ℕ

-- how many bytes the rows of a pattern have
abbrev pub pattern_bytes : ℕ → ℕ → ℕ
pattern_bytes width height = height * ((width + 7) / 8)

-- the most bytes of rows that are expanded from runs
abbrev pub expanded_limit : ℕ
expanded_limit = 65536

-- a whole descriptor of a class: format 4, no continuation, a descriptor of 14 bytes, the class, no orientation
abbrev pub has_descriptor : ℕ → List ℕ → Bool
has_descriptor class bytes =
    nat_le 16 (length bytes) && has_byte bytes 0 4 && has_byte bytes 1 0 && has_byte bytes 2 14 && has_byte bytes 3 class
    && has_byte bytes 4 0

-- class 1: the rows are all there
abbrev pub is_plain : List ℕ → Bool
is_plain bytes = has_descriptor 1 bytes && nat_le (16 + pattern_bytes (word bytes 10) (word bytes 12)) (length bytes)

-- class 2: runs give the rows, which aren't too many
abbrev pub is_compressed : List ℕ → Bool
is_compressed bytes =
    has_descriptor 2 bytes && nat_le (pattern_bytes (word bytes 10) (word bytes 12)) expanded_limit
    && is_some (expanded (word bytes 10) (word bytes 12) (drop 16 bytes))

-- the characters that a profile takes
abbrev pub is_character : Profile → List ℕ → Bool
is_character Stated bytes = is_plain bytes
is_character Drivers bytes = is_plain bytes || is_compressed bytes

-- the rows of a character, by its class
abbrev pub character_rows : List ℕ → List ℕ
character_rows bytes =
    if has_byte bytes 3 2 then unwrap_or (expanded (word bytes 10) (word bytes 12) (drop 16 bytes)) []
    else take (pattern_bytes (word bytes 10) (word bytes 12)) (drop 16 bytes)

-- the character that data define
abbrev pub character_of : List ℕ → Character
character_of bytes = record {
  left = signed_word bytes 6;
  top = signed_word bytes 8;
  width = word bytes 10;
  height = word bytes 12;
  delta = signed_word bytes 14;
  rows = character_rows bytes;
}
