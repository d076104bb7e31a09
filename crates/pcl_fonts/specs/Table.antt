-- What contracts see of a table of fonts: the font of each ID, and the character of each ID and code.
use Rattle.std.specs.Prelude.{◌≡◌, ◌≤◌, ℕ, Bool, true, false, ◌||◌, nat_eq, if◌then◌else◌, List, map, filter, Option, None, Some, is_some, IfSome, Result, Ok, Err}
use Rattle.std.specs.Option.{option_map}
use Rattle.std.specs.Map.{lookup}
use Rattle.indexmap.specs.IndexMap.{IsUnique}
use Rattle.pcl_base.specs.declared.kind.Kind.TheVariants.{FontHeader, CharacterData}
use Rattle.pcl_base.specs.declared.fault.CallFault.{CallFault}
use Rattle.pcl_base.specs.declared.fault.CallFault.TheVariants.{Refused, Memory}
use Rattle.pcl_base.specs.declared.dpi.Dpi.{Dpi}
use Rattle.pcl_base.specs.declared.profile.Profile.{Profile}
use Rattle.pcl_fonts.specs.Fields.{Font, Character, has_code, is_header, is_character}
use Rattle.pcl_fonts.specs.History.{FontEvent, header, character, font_step, font_after, character_step, character_after}
use Rattle.pcl_fonts.specs.SentRows.{sent_rows_in}
use Rattle.pcl_fonts.specs.declared.header.Header.{Header}
use Rattle.pcl_fonts.specs.declared.fonts.Entry.{Entry}
use Rattle.pcl_fonts.specs.declared.fonts.Fonts.TheInside.{Inside}
use Rattle.pcl_fonts.specs.declared.glyph.Glyph.{Glyph}

-- a font with its characters by their codes
pub record Stored : Type 0 where
  pub font : Font
  pub characters : List (ℕ × Character)

abbrev pub FontTable : Type 0
FontTable = List (ℕ × Stored)

abbrev pub font_at : FontTable → ℕ → Option Font
font_at table id = option_map (λ s. s.font) (lookup (nat_eq id) table)

abbrev pub stored_character : Option Stored → ℕ → Option Character
stored_character None code = None
stored_character (Some s) code = lookup (nat_eq code) s.characters

abbrev pub character_at : FontTable → ℕ → ℕ → Option Character
character_at table id code = stored_character (lookup (nat_eq id) table) code

-- the table holds the fonts and the characters that are there after a history
pub record Holds (table : FontTable) (history : List FontEvent) : Type 0 where
  pub fonts : (id : ℕ) → font_at table id ≡ font_after history id
  pub characters : (id code : ℕ) → character_at table id code ≡ character_after history id code

-- what an event makes of each font and of each character
pub record Follows (old new : FontTable) (event : FontEvent) : Type 0 where
  pub fonts : (id : ℕ) → font_at new id ≡ font_step event id (font_at old id)
  pub characters : (id code : ℕ) → character_at new id code ≡ character_step event id code (font_at old id) (character_at old id code)

-- the same fonts and characters
abbrev pub IsSame : FontTable → FontTable → Type 0
IsSame old new = ((id : ℕ) → font_at new id ≡ font_at old id) × ((id code : ℕ) → character_at new id code ≡ character_at old id code)

-- the character that a text prints for a code: the font's type has the code, and the character is there
abbrev pub printed_in : FontTable → ℕ → ℕ → Option Font → Option Character
printed_in table id code None = None
printed_in table id code (Some font) = if has_code font.type code then character_at table id code else None

abbrev pub printed : FontTable → ℕ → ℕ → Option Character
printed table id code = printed_in table id code (font_at table id)

-- A header for an ID, by a profile and on pages of a resolution: it is taken, and refused exactly where it is no header. After a
-- fault all is the same.
abbrev pub HasHeader : Profile → Dpi → ℕ → List ℕ → Result (Unit {0}) CallFault → FontTable → FontTable → Type 0
HasHeader profile dpi id bytes (Ok unit) old new = (is_header profile dpi bytes ≡ true) × Follows old new (header id bytes)
HasHeader profile dpi id bytes (Err (Refused kind)) old new =
    (is_header profile dpi bytes ≡ false) × (kind ≡ FontHeader) × IsSame old new
HasHeader profile dpi id bytes (Err Memory) old new = IsSame old new

-- A character for an ID and a code, by a profile: it is refused exactly where a font of the ID is there and it is no character.
abbrev pub HasCharacter : Profile → ℕ → ℕ → List ℕ → Result (Unit {0}) CallFault → FontTable → FontTable → Type 0
HasCharacter profile id code bytes (Ok unit) old new =
    (is_some (font_at old id) ≡ true → is_character profile bytes ≡ true) × Follows old new (character id code bytes)
HasCharacter profile id code bytes (Err (Refused kind)) old new =
    (is_some (font_at old id) ≡ true) × (is_character profile bytes ≡ false) × (kind ≡ CharacterData) × IsSame old new
HasCharacter profile id code bytes (Err Memory) old new = IsSame old new

-- ---- how the table is kept

abbrev pub font_in_header : Header → Font
font_in_header h = record {
  proportional = h.info.proportional;
  pitch = h.info.pitch;
  resolution = h.info.resolution;
  type = h.font_type;
  permanent = false;
}

abbrev pub font_in : Entry → Font
font_in e = record {
  proportional = e.info.proportional;
  pitch = e.info.pitch;
  resolution = e.info.resolution;
  type = e.font_type;
  permanent = e.is_permanent;
}

abbrev pub character_in : Glyph → Character
character_in g = record {
  left = g.left;
  top = g.top;
  width = g.width;
  height = g.height;
  delta = g.delta;
  rows = sent_rows_in g.width g.height g.sent;
}

abbrev pub stored_in : Entry → Stored
stored_in e = record { font = font_in e; characters = map (λ c. (c.0, character_in c.1)) e.characters.entries }

-- after this many deletions of temporary fonts one is there that is permanent, or that was sent or marked after the last of them
abbrev pub is_there : ℕ → Entry → Bool
is_there deletions entry = entry.is_permanent || nat_eq entry.deletions deletions

abbrev pub table_view : Inside → FontTable
table_view a = map (λ e. (e.0, stored_in e.1)) (filter (λ e. is_there a.deletions e.1) a.entries.entries)

pub record IsFontMap (a : Inside) : Type 0 where
  pub unique : IsUnique nat_eq a.entries
  pub earlier : (id : ℕ)
      → IfSome (lookup (nat_eq id) a.entries.entries) (λ entry. entry.is_permanent ≡ false → entry.deletions ≤ a.deletions)
