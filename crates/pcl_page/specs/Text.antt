-- Text: which characters its codes print, where they lie on the page, and how far the cursor goes.
use Rattle.std.specs.Prelude.{ℕ, pos, ◌*◌, ◌+ℤ◌, ◌-ℤ◌, ◌*ℤ◌, ◌==◌, nat_le, Bool, if◌then◌else◌, List, [], ◌∷◌, Option, Some, None}
use Rattle.std.specs.List.{list_all}
use Rattle.std.specs.Option.{option_and_then}
use Rattle.pcl_base.specs.declared.dpi.Dpi.{Dpi}
use Rattle.pcl_base.specs.declared.dpi.Dpi.TheVariants.{Dpi300, Dpi600}
use Rattle.pcl_base.specs.declared.kind.Kind.{Kind}
use Rattle.pcl_base.specs.declared.kind.Kind.TheVariants.{FontHeader, CharacterData, NoFont}
use Rattle.pcl_base.specs.declared.operation.Side.{Side}
use Rattle.pcl_base.specs.declared.profile.Profile.{Profile}
use Rattle.pcl_base.specs.declared.value.Value.{Value}
use Rattle.pcl_base.specs.Value.{count_of}
use Rattle.pcl_bitmap.specs.declared.ink.Ink.TheVariants.{Black}
use Rattle.pcl_bitmap.specs.Dots.{pattern_dot}
use Rattle.pcl_fonts.specs.declared.fonts.FontControl.{FontControl}
use Rattle.pcl_fonts.specs.declared.fonts.FontControl.TheVariants as fonts
use Rattle.pcl_fonts.specs.declared.header.FontInfo.{FontInfo}
use Rattle.pcl_fonts.specs.Fields.{Font, Character, has_code, is_header, is_character, quarter_dot}
use Rattle.pcl_fonts.specs.History.{FontEvent, font_after, character_after}
use Rattle.pcl_env.specs.Settings.{Settings, advance, select}
use Rattle.pcl_page.specs.Marks.{Mark, dot_at}

-- ---- fonts

-- what a font control does, by its number
abbrev pub control_of : Value → Option FontControl
control_of value = option_and_then (λ n.
    if n == 0 then Some fonts.All
    else (if n == 1 then Some fonts.Temporary
    else (if n == 2 then Some fonts.One
    else (if n == 3 then Some fonts.Character
    else (if n == 4 then Some fonts.MakeTemporary
    else (if n == 5 then Some fonts.MakePermanent else None)))))) (count_of value)

-- a selection of a font that isn't there does nothing
abbrev pub select_there : Side → ℕ → Option Font → Settings → Settings
select_there side id None s = s
select_there side id (Some font) s = select side id (font.pitch * quarter_dot font.resolution) s

-- the font of an ID is selected; IDs have 16 bits
abbrev pub select_by_id : Side → ℕ → List FontEvent → Settings → Settings
select_by_id side id events s = if nat_le id 65535 then select_there side id (font_after events id) s else s

-- ---- refusals

-- no data are no header, and are not refused
abbrev pub header_refusal : Profile → Dpi → List ℕ → Option Kind
header_refusal profile dpi [] = None
header_refusal profile dpi (byte ∷ bytes) = if is_header profile dpi (byte ∷ bytes) then None else Some FontHeader

-- the same of a character; without a font its data aren't looked at
abbrev pub character_refusal : Profile → List ℕ → Option Font → Option Kind
character_refusal profile [] font = None
character_refusal profile (byte ∷ bytes) None = None
character_refusal profile (byte ∷ bytes) (Some font) = if is_character profile (byte ∷ bytes) then None else Some CharacterData

-- codes of spaces and below, which ask for no font
abbrev pub are_spaces : List ℕ → Bool
are_spaces codes = list_all (λ code. nat_le code 32) codes

-- without a font a code above 32 is refused
abbrev pub text_refusal : List ℕ → Option Font → Option Kind
text_refusal codes None = if are_spaces codes then None else Some NoFont
text_refusal codes (Some font) = None

-- ---- codes

-- the character that a code prints in the font of the ID that is selected: it is there, and so is the font, whose type has the code
abbrev pub prints : List FontEvent → Option ℕ → ℕ → Option Character
prints events None code = None
prints events (Some id) code =
    option_and_then (λ font. if has_code font.type code then character_after events id code else None) (font_after events id)

-- how many dots of a page a dot of a font is wide and high: two, where a font of 300 dots per inch is on a page of 600
abbrev pub dots_per_bit : Dpi → Dpi → ℕ
dots_per_bit Dpi600 Dpi300 = 2
dots_per_bit dpi resolution = 1

-- the dots of a character of a font at the cursor
abbrev pub character_mark : Dpi → FontInfo → Character → Settings → Mark
character_mark dpi font c s = record {
  covers = pattern_dot (pos (dot_at dpi s.cursor.x) +ℤ c.left *ℤ pos (dots_per_bit dpi font.resolution))
      (pos (dot_at dpi s.cursor.y) -ℤ c.top *ℤ pos (dots_per_bit dpi font.resolution)) (dots_per_bit dpi font.resolution)
      c.width c.height c.rows;
  ink = Black;
}

-- the cursor after a character: in a proportional font each has an advance of its own
abbrev pub after_character : FontInfo → Character → Settings → Settings
after_character font c s = advance (if font.proportional then c.delta *ℤ pos (quarter_dot font.resolution) else pos s.hmi) s

-- the cursor after a code that prints no character
abbrev pub after_blank : ℕ → Settings → Settings
after_blank code s = if code == 32 then advance (pos s.hmi) s else s
