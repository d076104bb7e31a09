-- The fonts and characters that are there after a history of headers, characters and font controls, the newest first.
use Rattle.std.specs.Prelude.{ℕ, Bool, true, false, ◌&&◌, nat_eq, if◌then◌else◌, List, [], ◌∷◌, Option, None, Some, is_some}
use Rattle.std.specs.List.{list_any}
use Rattle.std.specs.Option.{option_map}
use Rattle.pcl_fonts.specs.Fields.{Font, Character, defined_font, character_of}
use Rattle.pcl_fonts.specs.declared.fonts.FontControl.{FontControl}
use Rattle.pcl_fonts.specs.declared.fonts.FontControl.TheVariants.{All, Temporary, One, MakeTemporary, MakePermanent}
use Rattle.pcl_fonts.specs.declared.fonts.FontControl.TheVariants as controls

-- a header for an ID, a character for an ID and a code, or a control of fonts with the ID and the code of its time
pub data FontEvent : Type 0 where
  header : ℕ → List ℕ → FontEvent
  character : ℕ → ℕ → List ℕ → FontEvent
  control : FontControl → ℕ → ℕ → FontEvent

-- a font that was made temporary or permanent
abbrev pub with_permanent : Bool → Font → Font
with_permanent permanent font = record font { permanent = permanent }

-- a font that a deletion of temporary fonts leaves
abbrev pub if_permanent : Option Font → Option Font
if_permanent None = None
if_permanent (Some font) = if font.permanent then Some font else None

-- what an event makes of the font of an ID
abbrev pub font_step : FontEvent → ℕ → Option Font → Option Font
font_step (header of bytes) id font = if nat_eq of id then Some (defined_font bytes) else font
font_step (control All of code) id font = None
font_step (control Temporary of code) id font = if_permanent font
font_step (control One of code) id font = if nat_eq of id then None else font
font_step (control MakeTemporary of code) id font = if nat_eq of id then option_map (with_permanent false) font else font
font_step (control MakePermanent of code) id font = if nat_eq of id then option_map (with_permanent true) font else font
font_step other id font = font

-- the font of an ID: that of the last header for it which no later deletion reached
abbrev pub font_after : List FontEvent → ℕ → Option Font
font_after [] id = None
font_after (event ∷ older) id = font_step event id (font_after older id)

-- the ID that an event is for
abbrev pub id_of : FontEvent → ℕ
id_of (header id bytes) = id
id_of (character id code bytes) = id
id_of (control what id code) = id

-- a font is there that is permanent
abbrev pub has_permanent : List FontEvent → Bool
has_permanent history = list_any (λ event. is_some (if_permanent (font_after history (id_of event)))) history

-- What an event makes of the character of an ID and a code, where this font of the ID was there. Without one a character that
-- is sent is dropped.
abbrev pub character_step : FontEvent → ℕ → ℕ → Option Font → Option Character → Option Character
character_step (header of bytes) id code font now = if nat_eq of id then None else now
character_step (character of its bytes) id code font now =
    if nat_eq of id && nat_eq its code && is_some font then Some (character_of bytes) else now
character_step (control All of its) id code font now = None
character_step (control Temporary of its) id code font now = if is_some (if_permanent font) then now else None
character_step (control One of its) id code font now = if nat_eq of id then None else now
character_step (control controls.Character of its) id code font now = if nat_eq of id && nat_eq its code then None else now
character_step other id code font now = now

-- the character of a code: the last one that was sent for the ID and the code after the font's header, and not deleted since
abbrev pub character_after : List FontEvent → ℕ → ℕ → Option Character
character_after [] id code = None
character_after (event ∷ older) id code = character_step event id code (font_after older id) (character_after older id code)
