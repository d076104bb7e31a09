-- Characters as they are read.
use Rattle.std.specs.Prelude.{◌≡◌, ℕ, true, false, List, Result, Ok, Err}
use Rattle.pcl_base.specs.declared.kind.Kind.TheVariants.{CharacterData}
use Rattle.pcl_base.specs.declared.fault.CallFault.{CallFault}
use Rattle.pcl_base.specs.declared.fault.CallFault.TheVariants.{Refused, Memory}
use Rattle.pcl_base.specs.declared.profile.Profile.{Profile}
use Rattle.pcl_fonts.specs.Fields.{is_character, character_of}
use Rattle.pcl_fonts.specs.Table.{character_in}
use Rattle.pcl_fonts.specs.declared.glyph.Glyph.{Glyph}

-- the character that data define, by a profile, refused exactly where it takes none
abbrev pub HasGlyph : Profile → List ℕ → Result Glyph CallFault → Type 0
HasGlyph profile bytes (Ok glyph) = (is_character profile bytes ≡ true) × (character_in glyph ≡ character_of bytes)
HasGlyph profile bytes (Err (Refused kind)) = (is_character profile bytes ≡ false) × (kind ≡ CharacterData)
HasGlyph profile bytes (Err Memory) = Unit {0}
