-- Characters that are refused.
use Rattle.std.proofs.Common.{◌≡◌, ℕ, true, List, Err, is_some}
use Rattle.pcl_base.specs.declared.fault.CallFault.{CallFault}
use Rattle.pcl_base.specs.declared.fault.CallFault.TheVariants.{Refused, Memory}
use Rattle.pcl_base.specs.declared.profile.Profile.{Profile}
use Rattle.pcl_fonts.specs.inner.Glyphs.{HasGlyph}
use Rattle.pcl_fonts.proofs.Names.{FontTable, HasCharacter, IsSame, font_at}

-- one for a font that is there, which then is the same
pub is_refused : (profile : Profile) (id code : ℕ) (bytes : List ℕ) (old new : FontTable) (fault : CallFault)
    → is_some (font_at old id) ≡ true → HasGlyph profile bytes (Err fault) → IsSame old new
    → HasCharacter profile id code bytes (Err fault) old new
is_refused profile id code bytes old new (Refused kind) there refused same = (there, refused.0, refused.1, same)
is_refused profile id code bytes old new Memory there refused same = same
