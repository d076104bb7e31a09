use Rattle.std.proofs.Common.{◌≡◌, ◌==◌, ◌∙◌, ℕ, true, false, List, [], ◌∷◌, length, Option, Some, None, is_some, Result, Ok, Err, refl, ap, sym, rules}
use Rattle.pcl_page.proofs.Names.{Settings, CharacterData, CallFault, Refused, Memory, Font, FontTable, HasCharacter, Holds, character, font_after, is_character, character_refusal, Dpi, Profile, Performer, Situation, with_event, with_character, IsIn, Draws, holds_after}
use Rattle.pcl_page.proofs.performer.Performer.download_character.Goals as goal

-- a character for a font that is there, or that is not
not_refused : (profile : Profile) (byte : ℕ) (bytes : List ℕ) (font : Option Font)
    → (is_some font ≡ true → is_character profile (byte ∷ bytes) ≡ true) → character_refusal profile (byte ∷ bytes) font ≡ None
not_refused profile byte bytes None taken = refl
not_refused profile byte bytes (Some font) taken = rw (taken refl) refl

is_refused : (profile : Profile) (byte : ℕ) (bytes : List ℕ) (font : Option Font) → is_some font ≡ true
    → is_character profile (byte ∷ bytes) ≡ false → character_refusal profile (byte ∷ bytes) font ≡ Some CharacterData
is_refused profile byte bytes None there none = absurd cc
is_refused profile byte bytes (Some font) there none = rw none refl

-- what was taken or refused follows the situation
character_taken : {dpi : Dpi} {s : Situation} {old table : FontTable} {profile : Profile} {id code : ℕ} (bytes : List ℕ)
    (result : Result (Unit {0}) CallFault) (new : Performer) → (length bytes == 0) ≡ false → Holds old s.fonts
    → id ≡ s.settings.font_id → code ≡ s.settings.character_code
    → profile ≡ s.settings.profile → HasCharacter profile id code bytes result old table
    → (Holds table (character s.settings.font_id s.settings.character_code bytes ∷ s.fonts)
    → IsIn dpi (with_event (character s.settings.font_id s.settings.character_code bytes) s) new)
    → Draws dpi (character_refusal s.settings.profile bytes (font_after s.fonts s.settings.font_id)) (with_character bytes s) result new
character_taken [] result new some holds i c p h f = absurd cc
character_taken {s = s} (byte ∷ bytes) (Ok unit) new some holds i c p h f =
    let t = rw (i, c, p) at h in (
      not_refused s.settings.profile byte bytes _ (λ there. t.0 (ap is_some (holds.fonts s.settings.font_id) ∙ there)),
      f (holds_after t.1 holds),
    )
character_taken {s = s} (byte ∷ bytes) (Err (Refused kind)) new some holds i c p h f =
    let t = rw (i, p) at h in
    is_refused s.settings.profile byte bytes _ (sym (ap is_some (holds.fonts s.settings.font_id)) ∙ t.0) t.1 ∙ ap Some (sym t.2)
character_taken (byte ∷ bytes) (Err Memory) new some holds i c p h f = tt

pub returns : goal.returns
returns c = λ dpi s i.
    character_taken c.args.bytes.now c.character.result _ (sym c.is_empty.ensures ∙ c.if-is_empty.false) i.fonts
    (c.font_id-id.ensures ∙ ap (λ (t : Settings). t.font_id) i.settings)
    (c.character_code-code.ensures ∙ ap (λ (t : Settings). t.character_code) i.settings)
    (c.profile.ensures ∙ ap (λ (t : Settings). t.profile) i.settings) c.character.ensures
    (λ holds. search (rules, holds))
