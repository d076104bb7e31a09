use Rattle.std.proofs.Common.{◌≡◌, ◌∙◌, ℕ, Option, Some, None, is_some, refl, ap}
use Rattle.pcl_page.proofs.Names.{Dpi, Font, Performer, Situation, IsIn}
use Rattle.pcl_fonts.specs.Fields.{info_of}
use Rattle.pcl_fonts.specs.Table.{font_at}
use Rattle.pcl_fonts.specs.History.{font_after}
use Rattle.pcl_page.specs.Situation.{font_lasts}
use Rattle.pcl_page.proofs.performer.Performer.note_control.Goals as goal

informed : (font : Option Font) → is_some (info_of font) ≡ is_some font
informed None = refl
informed (Some font) = refl

-- whether the font that is meant was sent
sent_is : {dpi : Dpi} {s : Situation} {old : Performer} {id : ℕ} → IsIn dpi s old → id ≡ old.environment.font_id
    → is_some (info_of (font_at old.fonts id)) ≡ is_some (font_after s.fonts s.settings.font_id)
sent_is {s = s} {old} {id} i same =
    let is : id ≡ s.settings.font_id = cc (same, i.settings) in
    informed (font_at old.fonts id) ∙ ap is_some (rw is (i.fonts.fonts s.settings.font_id))

pub returns : goal.returns
returns c = λ dpi s i.
    let there = c.is_some-is_sent.ensures ∙ ap is_some c.font.ensures ∙ sent_is i c.font_id.ensures in
    let is_sent = is_some (font_after s.fonts s.settings.font_id) in
    let test : c.font_lasts.result ≡ font_lasts c.args.what is_sent = c.font_lasts.ensures ∙ ap (font_lasts c.args.what) there in
    rw test at (c.last_if.ensures.situation dpi s (record {
      settings = i.settings;
      raster = i.raster;
      marked = i.marked;
      ejected = i.ejected;
      performed = i.performed;
      asks = i.asks;
      fonts = i.fonts;
      sized = i.sized;
      painted = i.painted;
    }))
