use Rattle.std.proofs.Common.{◌≡◌, ◌∙◌, Some, refl, sym, ap, rules}
use Rattle.pcl_page.proofs.Names.{Settings, holds_after}
use Rattle.pcl_page.specs.Text.{control_of}
use Rattle.pcl_page.proofs.performer.Performer.control_fonts.Goals as goal

pub returns : goal.returns
returns c = λ dpi s i.
    let what : control_of c.args.value ≡ Some c.in-Some.what = sym c.control_of.ensures ∙ c.in-Some.is in
    let noted = c.note_control.ensures dpi s i in
    let id = c.font_id.ensures ∙ ap (λ (t : Settings). t.font_id) noted.settings in
    let code = c.character_code-code.ensures ∙ ap (λ (t : Settings). t.character_code) noted.settings in
    rw what (refl, search (rules, noted, rw (id, code) at (holds_after c.control.ensures noted.fonts)))
