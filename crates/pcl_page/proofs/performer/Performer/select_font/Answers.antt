use Rattle.std.proofs.Common.{◌≡◌, ◌∙◌, ◌*◌, sym, ap, rules, arith, true, nat_le}
use Rattle.pcl_base.specs.Value.{whole_of}
use Rattle.pcl_fonts.specs.Fields.{quarter_dot}
use Rattle.pcl_page.proofs.Names.{nat_tests, font_after, info_of, select}
use Rattle.pcl_page.specs.Text.{select_by_id}
use Rattle.pcl_page.proofs.Printed.{selected_there}
use Rattle.pcl_page.proofs.performer.Performer.select_font.Goals as goal

pub returns-in-Some : goal.returns-in-Some
returns-in-Some c = λ dpi s i.
    let id = c.in-Ok.id in
    let font = c.in-Some.font in
    let some = sym c.in-Some.is ∙ c.font.ensures ∙ ap info_of (i.fonts.fonts id) in
    let there = selected_there c.args.side id (font_after s.fonts id) s.settings some in
    let same : whole_of c.args.value ≡ id = search rules in
    let few : nat_le id 65535 ≡ true = grind (arith, nat_tests) in
    let by_id : select_by_id c.args.side (whole_of c.args.value) s.fonts s.settings
    ≡ select c.args.side id (font.pitch * quarter_dot font.resolution) s.settings = rw (same, few) there in
    search (rules, by_id, i.settings)
