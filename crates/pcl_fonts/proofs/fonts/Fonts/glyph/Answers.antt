use Rattle.std.proofs.Common.{rules, sym, ◌∙◌}
use Rattle.pcl_fonts.proofs.Tables.{printed_stored}
use Rattle.pcl_fonts.proofs.fonts.Fonts.glyph.Goals as goal

pub returns : goal.returns
returns c = search rules ∙ sym (printed_stored c.args.self.now c.args.id c.args.code c.in_ok-entry.entry.now (sym c.in_ok-entry.ensures))
