use Rattle.pcl_fonts.proofs.Patterns.{all_rows}
use Rattle.pcl_fonts.proofs.glyph.Glyph.rows.Goals as goal

pub returns-clause-whole : goal.returns-clause-whole
returns-clause-whole c =
    all_rows c.args.self.now.width c.args.self.now.height c.expanded.result c.args.self.now.sent c.args.self.now.whole c.expanded.ensures
