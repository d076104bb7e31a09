use Rattle.std.proofs.Common.{◌∙◌, tests}
use Rattle.std.proofs.lemmas.Iterator.Search.{any_from_yields_List}
use Rattle.std.proofs.lemmas.Iterator.Consumers.{YieldsList-from_rest}
use Rattle.pcl_fonts.proofs.Names.{Entry, rules}
use Rattle.pcl_fonts.proofs.Permanent.{some_permanent}
use Rattle.pcl_fonts.proofs.fonts.Fonts.has_permanent.Goals as goal

pub returns : goal.returns
returns c = λ history holds.
    any_from_yields_List (λ (e : Entry). e.is_permanent) _ _ _ c.any.ensures.ran (YieldsList-from_rest _ c.values.ensures.rest)
    (λ x b q k. search (rules, tests))
    ∙ some_permanent c.self.inside.deletions c.self.inside.entries.entries history c.self.invariant.unique c.self.view_is holds
