use Rattle.std.proofs.Common.{◌∙◌, rules, tests}
use Rattle.std.proofs.lemmas.Iterator.Search.{any_from_yields_List}
use Rattle.std.proofs.lemmas.Iterator.Consumers.{YieldsList-from_rest}
use Rattle.pcl_macros.proofs.Names.{Body, begun_in, option_map}
use Rattle.pcl_macros.proofs.Permanent.{some_permanent}
use Rattle.pcl_macros.proofs.table.Macros.has_permanent.Goals as goal

pub returns : goal.returns
returns c = λ history holds.
    any_from_yields_List (λ (e : Body). e.is_permanent) _ _ _ c.any.ensures.ran (YieldsList-from_rest _ c.values.ensures.rest)
    (λ x b q k. search (rules, tests))
    ∙ some_permanent c.self.inside.deletions c.self.inside.bodies.entries (option_map begun_in c.self.inside.begun) history
    c.self.invariant.unique c.self.view_is holds
