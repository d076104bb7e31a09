use Rattle.std.proofs.Common.{◌∙◌, ◌==◌, rules, tests}
use Rattle.std.proofs.lemmas.Iterator.{YieldsList-from_slice}
use Rattle.std.proofs.lemmas.Iterator.Search.{any_from_yields_List}
use Rattle.pcl_page.specs.declared.asks.Exit.{Exit}
use Rattle.pcl_shrink.proofs.Asked.{any_there}
use Rattle.pcl_shrink.proofs.asking.has_exit.Goals as goal

pub returns : goal.returns
returns c =
    any_from_yields_List (λ (exit : Exit). exit.pages == c.args.pages) _ _ _ c.any.ensures.ran
    (YieldsList-from_slice _ (c.iter.ensures.rest ∙ c.deref.ensures.value)) (λ x b q k. search (rules, tests))
    ∙ any_there c.args.pages c.args.asks.now.exits.items
