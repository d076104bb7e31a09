use Rattle.pcl_page.proofs.Names.{nat_le, rules, tests, YieldsList-from_slice, all_from_yields_List}
use Rattle.pcl_page.proofs.text.are_spaces.Goals as goal

pub returns : goal.returns
returns c =
    all_from_yields_List (λ code. nat_le code 32) _ _ _ c.all.ensures.ran (YieldsList-from_slice c.args.codes.now cc)
    (λ x b q k. search (rules, tests))
