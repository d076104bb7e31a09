use Rattle.std.proofs.Common.{rules, tests}
use Rattle.std.proofs.lemmas.Iterator.Search.{all_from_yields_List}
use Rattle.std.proofs.lemmas.Iterator.{YieldsList-from_slice}
use Rattle.std.specs.Char.{is_ascii_alphabetic}
use Rattle.pcl_explain.proofs.kinds.are_letters.Goals as goal

pub returns : goal.returns
returns c =
    all_from_yields_List is_ascii_alphabetic _ _ _ c.all.ensures.ran (YieldsList-from_slice c.args.bytes.now cc)
    (λ x b q k. search (rules, tests))
