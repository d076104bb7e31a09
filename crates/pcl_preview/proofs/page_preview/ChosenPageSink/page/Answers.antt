use Rattle.std.proofs.Common.{◌≡◌, ◌∙◌, sym, rules}
use Rattle.pcl_preview.proofs.Names.{same_from_all_zip}
use Rattle.pcl_preview.proofs.page_preview.ChosenPageSink.page.Goals as goal

pub returns-in-None-clause-taken : goal.returns-in-None-clause-taken
returns-in-None-clause-taken c = rw c.in-None.is

pub returns-in_ok-clone-in-Some-eq0-clause-taken : goal.returns-in_ok-clone-in-Some-eq0-clause-taken
returns-in_ok-clone-in-Some-eq0-clause-taken c =
    let none_before : c.in-Some-eq0.field-0 ≡ 0 = sym c.in-Some-eq0.field-0-is ∙ c.in-Some-eq0.field-0-test in
    let copied = c.in_ok-clone-in-Some-eq0.ensures.cases in
    let bytes = same_from_all_zip _ _ _ copied.4.1.1.0.0 (λ x y e. e) in
    let same : c.in_ok-clone-in-Some-eq0.field-0 ≡ c.args.page.now.bitmap = cc in
    rw (c.in-Some-eq0.is, none_before, same)

pub returns-in-Some-clause-taken : goal.returns-in-Some-clause-taken
returns-in-Some-clause-taken c = rw c.in-Some.is (search rules)
