use Rattle.std.proofs.Common.{◌∙◌}
use Rattle.pcl_shrink.proofs.Written.{sure_at, left_for}
use Rattle.pcl_shrink.proofs.shrinking.shrink_at.Goals as goal

pub returns-in_ok-as_it_came-in-Some : goal.returns-in_ok-as_it_came-in-Some
returns-in_ok-as_it_came-in-Some g c = λ accepted also.
    let at = c.args.source.at in
    let measured = c.in_ok-proposed.ensures.0 in
    let left = c.in_ok-as_it_came-in-Some.ensures in
    left_for at.profile at.first at.also c.args.source.job.now _ c.args.readers c.heeded.result _ c.heeded.ensures
    c.in-Some.is left.doubt
    (record {
      pages = measured.limit_is.pages;
      meaning = measured.limit_is.meaning;
      same = left.same;
      counted = left.pages ∙ measured.counted;
    })

pub returns-in-None : goal.returns-in-None
returns-in-None g c = λ accepted also.
    let at = c.args.source.at in
    sure_at at.profile at.first at.also c.args.source.job.now c.args.readers c.shrink_to.result
    (c.shrink_to.ensures.shrunk accepted c.in_ok-proposed.ensures.0 c.in_ok-proposed.ensures.1 also) c.shrink_to.ensures.sure
