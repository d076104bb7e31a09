use Rattle.std.proofs.Common.{◌∙◌, ap, length, subst, sym}
use Rattle.pcl_shrink.proofs.Names.{IsSmallerJobAt}
use Rattle.pcl_shrink.proofs.shrinking.shrink_to.Goals as goal

pub returns-clause-shrunk : goal.returns-clause-shrunk
returns-clause-shrunk g c = λ accepted measured kept also.
    let at = c.args.source.at in
    let job = c.args.source.job.now in
    let smaller = c.in_ok-best.ensures accepted measured.limit_is (kept, also) in
    let s = subst (IsSmallerJobAt at.profile at.first at.also job) (sym c.in_ok-best_or_input.ensures.job) smaller in
    record {
      smaller = s;
      counted = c.in_ok-best_or_input.ensures.pages ∙ measured.counted
          ∙ ap length
          ((c.one_meaning.ensures.pages at.profile) at.first job measured.limit_is.pages s.pages measured.limit_is.meaning
          s.meaning);
    }
