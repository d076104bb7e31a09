use Rattle.pcl_shrink.proofs.Names.{arith}
use Rattle.pcl_shrink.proofs.Smaller.{limit_best}
use Rattle.pcl_shrink.proofs.Shorter.{limited_job}
use Rattle.pcl_shrink.proofs.shrinking.best_of.Goals as goal

pub returns-then-source-limit : goal.returns-then-source-limit
returns-then-source-limit g c = λ accepted limit kept.
    limited_job (c.one_meaning.ensures.pages c.args.source.at.profile) (c.one_meaning.ensures.asks c.args.source.at.profile)
    (c.written_jobs_say_copies_and_sizes.ensures c.args.source.at.profile) limit
    (omega (arith, c.if-source-limit.true)) (limit_best accepted limit)
