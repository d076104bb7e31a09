use Rattle.pcl_shrink.proofs.Names.{arith, least_of}
use Rattle.pcl_shrink.proofs.Shorter.{limited_job, raster_job}
use Rattle.pcl_shrink.proofs.shrinking.within.Goals as goal

pub returns-then-best_len-limit : goal.returns-then-best_len-limit
returns-then-best_len-limit c = λ kept limit.
    limited_job (c.one_meaning.ensures.pages c.args.source.at.profile) (c.one_meaning.ensures.asks c.args.source.at.profile)
    (c.written_jobs_say_copies_and_sizes.ensures c.args.source.at.profile) limit
    (omega (arith, c.best_len.ensures, c.if-best_len-limit.true))

pub returns : goal.returns
returns c = λ kept limit.
    let found = c.in_ok-texts.ensures in
    raster_job (c.one_meaning.ensures.pages c.args.source.at.profile) (c.one_meaning.ensures.asks c.args.source.at.profile)
    (c.written_jobs_say_copies_and_sizes.ensures c.args.source.at.profile)
    (least_of c.in_ok-texts.texts.items) found.1 kept.0.asked found.2
    (rw (c.asks.ensures, c.deref.ensures.value) at c.in_ok-asked_job.ensures) (c.in_ok-shorter.ensures kept)
