use Rattle.pcl_shrink.proofs.Everywhere.{refused_also}
use Rattle.pcl_shrink.proofs.keeping.keep_jobs.Goals as goal

pub returns-in-Some : goal.returns-in-Some
returns-in-Some c = λ accepted kept.
    let at = c.args.source.at in
    refused_also (c.one_meaning.ensures.apart at.profile) at.first at.also c.args.source.job.now c.in-Err.fault c.in-Some.is accepted
    (c.in-Err.ensures (rw c.in-Some.is at kept.1))
