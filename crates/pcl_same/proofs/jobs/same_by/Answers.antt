use Rattle.pcl_same.proofs.jobs.same_by.Goals as goal

pub returns-in-Ok-compare_by_last_exit : goal.returns-in-Ok-compare_by_last_exit
returns-in-Ok-compare_by_last_exit c = c.in-Ok-compare_by_last_exit.ensures c.args.first.now c.in-Ok.ensures
