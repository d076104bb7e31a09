use Rattle.pcl_plan.proofs.Names.{Plain, Runs, Packed, Delta}
use Rattle.pcl_plan.proofs.fill.least_starts.Goals as goal

pub least_start-requires-clause-bytes : goal.least_start-requires-clause-bytes
least_start-requires-clause-bytes c = c.requires.bytes Plain

pub least_start-requires-2-clause-bytes : goal.least_start-requires-2-clause-bytes
least_start-requires-2-clause-bytes c = c.requires.bytes Runs

pub least_start-requires-3-clause-bytes : goal.least_start-requires-3-clause-bytes
least_start-requires-3-clause-bytes c = c.requires.bytes Packed

pub least_start-requires-4-clause-bytes : goal.least_start-requires-4-clause-bytes
least_start-requires-4-clause-bytes c = c.requires.bytes Delta
