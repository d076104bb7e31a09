use Rattle.pcl_coders.proofs.Tables.{none_least, plain_least}
use Rattle.pcl_coders.proofs.table.least.Goals as goal

pub returns-then-end-eq0 : goal.returns-then-end-eq0
returns-then-end-eq0 c = none_least c.requires c.needed_len-end.ensures c.if-end-eq0.true

pub returns-in-Plain : goal.returns-in-Plain
returns-in-Plain c = rw c.in-Plain.is (plain_least c.requires (rw c.in-Plain.is at c.needed_len-end.ensures))
