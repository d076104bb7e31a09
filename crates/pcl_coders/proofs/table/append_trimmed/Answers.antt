use Rattle.pcl_coders.proofs.Tables.{plain_appended}
use Rattle.pcl_coders.proofs.table.append_trimmed.Goals as goal

pub returns-clause-ok : goal.returns-clause-ok
returns-clause-ok c = rw c.in_ok-extend_from_slice.ensures.items (plain_appended c.requires c.needed_len-end.ensures)
