use Rattle.pcl_cert.proofs.TablesProved.{table_certified}
use Rattle.pcl_cert.proofs.check.laws.tables_can_be_certified.Goals as goal

pub returns : goal.returns
returns c = table_certified
