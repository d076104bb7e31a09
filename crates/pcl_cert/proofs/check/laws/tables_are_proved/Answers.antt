use Rattle.pcl_cert.proofs.TablesProved.{table_proved}
use Rattle.pcl_cert.proofs.check.laws.tables_are_proved.Goals as goal

pub returns : goal.returns
returns c = table_proved
