use Rattle.pcl_cert.proofs.ProvedLeast.{proved_bounded, bounded_proved}
use Rattle.pcl_cert.proofs.check.laws.proved_tables_are_feasible.Goals as goal

pub returns-clause-only : goal.returns-clause-only
returns-clause-only c = proved_bounded

pub returns-clause-all : goal.returns-clause-all
returns-clause-all c = bounded_proved
