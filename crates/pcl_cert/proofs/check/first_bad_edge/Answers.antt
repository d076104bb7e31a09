use Rattle.pcl_cert.proofs.check.first_bad_edge.Goals as goal

pub returns-in-None : goal.returns-in-None
returns-in-None c = rw c.in-None.is c.first_bad_number.ensures

pub returns-in-Some : goal.returns-in-Some
returns-in-Some c = rw c.in-Some.is c.first_bad_number-in-Some.ensures
