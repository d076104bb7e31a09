use Rattle.pcl_library.proofs.making.written_answer.Goals as goal

pub returns-in-Some : goal.returns-in-Some
returns-in-Some c = rw c.in-Some.is c.certified_answer.ensures

pub returns-in-None : goal.returns-in-None
returns-in-None c = rw c.in-None.is c.least_answer.ensures
