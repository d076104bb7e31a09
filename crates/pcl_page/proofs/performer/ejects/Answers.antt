use Rattle.pcl_page.proofs.performer.ejects.Goals as goal

pub returns-in-Stay : goal.returns-in-Stay
returns-in-Stay c = rw c.in-Stay.is

pub returns-in-Eject : goal.returns-in-Eject
returns-in-Eject c = rw c.in-Eject.is

pub returns-in-EjectMarked : goal.returns-in-EjectMarked
returns-in-EjectMarked c = rw c.in-EjectMarked.is
