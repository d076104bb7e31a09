use Rattle.pcl_same.proofs.Names.{arith, nothing_asked, next_page, AskedPage, IsAskedBy}
use Rattle.pcl_same.proofs.FirstAsked.{differ_here}
use Rattle.pcl_same.proofs.asking.page_difference.Goals as goal

abbrev nothing : AskedPage
nothing = record { said = nothing_asked; start = next_page }

pub returns-in-Some : goal.returns-in-Some
returns-in-Some c = λ same.
    differ_here (λ one other. IsAskedBy one other c.in-Some.difference) c.args.first.now c.args.second.now nothing nothing
    (omega (arith, same)) (omega (arith, same)) c.loop-place.invariant c.in-Some.ensures
