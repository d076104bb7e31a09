use Rattle.pcl_check.proofs.Names.{arith, eqb-true}
use Rattle.pcl_check.proofs.SteadyPlaces.{steady_by}
use Rattle.pcl_check.proofs.places.steady.is_steady.Goals as goal

pub returns-then-numbers-le-MOST_NUMBER : goal.returns-then-numbers-le-MOST_NUMBER
returns-then-numbers-le-MOST_NUMBER c none =
    steady_by c.if-numbers-le-MOST_NUMBER.true
    (λ k inside. omega (arith, c.greatest_rise.ensures k inside, eqb-true c.greatest_rise.result 0 none))
