use Rattle.std.proofs.Common.{◌+◌, arith}
use Rattle.pcl_check.proofs.Names.{leb-true}
use Rattle.pcl_check.proofs.SteadyPlaces.{Sums, sums_more}
use Rattle.pcl_check.proofs.places.steady.are_good_literals.Goals as goal

pub returns : goal.returns
returns c few place =
    let numbers = c.args.numbers.now in
    let eight : Sums c.args.numbers.now 8 c.fill_least_of_eight.new.least =
    (c.fill_least_of_eight.ensures.size, c.fill_least_of_eight.ensures.sums) in
    let sums = sums_more numbers 64 (sums_more numbers 32 (sums_more numbers 16 (sums_more numbers 8 eight c.take_later.ensures)
    c.take_later-2.ensures) c.take_later-3.ensures) c.take_later-4.ensures in
    let excess = c.greatest_excess.ensures place in
    λ count some short within.
    omega (arith, excess, leb-true c.greatest_excess.result 1 few, sums.1 (place + 1) (place + count) (omega arith) (omega arith) within)
