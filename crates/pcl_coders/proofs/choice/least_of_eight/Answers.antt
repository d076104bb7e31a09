use Rattle.pcl_coders.proofs.Names.{arith}
use Rattle.pcl_coders.proofs.Prefixes.{least_min_one, least_min_next}
use Rattle.pcl_coders.proofs.choice.least_of_eight.Goals as goal

pub returns : goal.returns
returns c =
    let b2 = least_min_next c.min.result (omega arith) (least_min_one c.args.numbers.now) c.min.ensures in
    let b3 = least_min_next c.min-2.result (omega arith) b2 c.min-2.ensures in
    let b4 = least_min_next c.min-3.result (omega arith) b3 c.min-3.ensures in
    let b5 = least_min_next c.min-4.result (omega arith) b4 c.min-4.ensures in
    let b6 = least_min_next c.min-5.result (omega arith) b5 c.min-5.ensures in
    let b7 = least_min_next c.min-6.result (omega arith) b6 c.min-6.ensures in
    least_min_next c.min-7.result (omega arith) b7 c.min-7.ensures
