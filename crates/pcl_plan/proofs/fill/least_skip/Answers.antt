use Rattle.pcl_plan.proofs.Names.{ap, arith, node_number, skipping}
use Rattle.pcl_plan.proofs.Skips.{skip_is, better_is, least_skip_is}
use Rattle.pcl_plan.proofs.fill.least_skip.Goals as goal

pub returns : goal.returns
returns c =
    let run = c.args.run in
    let skips = skipping (node_number c.args.table.now) c.args.row c.args.method in
    let of = skip_is c.args.table.now c.args.row c.args.method run in
    let four = of run c.skip_of.result c.skip_of.ensures.count c.skip_of.ensures.number (omega arith) (omega arith) in
    let three = of c.min.result c.skip_of-2.result c.skip_of-2.ensures.count c.skip_of-2.ensures.number (omega arith) (omega arith) in
    let two = of c.min-2.result c.skip_of-3.result c.skip_of-3.ensures.count c.skip_of-3.ensures.number (omega arith) (omega arith) in
    let one = of c.min-3.result c.skip_of-4.result c.skip_of-4.ensures.count c.skip_of-4.ensures.number (omega arith) (omega arith) in
    let second = better_is c.or.ensures.first c.or.ensures.second four three in
    let third = better_is c.or-2.ensures.first c.or-2.ensures.second second.0 two in
    let best = better_is c.or-3.ensures.first c.or-3.ensures.second third.0 one in
    least_skip_is c.requires.readable best.0 (omega arith) (omega (arith, ap skips c.min.ensures)) (omega (arith, ap skips c.min-2.ensures))
    (omega (arith, ap skips c.min-3.ensures))
