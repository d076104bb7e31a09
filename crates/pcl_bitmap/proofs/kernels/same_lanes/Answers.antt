use Rattle.std.proofs.Common.{◌<◌, ◌∙◌, sym, arith}
use Rattle.pcl_bitmap.proofs.Names.{get_or-chunk}
use Rattle.pcl_bitmap.proofs.kernels.same_lanes.Goals as goal

pub returns-clause-same : goal.returns-clause-same
returns-clause-same c k below =
    let at = c.args.at in
    let inside : k < 32 = omega (arith, c.lanes_before.ensures.within) in
    sym (get_or-chunk at 32 c.args.a.now k 0 inside) ∙ c.lanes_before.ensures.same k below ∙ get_or-chunk at 32 c.args.b.now k 0 inside

pub returns-clause-differs : goal.returns-clause-differs
returns-clause-differs c inside same =
    let k = c.lanes_before.result in
    c.lanes_before.ensures.differs inside
    (get_or-chunk c.args.at 32 c.args.a.now k 0 inside ∙ same ∙ sym (get_or-chunk c.args.at 32 c.args.b.now k 0 inside))
