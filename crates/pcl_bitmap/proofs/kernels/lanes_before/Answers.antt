use Rattle.std.proofs.Common.{ℕ, ◌∙◌, sym, ap, arith}
use Rattle.pcl_bitmap.proofs.Names.{bit_at}
use Rattle.pcl_bitmap.proofs.KernelLanes.{lanes_same, lanes_differ, whole_mask}
use Rattle.pcl_bitmap.proofs.kernels.lanes_before.Goals as goal

pub returns-clause-same : goal.returns-clause-same
returns-clause-same c k below =
    lanes_same c.args.a c.args.b c.fits-a.0 c.fits-b.0 (omega (arith, c.first_set.ensures.within))
    (rw (whole_mask c.args.a c.args.b c.fits-a.0 c.fits-b.0) at c.first_set.ensures.clear k below)

pub returns-clause-differs : goal.returns-clause-differs
returns-clause-differs c below =
    lanes_differ c.args.a c.args.b c.fits-a.0 c.fits-b.0 below
    (ap (λ (m : ℕ). bit_at m c.first_set.result) (sym (whole_mask c.args.a c.args.b c.fits-a.0 c.fits-b.0)) ∙ c.first_set.ensures.set below)
