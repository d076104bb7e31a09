use Rattle.std.proofs.Common.{◌≡◌}
use Rattle.pcl_shrink.proofs.Names.{IsPicture}
use Rattle.pcl_shrink.proofs.squares.paint_squares.Given as goal

abbrev pub invariant-loop-y : goal.invariant-loop-y
invariant-loop-y l = (l.coarse.size ≡ l.initial.coarse.size) × (l.coarse.dpi ≡ l.initial.coarse.dpi) × IsPicture l.coarse
