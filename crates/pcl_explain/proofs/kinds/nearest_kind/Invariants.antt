use Rattle.std.proofs.Common.{take}
use Rattle.pcl_explain.proofs.Nearest.{IsNearestOf}
use Rattle.pcl_explain.proofs.kinds.nearest_kind.Given as goal

-- the nearest kind so far
abbrev pub invariant-loop-kind : goal.invariant-loop-kind
invariant-loop-kind l = IsNearestOf l.fn.word (take l.kind-index l.kind-items) l.nearest l.fewest
