use Rattle.std.proofs.Common.{take, All}
use Rattle.pcl_explain.specs.Kinds.{IsKindName}
use Rattle.pcl_explain.proofs.kinds.kind_named.Given as goal

-- no kind so far has the name
abbrev pub invariant-loop-kind : goal.invariant-loop-kind
invariant-loop-kind l = All (λ kind. IsKindName l.fn.name kind → ⊥) (take l.kind-index l.kind-items)
