-- Parts of what commands do, under names that proofs use.
use Rattle.std.specs.Prelude.{ℕ, List, Result}
use Rattle.pcl_base.specs.declared.dpi.Dpi.{Dpi}
use Rattle.pcl_base.specs.declared.kind.Kind.{Kind}
use Rattle.pcl_base.specs.declared.operation.Operation.{Operation}
use Rattle.pcl_base.specs.Limits.{macro_limit}
use Rattle.pcl_escape.specs.Said.{Said}
use Rattle.pcl_page.specs.Performing.{Performance, in_order, runs, step}
use Rattle.pcl_page.specs.Situation.{Situation, draw_refusal, drawn, unless_refused}

-- what a command draws, unless it is refused there
abbrev pub drawn_on : Dpi → Operation → Said → Situation → Result Situation Kind
drawn_on dpi operation command s = unless_refused (draw_refusal dpi operation command s) (drawn dpi operation command s)

-- commands of the job from a place on
abbrev pub after_all : Dpi → List Said → ℕ → List Said → Situation → Performance
after_all dpi all place commands s = in_order (step dpi (runs macro_limit dpi all)) place commands s
