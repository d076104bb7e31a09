use Rattle.pcl_plan.proofs.Planned.{plan_is}
use Rattle.pcl_plan.proofs.planner.plan_rows.Goals as goal

pub returns : goal.returns
returns g c = plan_is c.new-2.ensures.steps c.new-2.ensures.table c.fill.ensures c.in_ok-append_steps.ensures
