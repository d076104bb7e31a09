-- The model of a plan.
use Rattle.std.specs.Prelude.{◌<◌, length}
use Rattle.pcl_plan.specs.Plans.{StepsAndTable}
use Rattle.pcl_plan.specs.declared.page_plan.Plan.TheInside.{Inside}

abbrev pub plan_view : Inside → StepsAndTable
plan_view a = record { steps = a.steps.items; table = a.table }

abbrev pub IsWithTable : Inside → Type 0
IsWithTable a = 0 < length a.table
