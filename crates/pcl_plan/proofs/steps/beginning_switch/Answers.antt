use Rattle.pcl_plan.proofs.Names.{Plain, Runs, Packed, Delta}
use Rattle.pcl_plan.proofs.steps.beginning_switch.Goals as goal

pub switch_number-requires-clause-small : goal.switch_number-requires-clause-small
switch_number-requires-clause-small c = c.requires.small Plain

pub switch_number-requires-else-switch_number-least-clause-small : goal.switch_number-requires-else-switch_number-least-clause-small
switch_number-requires-else-switch_number-least-clause-small c = c.requires.small Runs

pub switch_number-requires-else-switch_number-least-2-clause-small : goal.switch_number-requires-else-switch_number-least-2-clause-small
switch_number-requires-else-switch_number-least-2-clause-small c = c.requires.small Packed

pub switch_number-requires-else-switch_number-least-3-clause-small : goal.switch_number-requires-else-switch_number-least-3-clause-small
switch_number-requires-else-switch_number-least-3-clause-small c = c.requires.small Delta
