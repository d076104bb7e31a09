use Rattle.pcl_tool.proofs.Names.{arith, common_steps, on_err}
use Rattle.pcl_tool.proofs.SameCheckers.{again}
use Rattle.pcl_tool.proofs.page_checks.CheckerPageSink.page.Goals as goal

pub returns-in_err-self-clause-kept : goal.returns-in_err-self-clause-kept
returns-in_err-self-clause-kept c = on_err c.from_residual.result (again _)

pub returns-clause-taken : goal.returns-clause-taken
returns-clause-taken c = grind (arith, common_steps)
