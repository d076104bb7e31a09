use Rattle.pcl_tool.proofs.Names.{sym}
use Rattle.pcl_tool.proofs.Left.{answer_more}
use Rattle.pcl_tool.proofs.page_checks.Checker.verdict.Goals as goal

pub returns-then-self : goal.returns-then-self
returns-then-self c = sym (answer_more c.args.self.now.taken c.args.self.now.proofs.now c.args.self.now.found c.if-self.true)
