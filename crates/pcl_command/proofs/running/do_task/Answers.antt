use Rattle.pcl_command.proofs.running.do_task.Goals as goal

pub returns-in-Minimize : goal.returns-in-Minimize
returns-in-Minimize g c = rw c.in-Minimize.is assumption

pub returns-in-Preview : goal.returns-in-Preview
returns-in-Preview g c = rw c.in-Preview.is assumption

pub returns-in-Explain : goal.returns-in-Explain
returns-in-Explain g c = rw c.in-Explain.is assumption

pub returns-in-ExplainKind : goal.returns-in-ExplainKind
returns-in-ExplainKind g c = rw c.in-ExplainKind.is assumption

pub returns-in-DescribePages : goal.returns-in-DescribePages
returns-in-DescribePages g c = rw c.in-DescribePages.is assumption

pub returns-in-Shrink : goal.returns-in-Shrink
returns-in-Shrink g c = rw c.in-Shrink.is assumption
