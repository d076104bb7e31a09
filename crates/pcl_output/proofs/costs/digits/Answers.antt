use Rattle.std.proofs.Common.{sym, ap, ◌∙◌, arith}
use Rattle.pcl_output.proofs.Names.{digit_count}
use Rattle.pcl_output.proofs.DigitCounts.{count_is, count_of_none}
use Rattle.pcl_output.proofs.costs.digits.Goals as goal

pub returns-in-0-clause-count : goal.returns-in-0-clause-count
returns-in-0-clause-count c = sym count_of_none ∙ ap digit_count (sym c.in-0.is)

pub returns-in-1-to-9-clause-count : goal.returns-in-1-to-9-clause-count
returns-in-1-to-9-clause-count c = count_is 0 c.args.number (omega arith) (omega arith) (omega arith)

pub returns-in-10-to-99-clause-count : goal.returns-in-10-to-99-clause-count
returns-in-10-to-99-clause-count c = count_is 1 c.args.number (omega arith) (omega arith) (omega arith)

pub returns-in-100-to-999-clause-count : goal.returns-in-100-to-999-clause-count
returns-in-100-to-999-clause-count c = count_is 2 c.args.number (omega arith) (omega arith) (omega arith)

pub returns-in-1000-to-9999-clause-count : goal.returns-in-1000-to-9999-clause-count
returns-in-1000-to-9999-clause-count c = count_is 3 c.args.number (omega arith) (omega arith) (omega arith)

pub returns-in_default-clause-count : goal.returns-in_default-clause-count
returns-in_default-clause-count c = count_is 4 c.args.number (omega arith) (omega arith) (omega arith)
