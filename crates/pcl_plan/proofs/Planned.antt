-- A table that is right, and the steps that were read off it, are a plan.
use Rattle.std.proofs.Common.{◌≡◌, ℕ, List, arith}
use Rattle.pcl_plan.proofs.Names.{RowNumbers, Step, start, node_number, IsTableFor, AreRowsRightFrom, AreLeastSteps, StepsAndTable, IsPlan}
use Rattle.pcl_plan.proofs.Reading.{feasible_table, least_table}

pub plan_is : {width : ℕ} {rows : List (List ℕ)} {table : List RowNumbers} {steps : List Step} {plan : StepsAndTable} → plan.steps ≡ steps
    → plan.table ≡ table → AreRowsRightFrom width rows table 0 → AreLeastSteps width rows (node_number table) steps → IsPlan width rows plan
plan_is s t right are = record {
  size = rw t right.size;
  feasible = rw t (feasible_table right);
  least = rw t (least_table right);
  tokens = are.tokens;
  spelled = rw s are.spelled;
  walk = are.walk;
  total_is = rw t are.total_is;
}

-- its table shows how long a least text is
pub table_of_plan : {width : ℕ} {rows : List (List ℕ)} {plan : StepsAndTable} → IsPlan width rows plan → IsTableFor width rows plan.table
table_of_plan is = record { size = is.size; feasible = is.feasible; least = is.least start (omega arith) }
