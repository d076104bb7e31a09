-- How long a written page text is.
use Rattle.std.proofs.Common.{◌≡◌, ℕ, ◌+◌, List, length, Result, Ok, Err, ap, ◌∙◌, arith}
use Rattle.pcl_writer.proofs.Names.{OnOk, length-append, Page, bitmap_rows, IsPlanOf, StepsAndTable, start, node_number, text_of_least, AppendsPage, planned_bytes}

-- a least text is as long as each other one, and the plan's cost is that of one
written_cost : (page : Page) (plan : StepsAndTable) (old new : List ℕ) → IsPlanOf page plan → AppendsPage page old new
    → length new ≡ length old + planned_bytes page plan
written_cost page plan old new is a =
    let text = a.0 in
    let printed = a.2.0 in
    let planned = text_of_least page.dpi page.size page.copies (bitmap_rows page.bitmap) (node_number plan.table start)
    printed.some_copies printed.few_copies printed.count printed.rows_are (is.least start (omega arith)) in
    let below = a.2.2.shortest planned.attained.0 planned.attained.1 in
    let above = planned.shortest text printed in
    omega (arith, below, above, planned.attained.2, ap length a.1 ∙ length-append old text)

pub cost_on_ok : {E : Type 0} (page : Page) (plan : StepsAndTable) (old new : List ℕ) (result : Result (Unit {0}) E) → IsPlanOf page plan
    → OnOk result (AppendsPage page old new) → OnOk result (length new ≡ length old + planned_bytes page plan)
cost_on_ok page plan old new (Ok unit) is a = written_cost page plan old new is a
cost_on_ok page plan old new (Err why) is a = tt
