use Rattle.std.proofs.Common.{ℕ, ◌+◌, ◌<◌, length, false, sym, ◌∙◌, arith}
use Rattle.pcl_plan.proofs.Names.{length_small, Rows, rows_of, length_rows, node}
use Rattle.pcl_plan.proofs.Reading.{right_table, readable_run, skip_bound, small_number, row_begins}
use Rattle.pcl_plan.proofs.Filled.{skippable}
use Rattle.pcl_plan.proofs.steps.best_step.Goals as goal

inside_page : (rows : Rows) {row : ℕ} → row < rows.count → row < length (rows_of rows)
inside_page rows lt = omega (arith, length_rows rows.count rows.width rows.bytes.now)

pub beginning_skip-requires-clause-readable : goal.beginning_skip-requires-clause-readable
beginning_skip-requires-clause-readable g c =
    readable_run (right_table c.args.rows.now c.requires.right) c.args.method c.requires.ink c.white_run-run.ensures.run

pub beginning_skip-requires-clause-least : goal.beginning_skip-requires-clause-least
beginning_skip-requires-clause-least g c = λ count some within.
    let can = skippable c.white_run-run.ensures.run some within in
    omega (arith, c.number-least.ensures, skip_bound (right_table c.args.rows.now c.requires.right) c.args.row c.args.method can)

pub returns-in-Some : goal.returns-in-Some
returns-in-Some g c =
    let some = c.in-Some.ensures.some in (skippable c.white_run-run.ensures.run some.0 some.1, sym c.number-least.ensures ∙ some.2)

pub number-sent-requires : goal.number-sent-requires
number-sent-requires g c = omega (arith, c.requires.right.size, inside_page c.args.rows.now c.requires.row)

pub beginning_switch-requires-clause-small : goal.beginning_switch-requires-clause-small
beginning_switch-requires-clause-small g c = λ method.
    let below = inside_page c.args.rows.now c.requires.row in
    omega (arith, small_number (right_table c.args.rows.now c.requires.right) (node c.args.row method false) (omega arith))

pub overflow_sub-least : goal.overflow_sub-least
overflow_sub-least g c =
    let row = row_begins (right_table c.args.rows.now c.requires.right) (inside_page c.args.rows.now c.requires.row)
    c.white_run-run.ensures.run c.number-least.ensures c.in_default.ensures.none c.in_default-beginning_switch.ensures.none in
    omega (arith, row.2, c.number-sent.ensures)

pub overflow_cast-result-in_default-beginning_switch : goal.overflow_cast-result-in_default-beginning_switch
overflow_cast-result-in_default-beginning_switch g c =
    let row = row_begins (right_table c.args.rows.now c.requires.right) (inside_page c.args.rows.now c.requires.row)
    c.white_run-run.ensures.run c.number-least.ensures c.in_default.ensures.none c.in_default-beginning_switch.ensures.none in
    let small = length_small row.1 in omega (arith, small, c.data_len.ensures row.0 small (omega (arith, row.2, c.number-sent.ensures)))

pub returns-in_default-beginning_switch : goal.returns-in_default-beginning_switch
returns-in_default-beginning_switch g c =
    let below = inside_page c.args.rows.now c.requires.row in
    let row = row_begins (right_table c.args.rows.now c.requires.right) below
    c.white_run-run.ensures.run c.number-least.ensures c.in_default.ensures.none c.in_default-beginning_switch.ensures.none in
    rw (c.data_len.ensures row.0 (length_small row.1) (omega (arith, row.2, c.number-sent.ensures)))
    (below, row.1, sym c.number-least.ensures ∙ row.2)

pub overflow_add-row_cost : goal.overflow_add-row_cost
overflow_add-row_cost g c =
    let below = inside_page c.args.rows.now c.requires.row in
    let after = small_number (right_table c.args.rows.now c.requires.right) (node (c.args.row + 1) c.args.method false) (omega arith) in
    omega (arith, c.row_cost.ensures.small, c.number-sent.ensures)

pub returns-then-row_cost-sent : goal.returns-then-row_cost-sent
returns-then-row_cost-sent g c = (
  inside_page c.args.rows.now c.requires.row,
  c.least_length-bytes.ensures.least,
  omega (arith, c.number-least.ensures, c.if-row_cost-sent.true, c.row_cost.ensures.cost, c.number-sent.ensures),
)
