use Rattle.pcl_plan.proofs.Names.{arith, length_rows}
use Rattle.pcl_plan.proofs.Reading.{right_table, row_left}
use Rattle.pcl_plan.proofs.ReadSteps.{read_more, read_less, read_all}
use Rattle.pcl_plan.proofs.steps.append_steps.Goals as goal

pub best_step-step-requires-clause-row : goal.best_step-step-requires-clause-row
best_step-step-requires-clause-row g c =
    let rows = c.args.rows.now in
    let node = c.loop-node.node in
    let ink = c.loop-node.invariant.inked (omega (arith, c.loop-node-test.true, c.number.ensures)) in
    let left = row_left (right_table rows c.requires.right) node.row node.method c.loop-node.invariant.within ink in
    omega (arith, length_rows rows.count rows.width rows.bytes.now)

pub next_node-node-requires-clause-row : goal.next_node-node-requires-clause-row
next_node-node-requires-clause-row g c =
    let rows = c.args.rows.now in omega (arith, c.loop-node.invariant.within, length_rows rows.count rows.width rows.bytes.now, rows.few)

pub loop-node-smaller : goal.loop-node-smaller
loop-node-smaller g c =
    read_less (right_table c.args.rows.now c.requires.right) c.loop-node.invariant
    (omega (arith, c.loop-node-test.true, c.number.ensures)) c.best_step-step.ensures c.next_node-node.ensures

pub loop-node-preserved : goal.loop-node-preserved
loop-node-preserved g c =
    rw c.in_ok-push.ensures.items
    (read_more (right_table c.args.rows.now c.requires.right) c.loop-node.invariant
    (omega (arith, c.loop-node-test.true, c.number.ensures)) c.best_step-step.ensures c.next_node-node.ensures)

pub returns : goal.returns
returns g c =
    read_all (right_table c.args.rows.now c.requires.right) c.loop-node.invariant (omega (arith, c.loop-node-test.false, c.number.ensures))
