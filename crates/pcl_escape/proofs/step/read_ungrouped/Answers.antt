use Rattle.pcl_escape.proofs.Names.{refl, ap, arith, said_of}
use Rattle.pcl_escape.specs.inner.Scan.{ungrouped_at}
use Rattle.pcl_escape.proofs.Lines.{lines_within}
use Rattle.pcl_escape.proofs.Steps.{parameter_shorter}
use Rattle.pcl_escape.proofs.step.read_ungrouped.Goals as goal

pub overflow_sub-place : goal.overflow_sub-place
overflow_sub-place c = omega (arith, parameter_shorter c.args.profile _ c.args.at c.args.bytes.now c.in_ok-step.ensures)

pub skip_lines-requires : goal.skip_lines-requires
skip_lines-requires c = omega (arith, parameter_shorter c.args.profile _ c.args.at c.args.bytes.now c.in_ok-step.ensures)

pub returns-in-Err : goal.returns-in-Err
unfolding ungrouped_at
returns-in-Err c = rw (c.refused.ensures, c.in_ok-step.ensures, ap said_of c.in-Some.is, ← c.if-is_exit.ensures, c.in-Err.ensures) refl

pub with_lines-requires : goal.with_lines-requires
with_lines-requires c = lines_within _ c.in_ok-step.step.rest.now c.in-Ok.rest.now c.in-Ok.ensures
