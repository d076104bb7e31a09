use Rattle.std.proofs.Common.{◌≡◌, false, refl, length}
use Rattle.pcl_escape.specs.Checks.{parameter_checks}
use Rattle.pcl_escape.proofs.Names.{spelled, field_value, in_range, checked_at}
use Rattle.pcl_escape.specs.inner.Scan.{parameter_at}
use Rattle.pcl_escape.proofs.Parameters.{nothing_after, not_given, given, some_if}
use Rattle.pcl_escape.proofs.step.read_parameter.Goals as goal
use Rattle.pcl_escape.proofs.step.read_parameter.Goals.{After-parameter_name-name}

-- a letter was found after the field, and then come the checks
checked : (c : After-parameter_name-name) → parameter_at c.args.profile c.args.prefix c.args.at c.args.bytes.now
    ≡ checked_at c.args.prefix c.args.at c.in-Some.field-0-0.now (field_value (spelled c.read_field.result.0)) c.in-Some.after.now
    (parameter_checks c.args.profile c.parameter_name-name.result c.in-Some.field-0-0.now (field_value (spelled c.read_field.result.0))
    (length c.in-Some.after.now))
unfolding parameter_at
checked c = rw (← c.read_field.ensures, c.in-Some.ensures.cases.0, ← c.if-not-is_letter.ensures, c.parameter_name-name.ensures) refl

pub returns-in_default : goal.returns-in_default
returns-in_default c = rw (c.refused.ensures, c.name.ensures)
    (nothing_after c.args.profile c.args.prefix c.args.at c.args.bytes.now c.read_field.result.1.now
    c.read_field.ensures c.in_default.ensures.cases)

pub returns-then-not-is_letter : goal.returns-then-not-is_letter
unfolding parameter_at
returns-then-not-is_letter c = rw (c.refused-then-not-is_letter.ensures, ← c.read_field.ensures, c.in-Some.ensures.cases.0)
    (rw (← c.if-not-is_letter.ensures, c.name-then-not-is_letter.ensures) refl)

pub returns-in_default-value : goal.returns-in_default-value
unfolding parameter_checks
returns-in_default-value c =
    let out : in_range (field_value (spelled c.read_field.result.0)) ≡ false = not_given _ _ c.in_default-value.ensures in
    rw (c.refused-in_default-value.ensures, checked (goal.at.returns-in_default-value c).After-parameter_name-name, out)
    (rw c.parameter_name-name.ensures refl)

pub returns-in-Err : goal.returns-in-Err
unfolding parameter_checks
returns-in-Err c =
    let g = given (in_range (field_value (spelled c.read_field.result.0))) c.in-Some-value.ensures in
    rw (c.refused-in-Err.ensures, checked (goal.at.returns-in-Err c).After-parameter_name-name, g.0, ← g.1)
    (rw (← c.in-Err.ensures.checks, c.parameter_name-name.ensures) refl)

pub returns : goal.returns
unfolding parameter_checks
returns c =
    let g = given (in_range (field_value (spelled c.read_field.result.0))) c.in-Some-value.ensures in
    rw (checked (goal.at.returns c).After-parameter_name-name, g.0, ← g.1, ← c.in-Ok.ensures.checks, c.parameter_name-name.ensures)
    (rw (c.split_at.ensures.front, c.split_at.ensures.back, c.then_some.ensures, c.goes_on.ensures, some_if) refl)
