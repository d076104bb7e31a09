use Rattle.std.proofs.Common.{◌≡◌, ◌≢◌, nat_abs, refl, sym, arith}
use Rattle.pcl_escape.proofs.Names.{lt-ltb, le-ltb, operation_of, operation_checks}
use Rattle.pcl_escape.proofs.Data.{through_bits, counts, counted, counted_checks}
use Rattle.pcl_escape.proofs.step.data_len.Goals as goal
use Rattle.pcl_escape.proofs.step.data_len.Goals.{After-whole-in-Some-4}

-- where the whole part isn't 0, it counts bytes
checks : (c : After-whole-in-Some-4) → nat_abs (through_bits c.whole-in-Some-4.result) ≢ 0
    → operation_checks c.args.profile (operation_of c.args.name) c.args.letter c.args.value c.args.left
    ≡ counted_checks c.args.letter (nat_abs (through_bits c.whole-in-Some-4.result)) c.args.left
checks c some =
    counted c.args.profile c.args.letter c.args.left c.in-Some.ensures (sym c.if-not-is_in.ensures) (sym c.if-not-takes_data.ensures)
    (counts c.args.value c.whole-in-Some-4.type_inv c.whole.ensures c.whole-in-Some-4.ensures c.if-whole-lt0.false) some

pub returns-in_default-clause-checks : goal.returns-in_default-clause-checks
returns-in_default-clause-checks c =
    rw (checks (goal.at.returns-in_default-clause-checks c).After-whole-in-Some-4 (omega arith), ← c.if-goes_on.ensures) refl

pub returns-in_default-2-clause-checks : goal.returns-in_default-2-clause-checks
returns-in_default-2-clause-checks c =
    rw (checks (goal.at.returns-in_default-2-clause-checks c).After-whole-in-Some-4 (omega arith), ← c.if-goes_on.ensures)
    (rw (lt-ltb _ _ c.if-left-len.true) refl)

pub returns-in_default-3-clause-checks : goal.returns-in_default-3-clause-checks
returns-in_default-3-clause-checks c =
    rw (checks (goal.at.returns-in_default-3-clause-checks c).After-whole-in-Some-4 (omega arith), ← c.if-goes_on.ensures)
    (rw (le-ltb _ _ c.if-left-len.false) refl)
