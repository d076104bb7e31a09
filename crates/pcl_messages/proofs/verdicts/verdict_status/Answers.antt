use Rattle.std.proofs.Common.{◌≡◌, arith}
use Rattle.pcl_messages.proofs.Names.{JobVerdict, Proved, verdict_status_for}
use Rattle.pcl_messages.proofs.verdicts.verdict_status.Goals as goal

not_proved : (verdict : JobVerdict) → (verdict ≡ Proved → ⊥) → 1 ≡ verdict_status_for verdict
not_proved verdict other = grind arith

pub returns-in-Proved : goal.returns-in-Proved
returns-in-Proved c = rw c.in-Proved.is

pub returns-in_default : goal.returns-in_default
returns-in_default c = not_proved c.args.verdict.now c.in_default.not-Proved
