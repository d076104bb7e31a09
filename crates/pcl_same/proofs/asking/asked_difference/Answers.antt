use Rattle.std.proofs.Common.{◌≡◌, Bool, false, arith}
use Rattle.std.proofs.Math.Bool.{beq}
use Rattle.std.specs.Prelude.{not}
use Rattle.pcl_same.proofs.FirstAsked.{same_page}
use Rattle.pcl_same.proofs.asking.asked_difference.Goals as goal

same_answer : (one other : Bool) → not (beq one other) ≡ false → one ≡ other
same_answer one other e = grind arith

pub returns-in-None : goal.returns-in-None
returns-in-None c =
    same_page (same_answer c.args.one.now.start.is_first c.args.other.now.start.is_first c.if-one-other.false) c.in-None.ensures
