use Rattle.pcl_tool.proofs.Names.{List, ℕ, length, refl, ap, arith, false≢true, IsFramed}
use Rattle.std.proofs.Common.{length-append}
use Rattle.pcl_tool.proofs.page_checks.texts_of.Goals as goal

pub returns-then-have_length : goal.returns-then-have_length
returns-then-have_length c = record { spelled = c.in_ok-texts.ensures; as_long = c.if-have_length.ensures.0 refl }

pub returns-else-have_length : goal.returns-else-have_length
returns-else-have_length c = λ (others : List ℕ) (framed : IsFramed c.args.output.now others c.args.proofs.now).
    let long = simp length-append at (ap length c.in_ok-texts.ensures) in
    let longer = simp length-append at (ap length framed.spelled) in
    absurd (false≢true (c.if-have_length.ensures.1 (omega (arith, long, longer, framed.as_long))))
