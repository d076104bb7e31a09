use Rattle.std.proofs.Common.{◌≡◌, ◌⊎◌, inl, inr, arith}
use Rattle.pcl_tool.specs.declared.job_verdict.CheckAnswer.TheVariants.{Job}
use Rattle.pcl_library.proofs.checking.check_answer.Goals as goal

pub returns-in-Ok : goal.returns-in-Ok
returns-in-Ok c =
    let answered = c.verdict_answer.ensures in
    let ended : (c.verdict_answer.result.outcome ≡ 0) ⊎ (c.verdict_answer.result.outcome ≡ 5) =
    elim answered.ended [ inl done ↦ inl done | inr memory ↦ inr memory.ended ] in
    record {
      performed = (λ three. grind (arith, ended, three), λ four. grind (arith, ended, four));
      no_page = λ two. grind (arith, ended, two);
      done = λ done. (
        answered.resolution done,
        record { given = Job c.in-Ok.verdict; right = c.in-Ok.ensures; line = answered.line done; holds = answered.holds done },
      );
      refused = λ refused. absurd (grind (arith, ended, refused));
    }
