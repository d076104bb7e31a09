use Rattle.pcl_same.proofs.Names.{Profile, Stated, IsComparedAskedBy}
use Rattle.pcl_same.proofs.OneAnswer.{HasOneMeaning, one_told}
use Rattle.pcl_same.proofs.OneAskedAnswer.{same_asked_answer_by}
use Rattle.pcl_same.specs.declared.asking.LastExit.TheVariants.{Ends}
use Rattle.pcl_same.proofs.laws.one_asked_answer.Goals as goal

pub returns-clause-by : goal.returns-clause-by
returns-clause-by c = λ last profile.
    same_asked_answer_by last (record {
      pages = c.one_meaning.ensures.pages profile;
      refusal = c.one_meaning.ensures.refusal profile;
      apart = c.one_meaning.ensures.apart profile;
    }) (c.one_meaning.ensures.asks profile)

pub returns-clause-answer : goal.returns-clause-answer
returns-clause-answer c = λ widest dpi first second.
    let one : (profile : Profile) → HasOneMeaning profile = λ profile. record {
      pages = c.one_meaning.ensures.pages profile;
      refusal = c.one_meaning.ensures.refusal profile;
      apart = c.one_meaning.ensures.apart profile;
    } in
    one_told (one Stated) dpi first second (λ profile it. IsComparedAskedBy Ends profile dpi first second it)
    (λ profile. same_asked_answer_by Ends (one profile) (c.one_meaning.ensures.asks profile) dpi first second) widest
