use Rattle.pcl_same.proofs.Names.{Profile, Stated, IsComparedBy}
use Rattle.pcl_same.proofs.OneAnswer.{HasOneMeaning, same_answer_by, one_told}
use Rattle.pcl_same.proofs.laws.one_answer.Goals as goal

pub returns : goal.returns
returns c = λ widest dpi first second.
    let one : (profile : Profile) → HasOneMeaning profile = λ profile. record {
      pages = c.one_meaning.ensures.pages profile;
      refusal = c.one_meaning.ensures.refusal profile;
      apart = c.one_meaning.ensures.apart profile;
    } in
    one_told (one Stated) dpi first second (λ profile it. IsComparedBy profile dpi first second it)
    (λ profile. same_answer_by (one profile) dpi first second) widest
