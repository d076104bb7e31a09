use Rattle.pcl_coders.proofs.Names.{inl, inr}
use Rattle.pcl_coders.proofs.Ends.{first_end_of_trimmed}
use Rattle.pcl_coders.proofs.fill.needed_len.Goals as goal

pub returns-in-Plain : goal.returns-in-Plain
returns-in-Plain c =
    let trimmed = first_end_of_trimmed c.requires c.trimmed_len.ensures in
    elim c.in-Plain.is [
      | inl plain ↦ rw plain trimmed
      | inr other ↦ elim other [ inl runs ↦ rw runs trimmed | inr packed ↦ rw packed trimmed ]
    ]
