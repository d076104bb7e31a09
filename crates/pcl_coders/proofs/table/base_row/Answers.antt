use Rattle.std.proofs.Common.{length, take, ap, ◌∙◌, inl, inr}
use Rattle.pcl_coders.proofs.Names.{take-replicate}
use Rattle.pcl_coders.proofs.table.base_row.Goals as goal

pub returns-in-Plain : goal.returns-in-Plain
returns-in-Plain c =
    let cut = ap (take (length c.args.seed.now)) c.requires.zeros ∙ take-replicate (length c.args.seed.now) 600 0 c.requires.small in
    elim c.in-Plain.is [ inl plain ↦ rw plain cut | inr other ↦ elim other [ inl runs ↦ rw runs cut | inr packed ↦ rw packed cut ] ]
