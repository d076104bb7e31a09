use Rattle.std.proofs.Common.{◌≡◌, ◌∙◌, List, ℕ, sym, inl, inr}
use Rattle.pcl_page.proofs.Names.{Dpi, Profile, Refusal, IsStopped}
use Rattle.pcl_page.proofs.job.one_meaning.Goals as goal

pub returns-clause-pages : goal.returns-clause-pages
returns-clause-pages c = λ profile dpi job pages others p q.
    let same = c.one_outcome.ensures.reading profile job p.commands q.commands p.reading q.reading in
    p.ejected ∙ rw same (sym q.ejected)

pub returns-clause-asks : goal.returns-clause-asks
returns-clause-asks c = λ profile dpi job asks others p q.
    let same = c.one_outcome.ensures.reading profile job p.commands q.commands p.reading q.reading in
    p.asked ∙ rw same (sym q.asked)

same_stop : {profile : Profile} {dpi : Dpi} {job : List ℕ} {refusal other : Refusal} (p : IsStopped profile dpi job refusal)
    (q : IsStopped profile dpi job other)
    → p.commands ≡ q.commands → refusal ≡ other
same_stop p q e = let s = rw e at p.refused in let t = q.refused in cc

pub returns-clause-refusal : goal.returns-clause-refusal
returns-clause-refusal c = λ profile dpi job refusal other p q.
    elim p [
      | inl f ↦ elim q [
        | inl k ↦ c.one_outcome.ensures.fault profile job refusal other f k
        | inr s ↦ absurd (c.one_outcome.ensures.apart profile job s.commands refusal s.reading f)
      ]
      | inr s ↦ elim q [
        | inl k ↦ absurd (c.one_outcome.ensures.apart profile job s.commands other s.reading k)
        | inr t ↦ same_stop s t (c.one_outcome.ensures.reading profile job s.commands t.commands s.reading t.reading)
      ]
    ]

pub returns-clause-apart : goal.returns-clause-apart
returns-clause-apart c = λ profile dpi job pages refusal p r.
    elim r [
      | inl f ↦ c.one_outcome.ensures.apart profile job p.commands refusal p.reading f
      | inr s ↦
          let n = rw (c.one_outcome.ensures.reading profile job p.commands s.commands p.reading s.reading) at p.accepted in
          let t = s.refused in absurd cc
    ]
