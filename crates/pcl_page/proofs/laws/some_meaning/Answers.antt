use Rattle.std.proofs.Common.{◌≡◌, ◌⊎◌, List, length, ℕ, Option, None, Some, refl, inl, inr}
use Rattle.pcl_escape.specs.Pieces.{IsReading}
use Rattle.pcl_page.proofs.Names.{Dpi, Profile, Refusal, Said, Sheet, IsRefusalBy, HasPagesBy, performance, pages_of}
use Rattle.pcl_page.proofs.laws.some_meaning.Goals as goal

-- performing a job that is read refuses it, or gives its pages
performed : {profile : Profile} {dpi : Dpi} {job : List ℕ} {commands : List Said} (why : Option Refusal) → IsReading profile job commands
    → (performance profile dpi (length job) commands).refusal ≡ why
    → ((pages : List Sheet) × HasPagesBy profile dpi job pages) ⊎ ((refusal : Refusal) × IsRefusalBy profile dpi job refusal)
performed {profile} {dpi} {job} {commands} None r e =
    let pages = pages_of (performance profile dpi (length job) commands) in
    inl (pages, record { commands = commands; reading = r; accepted = e; ejected = refl })
performed {commands = commands} (Some refusal) r e = inr (refusal, inr (record { commands = commands; reading = r; refused = e }))

pub returns : goal.returns
returns c = λ profile dpi job. elim (c.some_outcome.ensures profile job) [
  | inl r ↦ performed (performance profile dpi (length job) r.0).refusal r.1 refl
  | inr f ↦ inr (f.0, inl f.1)
]
