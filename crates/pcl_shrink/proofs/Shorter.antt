-- The shorter of the best job so far and a proposal, and what comes of it.
use Rattle.std.proofs.Common.{◌≡◌, ℕ, ◌<◌, ◌≤◌, List, length, ◌++◌, Option, Result, Ok, Err, IfOk, refl, ap, ◌∙◌, arith}
use Rattle.pcl_shrink.proofs.Names.{Profile, Dpi, Asks, Sheet, HasPagesBy, HasAsksBy, frame_bytes, said_for, job_of_texts, asked_job, AreLeastTexts, IsSameAt, IsSmallerJobAt, IsBest, IsShorter, IsLimit, Proposal, best_bytes}
use Rattle.pcl_shrink.proofs.Smaller.{OnePages, OneAsks, SayTheSame, same_as_raster, proposal_smaller}
use Rattle.pcl_shrink.proofs.LeastJobs.{joined, print_each, texts_count, job_as_said}

-- the best job so far stays
pub stays_shorter : {profile : Profile} {dpi : Dpi} {also : Option Dpi} {job best proposal : List ℕ} → length best ≤ length proposal
    → IsShorter profile dpi also job best proposal best
stays_shorter short = record { keeps = λ b. b; no_longer = omega arith; takes = λ same. short }

pub stays_unlike : {profile : Profile} {dpi : Dpi} {also : Option Dpi} {job best proposal : List ℕ}
    → (IsSameAt profile dpi also job proposal → ⊥)
    → IsShorter profile dpi also job best proposal best
stays_unlike unlike = record { keeps = λ b. b; no_longer = omega arith; takes = λ same. absurd (unlike same) }

-- the proposal is taken
pub takes_proposal : {profile : Profile} → OnePages profile → OneAsks profile
    → {dpi : Dpi} {also : Option Dpi} {job best proposal : List ℕ} → IsSameAt profile dpi also job proposal
    → length proposal < length best → IsShorter profile dpi also job best proposal proposal
takes_proposal one one_asks looked short = record {
  keeps = λ best. proposal_smaller one one_asks best looked short;
  no_longer = omega (arith, short);
  takes = λ same. omega arith;
}

-- a job that is no longer than least page texts with what is asked around them, where these are the same
pub smaller_job : {profile : Profile} → OnePages profile → OneAsks profile → SayTheSame profile
    → {dpi : Dpi} {also : Option Dpi} {job last : List ℕ} {pages : List Sheet} {asks : Asks}
    (texts : List (List ℕ)) → IsBest profile dpi also job last → HasPagesBy profile dpi job pages → HasAsksBy profile dpi job asks
    → AreLeastTexts dpi pages texts
    → (IsSameAt profile dpi also job (asked_job asks texts) → length last ≤ length (asked_job asks texts))
    → IsSmallerJobAt profile dpi also job last
smaller_job {profile} one one_asks say_the_same {dpi} {also} {job} {last} {pages} {asks} texts s meaning asked least shorter =
    let each = rw (one dpi job pages s.pages meaning s.meaning) at least in
    let within = rw (one_asks dpi job asks s.asks asked s.asked) at shorter in
    let raster = frame_bytes ++ joined texts ++ frame_bytes in
    let w = job_of_texts profile dpi job frame_bytes (frame_bytes ++ joined texts) raster (joined texts) s.pages s.meaning refl
    (print_each dpi s.pages texts each) refl refl in
    record {
      pages = s.pages;
      meaning = s.meaning;
      prints = s.prints;
      asks = s.asks;
      asked = s.asked;
      asked_again = s.asked_again;
      same_also = s.same_also;
      within_input = s.within_input;
      raster = raster;
      raster_is = w;
      within_raster = λ nothing same_also.
          let raster_here : asked_job s.asks texts ≡ raster = rw nothing (job_as_said s.pages texts (texts_count dpi s.pages texts each)) in
          let pages_are = one dpi job s.pages w.pages s.meaning w.meaning in
          (rw raster_here at within) (same_as_raster say_the_same w s.asks s.asked (nothing ∙ ap said_for pages_are), same_also);
      texts = texts;
      least = each;
      within_asked = within;
    }

-- a job that is as short as the limit
pub limited_job : {profile : Profile} → OnePages profile → OneAsks profile → SayTheSame profile
    → {dpi : Dpi} {also : Option Dpi} {job last : List ℕ} {limit : ℕ} → IsLimit profile dpi job limit
    → length last ≤ limit → IsBest profile dpi also job last → IsSmallerJobAt profile dpi also job last
limited_job one one_asks say_the_same m short s =
    smaller_job one one_asks say_the_same m.texts s m.meaning m.asked m.least (λ same. omega (arith, short, m.within))

-- the shorter of the best job so far and of least page texts with what is asked around them
pub raster_job : {profile : Profile} → OnePages profile → OneAsks profile → SayTheSame profile
    → {dpi : Dpi} {also : Option Dpi} {job best last asked_texts : List ℕ} {pages : List Sheet} {asks : Asks}
    (texts : List (List ℕ)) → HasPagesBy profile dpi job pages → HasAsksBy profile dpi job asks → AreLeastTexts dpi pages texts
    → asked_texts ≡ asked_job asks texts → IsShorter profile dpi also job best asked_texts last → IsBest profile dpi also job best
    → IsSmallerJobAt profile dpi also job last
raster_job one one_asks say_the_same {dpi} {also} {job} {best} {last} {asks} texts meaning asked least spelled look s =
    let here = rw spelled at look in
    smaller_job one one_asks say_the_same texts (here.keeps s) meaning asked least here.takes

-- the job itself is the best one so far: what becomes of it is one too
pub keeps_best : {profile : Profile} {dpi : Dpi} {also : Option Dpi} {job : List ℕ} (proposal : List ℕ) {E : Type 0}
    (result : Result (Option Proposal) E) → IsBest profile dpi also job job
    → IfOk result (λ shorter. IsShorter profile dpi also job job proposal (best_bytes job shorter))
    → IfOk result (λ best. IsBest profile dpi also job (best_bytes job best))
keeps_best proposal (Ok shorter) s look = look.keeps s
keeps_best proposal (Err fault) s look = tt
