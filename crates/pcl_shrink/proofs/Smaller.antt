-- Smaller jobs with the same pages, which ask for the same.
use Rattle.std.proofs.Common.{◌≡◌, ℕ, ◌<◌, List, [], ◌∷◌, length, Option, Some, None, refl, sym, subst, arith}
use Rattle.pcl_shrink.proofs.Names.{Profile, Dpi, Asks, asks_of, Sheet, HasPagesBy, HasAsksBy, AllAlike, Same, KeptJob, KeptJobs, AreKept, IsKeptAlso, IsAcceptedAlso, IsAskedComparisonBy, IsSameAlso, IsSameAt, of_job, asks_among, performance, said_for, IsJobOfBy, PrintsAlike, IsSmallerJob, IsBest, IsLimit}

-- a job has one list of pages, and asks for one thing
abbrev pub OnePages : Profile → Type 0
OnePages profile =
    (dpi : Dpi) (job : List ℕ) (pages others : List Sheet) → HasPagesBy profile dpi job pages → HasPagesBy profile dpi job others
    → pages ≡ others

abbrev pub OneAsks : Profile → Type 0
OneAsks profile =
    (dpi : Dpi) (job : List ℕ) (asks others : Asks) → HasAsksBy profile dpi job asks → HasAsksBy profile dpi job others → asks ≡ others

-- a least raster job asks for what its page texts say
abbrev pub SayTheSame : Profile → Type 0
SayTheSame profile =
    (dpi : Dpi) (job output : List ℕ) → (w : IsJobOfBy profile dpi job output) → HasAsksBy profile dpi output (said_for w.pages)

-- pages are like themselves
same_pages : (dpi : Dpi) (pages : List Sheet) → AllAlike dpi pages pages
same_pages dpi [] = tt
same_pages dpi (sheet ∷ sheets) = (record { size = refl; copies = refl; dots = λ x y across down. refl }, same_pages dpi sheets)

-- an accepted job is the same as itself
same_as_itself : {profile : Profile} {dpi : Dpi} {job : List ℕ} {pages : List Sheet} {asks : Asks} → HasPagesBy profile dpi job pages
    → HasAsksBy profile dpi job asks
    → IsAskedComparisonBy profile dpi job job Same
same_as_itself {profile} {dpi} {job} {pages} {asks} meaning asked = record {
  pages = pages;
  meaning = meaning;
  asks = asks;
  asked = asked;
  others = pages;
  other_meaning = meaning;
  other_asks = asks;
  other_asked = asked;
  compare = same_pages dpi pages;
  compare_asks = refl;
}

-- a job that is accepted asks for something
accepted_asks : {profile : Profile} {dpi : Dpi} {job : List ℕ} {pages : List Sheet} → (h : HasPagesBy profile dpi job pages)
    → HasAsksBy profile dpi job (of_job job (asks_among (performance profile dpi (length job) h.commands)))
accepted_asks h = record { commands = h.commands; reading = h.reading; accepted = h.accepted; asked = refl }

kept_also : (profile : Profile) (also : Option Dpi) (job : List ℕ) (kept : Option KeptJob) → IsKeptAlso profile also job kept
    → IsSameAlso profile also job job
kept_also profile None job None k = tt
kept_also profile (Some dpi) job (Some kept) k = same_as_itself k.meaning k.asked
kept_also profile also job kept k = absurd (grind arith)

accepted_also : (profile : Profile) (also : Option Dpi) (job : List ℕ) → IsAcceptedAlso profile also job → IsSameAlso profile also job job
accepted_also profile None job k = tt
accepted_also profile (Some dpi) job k = same_as_itself k.1 (accepted_asks k.1)

-- the job itself
pub input_best : {profile : Profile} {dpi : Dpi} {also : Option Dpi} {job : List ℕ} (kept : KeptJobs) → AreKept profile dpi also job kept
    → IsBest profile dpi also job job
input_best {profile} {dpi} {also} {job} kept k = record {
  pages = k.0.pages;
  meaning = k.0.meaning;
  prints = record { again = k.0.pages; accepted = k.0.meaning; alike = same_pages dpi k.0.pages };
  asks = asks_of kept.first.asks;
  asked = k.0.asked;
  asked_again = k.0.asked;
  same_also = kept_also profile also job kept.also k.1;
  within_input = omega arith;
}

pub limit_best : {profile : Profile} {dpi : Dpi} {also : Option Dpi} {job : List ℕ} {limit : ℕ} → IsAcceptedAlso profile also job
    → IsLimit profile dpi job limit
    → IsBest profile dpi also job job
limit_best {profile} {dpi} {also} {job} accepted k = record {
  pages = k.pages;
  meaning = k.meaning;
  prints = record { again = k.pages; accepted = k.meaning; alike = same_pages dpi k.pages };
  asks = k.asks;
  asked = k.asked;
  asked_again = k.asked;
  same_also = accepted_also profile also job accepted;
  within_input = omega arith;
}

-- a least raster job is the same as a job that asks for no more
pub same_as_raster : {profile : Profile} → SayTheSame profile
    → {dpi : Dpi} {job raster : List ℕ} (w : IsJobOfBy profile dpi job raster) (asks : Asks) → HasAsksBy profile dpi job asks
    → asks ≡ said_for w.pages → IsAskedComparisonBy profile dpi job raster Same
same_as_raster {profile} say_the_same {dpi} {job} {raster} w asks asked nothing = record {
  pages = w.pages;
  meaning = w.meaning;
  asks = asks;
  asked = asked;
  others = w.again;
  other_meaning = w.accepted;
  other_asks = asks;
  other_asked = subst (HasAsksBy profile dpi raster) (sym nothing) (say_the_same dpi job raster w);
  compare = w.alike;
  compare_asks = refl;
}

-- a proposal that was compared
pub proposal_smaller : {profile : Profile} → OnePages profile → OneAsks profile
    → {dpi : Dpi} {also : Option Dpi} {job best proposal : List ℕ} → IsBest profile dpi also job best
    → IsSameAt profile dpi also job proposal → length proposal < length best → IsBest profile dpi also job proposal
proposal_smaller {profile} one one_asks {dpi} {also} {job} {best} {proposal} s (looked, same_also) short = record {
  pages = s.pages;
  meaning = s.meaning;
  prints = record {
    again = looked.others;
    accepted = looked.other_meaning;
    alike = rw (one dpi job looked.pages s.pages looked.meaning s.meaning) at looked.compare;
  };
  asks = looked.asks;
  asked = looked.asked;
  asked_again = subst (HasAsksBy profile dpi proposal) (sym looked.compare_asks) looked.other_asked;
  same_also = same_also;
  within_input = omega (arith, s.within_input, short);
}

pub prints_itself : {profile : Profile} {dpi : Dpi} {job : List ℕ} {pages : List Sheet} → HasPagesBy profile dpi job pages
    → PrintsAlike profile dpi pages job
prints_itself {profile} {dpi} {job} {pages} meaning = record { again = pages; accepted = meaning; alike = same_pages dpi pages }

pub prints_pages : {profile : Profile} → OnePages profile → (dpi : Dpi) (job output : List ℕ) (pages : List Sheet)
    → IsSmallerJob profile dpi job output → HasPagesBy profile dpi job pages
    → PrintsAlike profile dpi pages output
prints_pages one dpi job output pages s meaning = rw (one dpi job s.pages pages s.meaning meaning) at s.prints

pub asks_again : {profile : Profile} → OneAsks profile → (dpi : Dpi) (job output : List ℕ) (asks : Asks)
    → IsSmallerJob profile dpi job output → HasAsksBy profile dpi job asks
    → HasAsksBy profile dpi output asks
asks_again {profile} one dpi job output asks s asked =
    subst (HasAsksBy profile dpi output) (one dpi job s.asks asks s.asked asked) s.asked_again
