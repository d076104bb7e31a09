-- What is written for readers.
use Rattle.std.proofs.Common.{◌≡◌, ◌≤◌, inl, inr, ℕ, List, length, Option, Some, None, Result, Ok, Err, IfOk, refl, sym, subst, arith}
use Rattle.pcl_printers.specs.declared.doubts.Readers.TheVariants as reader
use Rattle.pcl_shrink.proofs.Names.{Profile, Stated, Drivers, Dpi, JobFault, Refused, Memory, HasPagesBy, HasAsksBy, IsRefusalBy, Asks, Sheet, IsAccepted, Doubt, Readers, Shrunk, PrintsAlike, IsShrunk, IsShrunkAt, IsShrunkFor, IsShrunkTo, IsLeft, IsWrittenFor, IsWrittenBy, IsWrittenEverywhere, IsWrittenEverywhereBy, IsShrunkEverywhere, IsShrunkEverywhereBy, CountsAt, IsReadBy, IsReadEverywhere, Refusal}
use Rattle.pcl_base.specs.declared.dpi.Dpi.TheVariants.{Dpi300, Dpi600}
use Rattle.pcl_shrink.proofs.Smaller.{OnePages, OneAsks, prints_pages, asks_again, prints_itself}

module _ (profile : Profile) (dpi : Dpi) (also : Option Dpi) (job : List ℕ) where
  pub accepted_for : (shrunk : Shrunk) (readers : Readers) (doubt : Option Doubt) → IsShrunkFor readers doubt profile dpi also job shrunk
      → IsAccepted profile dpi job
  accepted_for shrunk reader.Printers (Some doubt) s = (s.pages, s.meaning)
  accepted_for shrunk reader.Printers None s = (s.smaller.pages, s.smaller.meaning)
  accepted_for shrunk reader.Profile doubt s = (s.smaller.pages, s.smaller.meaning)

  -- ---- by what is heeded

  -- where nothing is doubted a job is shrunk for all readers
  sure_for : (shrunk : Shrunk) (readers : Readers) (doubt : Option Doubt) → doubt ≡ None → IsShrunkTo profile dpi also job shrunk
      → IsShrunkFor readers doubt profile dpi also job shrunk
  sure_for shrunk reader.Profile doubt none s = s
  sure_for shrunk reader.Printers None none s = s
  sure_for shrunk reader.Printers (Some doubt) none s = absurd cc

  pub sure_at : (readers : Readers) (result : Result Shrunk JobFault) → IsShrunkAt reader.Profile profile dpi also job result
      → IfOk result (λ shrunk. shrunk.doubt ≡ None) → IsShrunkAt readers profile dpi also job result
  sure_at readers (Ok shrunk) s none = sure_for shrunk readers shrunk.doubt none s
  sure_at readers (Err (Refused refusal)) s none = s
  sure_at readers (Err Memory) s none = tt

  -- what is heeded is heeded for printers
  pub left_for : (shrunk : Shrunk) {why : Doubt} (readers : Readers) (heeded doubt : Option Doubt)
      → (readers ≡ reader.Profile → heeded ≡ None) → heeded ≡ Some why → doubt ≡ Some why → IsLeft profile dpi job shrunk
      → IsShrunkFor readers doubt profile dpi also job shrunk
  left_for shrunk reader.Profile heeded doubt heeds is there s = let none = heeds refl in absurd cc
  left_for shrunk reader.Printers heeded (Some doubt) heeds is there s = s
  left_for shrunk reader.Printers heeded None heeds is there s = absurd cc

  -- ---- what is written

  pub written_there_by : (shrunk : Shrunk) (readers : Readers) (doubt : Option Doubt) → CountsAt profile job dpi also
      → IsShrunkFor readers doubt profile dpi also job shrunk → IsWrittenEverywhereBy readers profile job shrunk.job.items
  written_there_by shrunk reader.Printers (Some doubt) counts s = inr (dpi, ((s.pages, s.meaning), s.same))
  written_there_by shrunk reader.Printers None counts s = inl (dpi, also, counts, s.smaller)
  written_there_by shrunk reader.Profile doubt counts s = (dpi, also, counts, s.smaller)

module _ (profile : Profile) (dpi : Dpi) (job : List ℕ) (shrunk : Shrunk) where
  pub written_here_by : (readers : Readers) (doubt : Option Doubt) → IsShrunkFor readers doubt profile dpi None job shrunk
      → IsWrittenBy readers profile dpi job shrunk.job.items
  written_here_by reader.Printers (Some doubt) s = inr ((s.pages, s.meaning), s.same)
  written_here_by reader.Printers None s = inl s.smaller
  written_here_by reader.Profile doubt s = s.smaller

  -- ---- what is promised of it

  pub prints_for : OnePages profile → (pages : List Sheet) (readers : Readers) (doubt : Option Doubt)
      → IsShrunkFor readers doubt profile dpi None job shrunk
      → HasPagesBy profile dpi job pages → PrintsAlike profile dpi pages shrunk.job.items
  prints_for one pages reader.Printers (Some doubt) s meaning = subst (PrintsAlike profile dpi pages) (sym s.same) (prints_itself meaning)
  prints_for one pages reader.Printers None s meaning = prints_pages one dpi job shrunk.job.items pages s.smaller meaning
  prints_for one pages reader.Profile doubt s meaning = prints_pages one dpi job shrunk.job.items pages s.smaller meaning

  pub asks_for : OneAsks profile → (asks : Asks) (readers : Readers) (doubt : Option Doubt)
      → IsShrunkFor readers doubt profile dpi None job shrunk
      → HasAsksBy profile dpi job asks → HasAsksBy profile dpi shrunk.job.items asks
  asks_for one asks reader.Printers (Some doubt) s asked = subst (λ (it : List ℕ). HasAsksBy profile dpi it asks) (sym s.same) asked
  asks_for one asks reader.Printers None s asked = asks_again one dpi job shrunk.job.items asks s.smaller asked
  asks_for one asks reader.Profile doubt s asked = asks_again one dpi job shrunk.job.items asks s.smaller asked

  pub within_for : (readers : Readers) (doubt : Option Doubt) → IsShrunkFor readers doubt profile dpi None job shrunk
      → length shrunk.job.items ≤ length job
  within_for reader.Printers (Some doubt) s = subst (λ (it : List ℕ). length it ≤ length job) (sym s.same) (omega arith)
  within_for reader.Printers None s = s.smaller.within_input
  within_for reader.Profile doubt s = s.smaller.within_input

-- ---- by the profile by which a job is read

pub written_for : (widest : Profile) (dpi : Dpi) (job : List ℕ) (shrunk : Shrunk) (readers : Readers)
    → IsShrunk readers widest dpi job (Ok shrunk) → IsWrittenFor readers widest dpi job shrunk.job.items
written_for widest dpi job shrunk readers s = (s.0, s.1, written_here_by s.0 dpi job shrunk readers shrunk.doubt s.2)

pub written_everywhere : (widest : Profile) (job : List ℕ) (shrunk : Shrunk) (readers : Readers)
    → IsShrunkEverywhere readers widest job (Ok shrunk) → IsWrittenEverywhere readers widest job shrunk.job.items
written_everywhere widest job shrunk readers s =
    (s.0, s.1, written_there_by s.0 s.2.0 s.2.1 job shrunk readers shrunk.doubt s.2.2 s.2.3)

-- a job is read by one profile
abbrev pub StatedApart : Type 0
StatedApart = (dpi : Dpi) (job : List ℕ) (pages : List Sheet) (refusal : Refusal) → HasPagesBy Stated dpi job pages
    → IsRefusalBy Stated dpi job refusal → ⊥

pub one_profile : StatedApart → (dpi : Dpi) (job : List ℕ) (widest profile other : Profile) → IsReadBy widest profile dpi job
    → IsReadBy widest other dpi job → profile ≡ other
one_profile apart dpi job widest Stated Stated one other = refl
one_profile apart dpi job widest Drivers Drivers one other = refl
one_profile apart dpi job Drivers Stated Drivers one other = absurd (apart dpi job one.0 other.0 one.1 other.1)
one_profile apart dpi job Drivers Drivers Stated one other = absurd (apart dpi job other.0 one.0 other.1 one.1)
one_profile apart dpi job Stated Stated Drivers one other = absurd other
one_profile apart dpi job Stated Drivers Stated one other = absurd one

module _ (apart : StatedApart) (readers : Readers) (widest profile : Profile) (dpi : Dpi) (job : List ℕ) (shrunk : Shrunk)
    (s : IsShrunk readers widest dpi job (Ok shrunk)) where
  -- it was shrunk by the profile by which it is read
  shrunk_by : IsReadBy widest profile dpi job → IsShrunkFor readers shrunk.doubt profile dpi None job shrunk
  shrunk_by read =
      subst (λ (it : Profile). IsShrunkFor readers shrunk.doubt it dpi None job shrunk)
      (one_profile apart dpi job widest s.0 profile s.1 read) s.2

  pub prints_again : OnePages profile → (pages : List Sheet) → IsReadBy widest profile dpi job → HasPagesBy profile dpi job pages
      → PrintsAlike profile dpi pages shrunk.job.items
  prints_again one pages read meaning = prints_for profile dpi job shrunk one pages readers shrunk.doubt (shrunk_by read) meaning

  pub asks_the_same : OneAsks profile → (asks : Asks) → IsReadBy widest profile dpi job → HasAsksBy profile dpi job asks
      → HasAsksBy profile dpi shrunk.job.items asks
  asks_the_same one asks read asked = asks_for profile dpi job shrunk one asks readers shrunk.doubt (shrunk_by read) asked

-- by the stated profile alone
pub shrunk_by_stated : (dpi : Dpi) (job : List ℕ) (readers : Readers) (result : Result Shrunk JobFault)
    → IsShrunkAt readers Stated dpi None job result → IsShrunk readers Stated dpi job result
shrunk_by_stated dpi job readers (Ok shrunk) s = (Stated, tt, s)
shrunk_by_stated dpi job readers (Err (Refused refusal)) s = (tt, s)
shrunk_by_stated dpi job readers (Err Memory) s = tt

pub everywhere_by_stated : (job : List ℕ) (readers : Readers) (result : Result Shrunk JobFault)
    → IsShrunkEverywhereBy readers Stated job result → IsShrunkEverywhere readers Stated job result
everywhere_by_stated job readers (Ok shrunk) s = (Stated, tt, s)
everywhere_by_stated job readers (Err (Refused refusal)) s = (tt, s)
everywhere_by_stated job readers (Err Memory) s = tt

-- a job that counts somewhere by the stated profile is read by that
pub counted_read : {job : List ℕ} (dpi : Dpi) (also : Option Dpi) → CountsAt Stated job dpi also → IsReadEverywhere Drivers Stated job
counted_read Dpi300 (Some Dpi600) counts = inl counts.0
counted_read Dpi300 None counts = inl counts.0
counted_read Dpi600 None counts = inr counts.1
counted_read dpi also counts = absurd (grind arith)
