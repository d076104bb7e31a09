-- Pages that are handed over, one part after the other.
use Rattle.std.proofs.Common.{◌≡◌, ◌+◌, List, [], ◌∷◌, ◌++◌, length, Result, Ok, Err, sym, subst, ◌∙◌, append_assoc, append-nil, length-append, arith}
use Rattle.pcl_page.proofs.Names.{Dpi, JobFault, Said, Page, Interpreter, Sheet, Situation, Performance, Hands, HandsMore, HandsFirst, GoesOn}
use Rattle.pcl_base.specs.declared.fault.JobFault.TheVariants.{Refused, Memory}

-- pages are only added, and each with what it is asked with
abbrev pub Onward : Situation → Situation → Type 0
Onward s now = (more : List Sheet) × (now.pages ≡ s.pages ++ more) × (length now.asks.pages ≡ length s.asks.pages + length more)

pub stays_there : (s : Situation) → Onward s s
stays_there s = ([], sym (append-nil s.pages), omega arith)

pub onward_on : (s middle now : Situation) → Onward s middle → Onward middle now → Onward s now
onward_on s middle now a b = (a.0 ++ b.0, rw (b.1, a.1) (append_assoc s.pages a.0 b.0), omega (arith, a.2, b.2, length-append a.0 b.0))

module _ {S : Type 0} (takes : S → Page → S → Type 0) (dpi : Dpi) where
  pub hands_append : (front back : List Sheet) (old middle new : S) → Hands takes dpi front old middle → Hands takes dpi back middle new
      → Hands takes dpi (front ++ back) old new
  hands_append [] back old middle new h k = subst (λ (s : S). Hands takes dpi back s new) h k
  hands_append (sheet ∷ front) back old middle new h k = (h.0, h.1, h.2, h.3, hands_append front back h.1 middle new h.4 k)

  -- the pages from before, and those by which there are more
  pub hands_further : (before now : Situation) (old middle new : S) → Hands takes dpi before.pages old middle
      → HandsMore takes dpi before now middle new → Hands takes dpi now.pages old new
  hands_further before now old middle new h k = rw k.1 (hands_append before.pages k.0 old middle new h k.2)

  -- no page more
  pub no_pages : (s now : Situation) (old new : S) → now.pages ≡ s.pages → new ≡ old → HandsMore takes dpi s now old new
  no_pages s now old new e same = ([], e ∙ sym (append-nil s.pages), same)

  pub more_on : (s middle now : Situation) (old then new : S) → HandsMore takes dpi s middle old then
      → HandsMore takes dpi middle now then new → HandsMore takes dpi s now old new
  more_on s middle now old then new h k =
      (h.0 ++ k.0, rw (k.1, h.1) (append_assoc s.pages h.0 k.0), hands_append h.0 k.0 old then new h.2 k.2)

  first_on : (s middle now : Situation) (old then new : S) → HandsMore takes dpi s middle old then
      → HandsFirst takes dpi middle now then new → HandsFirst takes dpi s now old new
  first_on s middle now old then new h k = (h.0 ++ k.0, k.1, rw (k.2, h.1) (simp append_assoc), hands_append h.0 k.0 old then new h.2 k.3)

  -- the pages up to a situation are the first of those that there will be
  pub first_of_more : (s middle now : Situation) (old new : S) → HandsMore takes dpi s middle old new → Onward middle now
      → HandsFirst takes dpi s now old new
  first_of_more s middle now old new h o = (h.0, o.0, rw (o.1, h.1) (append_assoc s.pages h.0 o.0), h.2)

  pub none_of_more : (s now : Situation) (old new : S) → new ≡ old → Onward s now → HandsFirst takes dpi s now old new
  none_of_more s now old new same o = ([], o.0, o.1, same)

  -- what goes on from a situation goes on from one before it
  pub goes_from : (all : List Said) (whole : Performance) (s now : Situation) (result : Result (Unit {0}) JobFault) (last : Interpreter)
      (old then new : S) → HandsMore takes dpi s now old then → GoesOn takes dpi all whole now result last then new
      → GoesOn takes dpi all whole s result last old new
  goes_from all whole s now (Ok unit) last old then new h g = (g.0, g.1, more_on s now g.0 old then new h g.2, g.3)
  goes_from all whole s now (Err (Refused why)) last old then new h g = (g.0, more_on s now whole.situation old then new h g.1)
  goes_from all whole s now (Err Memory) last old then new h g = first_on s now whole.situation old then new h g

  -- the same on the way to the same performance
  pub goes_to : (all : List Said) (whole other : Performance) (s : Situation) (result : Result (Unit {0}) JobFault) (last : Interpreter)
      (old new : S) → whole ≡ other → GoesOn takes dpi all whole s result last old new → GoesOn takes dpi all other s result last old new
  goes_to all whole other s result last old new e g = rw e at g
