-- What a sink wrote that was handed pages of a job.
use Rattle.std.proofs.Common.{◌≡◌, ℕ, List, [], ◌∷◌, ◌++◌, length, Bool, true, false, Option, Some, None, Result, Ok, Err, refl, sym, ap, ◌∙◌, append_assoc, append-nil, ◌↔◌, inl, inr}
use Rattle.pcl_preview.proofs.Names.{accepted_pages, has_pages, Appends, Appends-trans, Appends-kept, Keeps, Dpi, Profile, Refusal, JobFault, Page, Sheet, Scale, Greymap, HasPagesBy, AllShow, Hands, DeliversBy, IsPerformed, IsRefusalBy, performance, pages_of, Fault, WriteFault, PageChoice, AppendsFront, AreImagesIn, AreThere, LacksPage, images_in, Streaming, StreamsNext, IsWrittenUnless, HasChosenPages, ArePagesFound, AreImagesWritten, IsPagesStreamed, WritesFront, flags_of, later, is_all, left_among, IsMet, Memory, NoSuchPage, Refused, Keeps-refl}
use Rattle.pcl_base.specs.declared.fault.JobFault.TheVariants as job
use Rattle.pcl_preview.proofs.Showings.{left_by, AreLeft, next_and_later, none_left, there_later, met_of_none, chosen_left, there_left}

-- ---- before anything is written

-- what a sink found that took pages
pub record HasAwaited (dpi : Dpi) (sheets : List Sheet) (old new : Option (List Bool)) : Type 0 where
  pub pages : List Page
  pub show : AllShow dpi pages sheets
  pub met : AreLeft old (length sheets) ↔ IsMet new

pub has_awaited : {S : Type 0} (left : S → Option (List Bool)) (dpi : Dpi) (sheets : List Sheet) (old new : S)
    → Hands (λ old page new. left new ≡ later (left old)) dpi sheets old new → HasAwaited dpi sheets (left old) (left new)
has_awaited left dpi [] old new h = rw h (record { pages = []; show = tt; met = met_of_none (left old) })
has_awaited left dpi (sheet ∷ sheets) old new h =
    let rest = has_awaited left dpi sheets h.1 new h.4 in
    let there = there_later (left old) (length sheets) in
    let met = rw h.3 at rest.met in
    record {
      pages = h.0 ∷ rest.pages;
      show = (h.2, rest.show);
      met = (λ all. met.0 (there.0 all), λ is. there.1 (met.1 is));
    }

pub all_found : {profile : Profile} {dpi : Dpi} {job : List ℕ} {sheets : List Sheet} {old new : Option (List Bool)} (choice : PageChoice)
    → HasPagesBy profile dpi job sheets → HasAwaited dpi sheets old new → old ≡ flags_of choice → IsMet new
    → HasChosenPages profile dpi job choice
all_found {sheets = sheets} choice meaning found left_is met = record {
  sheets = sheets;
  meaning = meaning;
  there = (there_left choice (length sheets)).0 (rw left_is at (found.met.1 met));
  pages = found.pages;
  show = found.show;
}

pub one_missing : {profile : Profile} {dpi : Dpi} {job : List ℕ} {sheets : List Sheet} {old new : Option (List Bool)} (choice : PageChoice)
    → HasPagesBy profile dpi job sheets → HasAwaited dpi sheets old new → old ≡ flags_of choice → (IsMet new → ⊥)
    → LacksPage profile dpi job choice
one_missing {sheets = sheets} choice meaning found left_is unmet =
    (sheets, meaning, λ there. unmet (found.met.0 (rw left_is ((there_left choice (length sheets)).1 there))))

-- ---- writes in turn

none_appended : (held : Option (List ℕ)) → Appends held held []
none_appended None = tt
none_appended (Some bytes) = sym (append-nil bytes)

pub none_written : (has_failed : Bool) (held : Option (List ℕ)) → IsWrittenUnless has_failed has_failed held held []
none_written true held = (refl, refl)
none_written false held = none_appended held

both_written : (had mid has : Bool) (old middle new : Option (List ℕ)) (first second : List ℕ)
    → IsWrittenUnless had mid old middle first → IsWrittenUnless mid has middle new second
    → IsWrittenUnless had has old new (first ++ second)
both_written true mid has old middle new first second a b =
    let stays : (has ≡ true) × (new ≡ middle) = rw a.0 at b in (stays.0, stays.1 ∙ a.1)
both_written false false false old middle new first second a b = Appends-trans old middle new first second a b
both_written false false true old middle new first second a b =
    (first ++ b.0, b.1, rw b.2 (sym (append_assoc first b.0 b.1)), Appends-trans old middle new first b.0 a b.3)
both_written false true false old middle new first second a b = absurd (let never : false ≡ true = b.0 in cc)
both_written false true true old middle new first second a b =
    (a.0, a.1 ++ second, rw a.2 (append_assoc a.0 a.1 second), rw b.1 a.3)

-- a prefix of these bytes and more
front_written : (has_failed : Bool) (old new : Option (List ℕ)) (bytes more : List ℕ) → IsWrittenUnless false has_failed old new bytes
    → AppendsFront old new (bytes ++ more)
front_written true old new bytes more w = (w.0, w.1 ++ more, rw w.2 (append_assoc w.0 w.1 more), w.3)
front_written false old new bytes more w = (bytes, more, refl, w)

-- ---- pages in turn

-- what a sink wrote of pages that it took
pub record HasStreamed (dpi : Dpi) (sheets : List Sheet) (old new : Streaming) : Type 0 where
  pub pages : List Page
  pub show : AllShow dpi pages sheets
  pub name : new.name ≡ old.name
  pub written : IsWrittenUnless old.has_failed new.has_failed old.held new.held (images_in (Greymap old.scale) (left_by old.left pages))

pub has_streamed : {S : Type 0} (state : S → Streaming) (dpi : Dpi) (sheets : List Sheet) (old new : S)
    → Hands (λ old page new. StreamsNext (state old) page (state new)) dpi sheets old new → HasStreamed dpi sheets (state old) (state new)
has_streamed state dpi [] old new h = rw h (record {
  pages = [];
  show = tt;
  name = refl;
  written = rw (none_left (Greymap (state old).scale) (state old).left) (none_written (state old).has_failed (state old).held);
})
has_streamed state dpi (sheet ∷ sheets) old new h =
    let rest = has_streamed state dpi sheets h.1 new h.4 in
    let next = h.3 in
    record {
      pages = h.0 ∷ rest.pages;
      show = (h.2, rest.show);
      name = rest.name ∙ next.name;
      written = rw (next_and_later (Greymap (state old).scale) (state old).left h.0 rest.pages)
          (both_written (state old).has_failed (state h.1).has_failed (state new).has_failed
          (state old).held (state h.1).held (state new).held _ _ next.written (rw (next.left, next.scale) at rest.written));
    }

-- ---- the first pages of a job

rest_shows : (dpi : Dpi) (pages : List Page) (front rest : List Sheet) → AllShow dpi pages (front ++ rest)
    → (others : List Page) × AllShow dpi others rest
rest_shows dpi pages [] rest show = (pages, show)
rest_shows dpi [] (sheet ∷ front) rest show = absurd show
rest_shows dpi (page ∷ pages) (sheet ∷ front) rest show = rest_shows dpi pages front rest show.1

both_show : (dpi : Dpi) (pages others : List Page) (front rest : List Sheet) → AllShow dpi pages front → AllShow dpi others rest
    → AllShow dpi (pages ++ others) (front ++ rest)
both_show dpi [] others [] rest a b = b
both_show dpi (page ∷ pages) others (sheet ∷ front) rest a b = (a.0, both_show dpi pages others front rest a.1 b)
both_show dpi pages others front rest a b = absurd a

-- the images of pages and of others after them
images_of_both : (scale : Scale) (left : Option (List Bool)) (pages others : List Page)
    → (more : List ℕ)
    × (images_in (Greymap scale) (left_by left (pages ++ others)) ≡ images_in (Greymap scale) (left_by left pages) ++ more)
images_of_both scale left [] others = (images_in (Greymap scale) (left_by left others), rw (none_left (Greymap scale) left) refl)
images_of_both scale left (page ∷ pages) others =
    let rest = images_of_both scale (later left) pages others in (
      rest.0,
      rw (next_and_later (Greymap scale) left page (pages ++ others), next_and_later (Greymap scale) left page pages, rest.1)
          (sym (append_assoc _ _ rest.0)),
    )

-- by a profile a job has one list of pages at most, and is not both accepted and refused
abbrev pub HasOneMeaning : Profile → Dpi → List ℕ → Type 0
HasOneMeaning profile dpi job =
    ((pages others : List Sheet) → HasPagesBy profile dpi job pages → HasPagesBy profile dpi job others → pages ≡ others)
    × ((pages : List Sheet) (refusal : Refusal) → HasPagesBy profile dpi job pages → IsRefusalBy profile dpi job refusal → ⊥)

-- the pages of an accepted job are those that its performing leads to
pages_led_to : {S : Type 0} {takes : S → Page → S → Type 0} {profile : Profile} {dpi : Dpi} {job : List ℕ}
    {result : Result (Unit {0}) JobFault} {old new : S} (sheets : List Sheet) (p : IsPerformed takes profile dpi job result old new)
    (why : Option Refusal) → HasOneMeaning profile dpi job → HasPagesBy profile dpi job sheets
    → (performance profile dpi (length job) p.commands).refusal ≡ why
    → sheets ≡ pages_of (performance profile dpi (length job) p.commands)
pages_led_to sheets p None one meaning is =
    one.0 sheets _ meaning (record { commands = p.commands; reading = p.reading; accepted = is; ejected = refl })
pages_led_to sheets p (Some why) one meaning is =
    absurd (one.1 sheets why meaning (inr (record { commands = p.commands; reading = p.reading; refused = is })))

-- the performing of an accepted job can only stop where memory runs out, and the sink has then taken the first pages
pub record HasStopped (dpi : Dpi) (sheets : List Sheet) (fault : JobFault) (old new : Streaming) : Type 0 where
  pub memory : fault ≡ job.Memory
  pub front : List Sheet
  pub rest : List Sheet
  pub all : sheets ≡ front ++ rest
  pub streamed : HasStreamed dpi front old new

pub has_stopped : {S : Type 0} (state : S → Streaming) {profile : Profile} {dpi : Dpi} {job : List ℕ} (sheets : List Sheet)
    (fault : JobFault) (old new : S) → HasOneMeaning profile dpi job → HasPagesBy profile dpi job sheets
    → DeliversBy (λ old page new. StreamsNext (state old) page (state new)) profile dpi job (Err fault) old new
    → HasStopped dpi sheets fault (state old) (state new)
has_stopped state sheets (job.Refused refusal) old new one meaning delivers =
    absurd (one.1 sheets refusal meaning (elim delivers [
      | inl fault ↦ inl fault.0
      | inr p ↦ inr (record { commands = p.commands; reading = p.reading; refused = p.handed.0 })
    ]))
has_stopped state {dpi = dpi} sheets job.Memory old new one meaning delivers =
    elim delivers [
      | inl same ↦ record { memory = refl; front = []; rest = sheets; all = refl; streamed = has_streamed state dpi [] old new same }
      | inr p ↦
          record {
            memory = refl;
            front = p.handed.0;
            rest = p.handed.1;
            all = pages_led_to sheets p _ one meaning refl ∙ p.handed.2;
            streamed = has_streamed state dpi p.handed.0 old new p.handed.3;
          }
    ]

-- ---- previews

-- what is left at first
pub begun : (choice : PageChoice) (asks_all : Bool) (flags : List Bool) → asks_all ≡ is_all choice
    → left_among (is_all choice) flags ≡ flags_of choice → left_among asks_all flags ≡ flags_of choice
begun choice asks_all flags same left_is = rw same left_is

are_images : {profile : Profile} {dpi : Dpi} {job : List ℕ} {scale : Scale} {left : Option (List Bool)} (choice : PageChoice)
    (sheets : List Sheet) (pages : List Page) → HasPagesBy profile dpi job sheets → AreThere choice (length sheets)
    → AllShow dpi pages sheets → left ≡ flags_of choice
    → AreImagesIn (Greymap scale) profile dpi job choice (images_in (Greymap scale) (left_by left pages))
are_images {scale = scale} choice sheets pages meaning there show left_is = record {
  sheets = sheets;
  meaning = meaning;
  there = there;
  pages = pages;
  show = show;
  images = ap (λ (left : Option (List Bool)). images_in (Greymap scale) (left_by left pages)) left_is
      ∙ ap (images_in (Greymap scale)) (chosen_left choice pages);
}

-- a sink that has taken the first pages, or all, wrote a prefix of the images
pub front_streamed : {profile : Profile} {dpi : Dpi} {job : List ℕ} (choice : PageChoice) (front rest : List Sheet) (old new : Streaming)
    (last : Option (List ℕ)) (chosen : HasChosenPages profile dpi job choice) → chosen.sheets ≡ front ++ rest
    → HasStreamed dpi front old new → old.left ≡ flags_of choice → old.has_failed ≡ false → last ≡ new.held
    → WritesFront (Greymap old.scale) profile dpi job choice old.held last
front_streamed {dpi = dpi} choice front rest old new last chosen all streamed left_is unfailed last_is =
    let others = rest_shows dpi chosen.pages front rest (rw all at chosen.show) in
    let images = images_of_both old.scale old.left streamed.pages others.0 in (
      images_in (Greymap old.scale) (left_by old.left (streamed.pages ++ others.0)),
      are_images choice (front ++ rest) (streamed.pages ++ others.0) (rw all at chosen.meaning) (rw all at chosen.there)
          (both_show dpi streamed.pages others.0 front rest streamed.show others.1) left_is,
      rw (images.1, last_is) (front_written new.has_failed old.held new.held _ images.0 (rw unfailed at streamed.written)),
    )

-- it took all pages
pub all_taken : {S : Type 0} (state : S → Streaming) {profile : Profile} {dpi : Dpi} {job : List ℕ} {choice : PageChoice}
    {done : Unit {0}} {old new : S} → HasOneMeaning profile dpi job → (chosen : HasChosenPages profile dpi job choice)
    → IsPerformed (λ old page new. StreamsNext (state old) page (state new)) profile dpi job (Ok done) old new
    → HasStreamed dpi chosen.sheets (state old) (state new)
all_taken state {dpi = dpi} {old = old} {new = new} one chosen p =
    rw (one.0 chosen.sheets (accepted_pages p) chosen.meaning (has_pages p)) (has_streamed state dpi (accepted_pages p) old new p.handed.1)

-- no write failed, and the writer was flushed
pub all_flushed : {profile : Profile} {dpi : Dpi} {job : List ℕ} (choice : PageChoice) (old new : Streaming)
    (flushed last : Option (List ℕ)) (chosen : HasChosenPages profile dpi job choice) → HasStreamed dpi chosen.sheets old new → old.left ≡ flags_of choice
    → old.has_failed ≡ false → new.has_failed ≡ false → Keeps new.held flushed → last ≡ flushed
    → (bytes : List ℕ) × AreImagesIn (Greymap old.scale) profile dpi job choice bytes × Appends old.held last bytes
all_flushed choice old new flushed last chosen streamed left_is unfailed still kept last_is = (
  images_in (Greymap old.scale) (left_by old.left streamed.pages),
  are_images choice chosen.sheets streamed.pages chosen.meaning chosen.there streamed.show left_is,
  rw last_is (Appends-kept old.held new.held flushed _ (rw (unfailed, still) at streamed.written) kept),
)

-- no write failed, but the writer wasn't flushed
pub all_unflushed : {profile : Profile} {dpi : Dpi} {job : List ℕ} (choice : PageChoice) (old new : Streaming)
    (flushed last : Option (List ℕ)) (chosen : HasChosenPages profile dpi job choice) → HasStreamed dpi chosen.sheets old new → old.left ≡ flags_of choice
    → old.has_failed ≡ false → new.has_failed ≡ false → Keeps new.held flushed → last ≡ flushed
    → WritesFront (Greymap old.scale) profile dpi job choice old.held last
all_unflushed choice old new flushed last chosen streamed left_is unfailed still kept last_is =
    let all = all_flushed choice old new flushed last chosen streamed left_is unfailed still kept last_is in
    (all.0, all.1, (all.0, [], sym (append-nil all.0), all.2))

pub none_streamed : (scale : Scale) (profile : Profile) (dpi : Dpi) (job : List ℕ) (choice : PageChoice) (held : Option (List ℕ))
    (fault : Fault) → ArePagesFound profile dpi job choice (Err fault)
    → IsPagesStreamed (Greymap scale) profile dpi job choice held held (Err fault)
none_streamed scale profile dpi job choice held (Refused refusal) n = (n, Keeps-refl held)
none_streamed scale profile dpi job choice held NoSuchPage n = (n, Keeps-refl held)
none_streamed scale profile dpi job choice held Memory n = inl (Keeps-refl held)
none_streamed scale profile dpi job choice held fault n = absurd n

pub streamed_on : (scale : Scale) (profile : Profile) (dpi : Dpi) (job : List ℕ) (choice : PageChoice) (old new : Option (List ℕ))
    (result : Result (Unit {0}) Fault) → AreImagesWritten (Greymap scale) profile dpi job choice old new result
    → IsPagesStreamed (Greymap scale) profile dpi job choice old new result
streamed_on scale profile dpi job choice old new (Ok done) w = w
streamed_on scale profile dpi job choice old new (Err WriteFault) w = w
streamed_on scale profile dpi job choice old new (Err Memory) w = inr w
streamed_on scale profile dpi job choice old new (Err fault) w = absurd w
