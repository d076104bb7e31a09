-- A job of least page texts that says no more than these is a least raster job.
use Rattle.std.proofs.Common.{◌≡◌, ℕ, zero, suc, ◌+◌, ◌<◌, ◌==◌, true, false, List, [], ◌∷◌, ◌++◌, length, map, get_or, None, refl, ap, append_assoc, arith}
use Rattle.pcl_env.specs.Settings.{nothing_asked}
use Rattle.pcl_shrink.proofs.Names.{nat_tests, Dpi, AskedPage, Sheet, frame_bytes, IsWrittenPage, PrintEach, is_some, later_said, said_for, plain_page, is_usual, page_start, asked_pages, asked_job, AreLeastTexts}

abbrev pub joined : List (List ℕ) → List ℕ
joined [] = []
joined (text ∷ texts) = text ++ joined texts

pub print_each : (dpi : Dpi) (sheets : List Sheet) (texts : List (List ℕ)) → AreLeastTexts dpi sheets texts
    → PrintEach IsWrittenPage dpi sheets (joined texts)
print_each dpi [] [] a = refl
print_each dpi (sheet ∷ sheets) (text ∷ texts) a = (text, joined texts, a.0, refl, print_each dpi sheets texts a.1)
print_each dpi sheets texts a = absurd a

pub texts_count : (dpi : Dpi) (sheets : List Sheet) (texts : List (List ℕ)) → AreLeastTexts dpi sheets texts
    → length texts ≡ length sheets
texts_count dpi [] [] a = refl
texts_count dpi (sheet ∷ sheets) (text ∷ texts) a = ap suc (texts_count dpi sheets texts a.1)
texts_count dpi sheets texts a = absurd a

-- a page of which no more is asked than what its text says, after another page
record AsksLittle (page : AskedPage) : Type 0 where
  said : page.said
      ≡ record nothing_asked { copies = page.said.copies; page_size = page.said.page_size; page_length = page.said.page_length }
  side : page.start.sheet_side ≡ None
  later : page.start.is_first ≡ false

-- the pages after the first
abbrev said_later : List Sheet → ℕ → AskedPage
said_later sheets k = get_or (map later_said sheets) k plain_page

little_later : (sheets : List Sheet) (k : ℕ) → AsksLittle (said_later sheets k)
little_later [] k = record { said = refl; side = refl; later = refl }
little_later (sheet ∷ sheets) zero = record { said = refl; side = refl; later = refl }
little_later (sheet ∷ sheets) (suc k) = little_later sheets k

usual_later : (sheets : List Sheet) (k : ℕ) → k < length sheets → is_usual (said_later sheets k).said ≡ true
usual_later [] k lt = absurd (omega arith)
usual_later (sheet ∷ sheets) zero lt = refl
usual_later (sheet ∷ sheets) (suc k) lt = usual_later sheets k (omega arith)

-- and they say a size
sized_later : (sheets : List Sheet) (k : ℕ) → k < length sheets → is_some (said_later sheets k).start.size ≡ true
sized_later [] k lt = absurd (omega arith)
sized_later (sheet ∷ sheets) zero lt = refl
sized_later (sheet ∷ sheets) (suc k) lt = sized_later sheets k (omega arith)

no_start : (first : Sheet) (sheets : List Sheet) (k : ℕ) → page_start (said_for (first ∷ sheets)) (suc k) ≡ []
no_start first sheets k =
    let l = little_later sheets k in
    let number : (suc k == 0) ≡ false = grind (arith, nat_tests) in
    rw (l.later, l.said, l.side, number) refl

later_texts : (first : Sheet) (sheets : List Sheet) (texts : List (List ℕ)) (k : ℕ) → k + length texts ≡ length sheets
    → asked_pages (said_for (first ∷ sheets)) (suc k) texts ≡ joined texts
later_texts first sheets [] k count = refl
later_texts first sheets (text ∷ texts) k count =
    rw (
      no_start first sheets k,
      sized_later sheets k (omega arith),
      usual_later sheets k (omega arith),
      later_texts first sheets texts (suc k) (omega arith),
    ) refl

pub job_as_said : (pages : List Sheet) (texts : List (List ℕ)) → length texts ≡ length pages
    → asked_job (said_for pages) texts ≡ frame_bytes ++ joined texts ++ frame_bytes
job_as_said [] [] count = refl
job_as_said (sheet ∷ sheets) (text ∷ texts) count =
    rw (later_texts sheet sheets texts 0 (omega arith))
    (ap (λ (bytes : List ℕ). bytes ++ frame_bytes) (append_assoc frame_bytes text (joined texts)))
job_as_said pages texts count = absurd (grind arith)
