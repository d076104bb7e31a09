-- The texts of a job's pages, listed, and its pages, if they are kept.
use Rattle.std.proofs.Common.{◌≡◌, ℕ, suc, List, [], ◌∷◌, ◌++◌, length, refl, sym, ap, subst, ◌∙◌, append_assoc, append-nil}
use Rattle.pcl_shrink.proofs.Names.{Dpi, Sheet, Hands, AreLeastTexts, PagesRead, ReadsPage, TakesText, KeepsWithin}

-- of what is taken the texts, and the pages
pub texts_taken : (dpi : Dpi) (sheets : List Sheet) (old new : PagesRead) → Hands ReadsPage dpi sheets old new
    → Hands TakesText dpi sheets old.texts new.texts
texts_taken dpi [] old new h = ap (λ (p : PagesRead). p.texts) h
texts_taken dpi (sheet ∷ sheets) old new h = (h.0, h.1.texts, h.2, h.3.text, texts_taken dpi sheets h.1 new h.4)

pub pages_kept : (dpi : Dpi) (sheets : List Sheet) (old new : PagesRead) → Hands ReadsPage dpi sheets old new
    → Hands KeepsWithin dpi sheets old.kept new.kept
pages_kept dpi [] old new h = ap (λ (p : PagesRead). p.kept) h
pages_kept dpi (sheet ∷ sheets) old new h = (h.0, h.1.kept, h.2, h.3.kept, pages_kept dpi sheets h.1 new h.4)

pub texts_listed : (dpi : Dpi) (sheets : List Sheet) (old : List (List ℕ)) {new : List (List ℕ)} → Hands TakesText dpi sheets old new
    → (texts : List (List ℕ)) × AreLeastTexts dpi sheets texts × (new ≡ old ++ texts)
texts_listed dpi [] old h = ([], tt, h ∙ sym (append-nil old))
texts_listed dpi (sheet ∷ sheets) old h =
    let rest = texts_listed dpi sheets h.1 h.4 in
    (h.3.0 ∷ rest.0, ((h.0, h.2, h.3.2), rest.1), cc (rest.2, h.3.1, append_assoc old (h.3.0 ∷ []) rest.0))

-- a list that was empty before
pub texts_from_none : (dpi : Dpi) (sheets : List Sheet) {old : List (List ℕ)} (new : List (List ℕ))
    → Hands TakesText dpi sheets old new → old ≡ [] → AreLeastTexts dpi sheets new
texts_from_none dpi sheets {old} new h e =
    let t = texts_listed dpi sheets old h in
    subst (AreLeastTexts dpi sheets) (sym (t.2 ∙ ap (λ (o : List (List ℕ)). o ++ t.0) e)) t.1

-- one for each page
pub as_many_texts : (dpi : Dpi) (sheets : List Sheet) (texts : List (List ℕ)) → AreLeastTexts dpi sheets texts
    → length texts ≡ length sheets
as_many_texts dpi [] [] least = refl
as_many_texts dpi (sheet ∷ sheets) (text ∷ texts) least = ap suc (as_many_texts dpi sheets texts least.1)
as_many_texts dpi sheets texts least = absurd least
