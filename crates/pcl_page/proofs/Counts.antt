-- How many pages a sink counted.
use Rattle.std.proofs.Common.{◌≡◌, ◌+◌, List, [], ◌∷◌, length, ap, arith}
use Rattle.pcl_page.proofs.Names.{Dpi, Page, Sheet, Hands, Counted}

abbrev pub counts_one : Counted → Page → Counted → Type 0
counts_one old page new = new.pages ≡ old.pages + 1

pub all_counted : (dpi : Dpi) (sheets : List Sheet) (old new : Counted) → Hands counts_one dpi sheets old new
    → new.pages ≡ old.pages + length sheets
all_counted dpi [] old new h = omega (arith, ap (λ (c : Counted). c.pages) h)
all_counted dpi (sheet ∷ sheets) old new h = omega (arith, h.3, all_counted dpi sheets h.1 new h.4)
