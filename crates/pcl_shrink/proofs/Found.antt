-- A job that is kept while it is read.
use Rattle.std.proofs.Common.{◌≡◌, ℕ, List, Option, Some, None, IfSome, subst, sym}
use Rattle.std.specs.Option.{option_map}
use Rattle.pcl_shrink.proofs.Names.{Dpi, Profile, Sheet, HasPagesBy, HasAsksBy, asks_of, KeptJob, IsKeptIfAny, KeepAllIfAny, kept_pages}
use Rattle.pcl_page.specs.declared.asks.Asks.{Asks}
use Rattle.pcl_same.specs.declared.keeping.PageKeeper.{PageKeeper}

pub kept_while_read : {profile : Profile} {dpi : Dpi} {job : List ℕ} (keeper : PageKeeper) (asks : Asks) (kept : Option KeptJob)
    → HasAsksBy profile dpi job (asks_of asks)
    → ((pages : List Sheet) × HasPagesBy profile dpi job pages × KeepAllIfAny dpi pages (kept_pages keeper))
    → option_map (λ (kept : KeptJob). kept.pages.items) kept ≡ kept_pages keeper → IfSome kept (λ kept. kept.asks ≡ asks)
    → IsKeptIfAny profile dpi job kept
kept_while_read keeper asks None asked found same asks_same = tt
kept_while_read {dpi = dpi} keeper asks (Some kept) asked found same asks_same = record {
  pages = found.0;
  meaning = found.1;
  keeps = subst (KeepAllIfAny dpi found.0) (sym same) found.2;
  asked = rw asks_same asked;
}
