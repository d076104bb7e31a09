-- Comparisons with what is asked, and without.
use Rattle.pcl_command.proofs.Names.{List, ℕ, Bool, true, false, Profile, Dpi, AskedComparison, Same, Pages, Asks, IsComparison, IsAskedComparison, of_pages, IsComparisonFor}

-- what holds with what is asked holds of the pages
pub pages_alone : (widest : Profile) (dpi : Dpi) (first second : List ℕ) (comparison : AskedComparison)
    → IsAskedComparison widest dpi first second comparison → IsComparison widest dpi first second (of_pages comparison)
pages_alone widest dpi first second comparison (profile, read, a) = (
  profile,
  read,
  record {
    pages = a.pages;
    meaning = a.meaning;
    others = a.others;
    other_meaning = a.other_meaning;
    compare = a.compare;
  },
)

pub by_pages : (asks : Bool) (widest : Profile) (dpi : Dpi) (first second : List ℕ) (comparison : AskedComparison)
    → IsComparisonFor asks widest dpi first second comparison → IsComparison widest dpi first second (of_pages comparison)
by_pages true widest dpi first second comparison a = pages_alone widest dpi first second comparison a
by_pages false widest dpi first second (Asks difference) a = absurd a
by_pages false widest dpi first second Same a = a
by_pages false widest dpi first second (Pages difference) a = a
