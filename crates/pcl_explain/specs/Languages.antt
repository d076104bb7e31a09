-- Languages of printers other than PCL 5.
use Rattle.std.specs.Prelude.{ℕ, nat_eq, Bool, ◌||◌, List, [], ◌∷◌, codes}
use Rattle.std.specs.List.{starts_with}
use Rattle.pcl_explain.specs.declared.languages.Language.{Language}
use Rattle.pcl_explain.specs.declared.languages.Language.TheVariants.{PostScript, Pdf, PclXl, Gzip}

-- whether a job begins as those in a language do
abbrev pub begins_as : Language → List ℕ → Bool
begins_as PostScript job = starts_with nat_eq job (codes "%!") || starts_with nat_eq job (4 ∷ codes "%!")
begins_as Pdf job = starts_with nat_eq job (codes "%PDF")
begins_as PclXl job = starts_with nat_eq job (codes ") HP-PCL XL") || starts_with nat_eq job (codes "( HP-PCL XL")
begins_as Gzip job = starts_with nat_eq job (31 ∷ 139 ∷ [])
