-- What a text is, beside a page.
use Rattle.std.specs.Prelude.{ℕ, List}
use Rattle.pcl_base.specs.declared.dpi.Dpi.{Dpi}
use Rattle.pcl_base.specs.declared.size.Size.{Size}
use Rattle.pcl_bitmap.specs.declared.page.Page.{Page}
use Rattle.pcl_output.specs.PageText.{IsPageText, PrintsPage}
use Rattle.pcl_check.specs.declared.reading.TextVerdict.{TextVerdict}
use Rattle.pcl_check.specs.declared.reading.TextVerdict.TheVariants.{NotGrammar, OtherPage, Prints}

-- a page text at a resolution, of some copies, size and rows
abbrev pub IsSomePageText : Dpi → List ℕ → Type 0
IsSomePageText dpi text = (size : Size) × (copies : ℕ) × (rows : List (List ℕ)) × IsPageText dpi size copies rows text

-- The verdict on a text beside a page. Of the three one is right, whatever the text.
abbrev pub IsTextVerdict : Page → List ℕ → TextVerdict → Type 0
IsTextVerdict page text NotGrammar = IsSomePageText page.dpi text → ⊥
IsTextVerdict page text OtherPage = IsSomePageText page.dpi text × (PrintsPage page text → ⊥)
IsTextVerdict page text Prints = PrintsPage page text
