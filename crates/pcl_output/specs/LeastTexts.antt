-- The least text that prints a page.
use Rattle.std.specs.Prelude.{◌≡◌, ℕ, ◌+◌, ◌≤◌, List, length}
use Rattle.pcl_base.specs.declared.dpi.Dpi.{Dpi}
use Rattle.pcl_base.specs.declared.size.Size.{Size}
use Rattle.pcl_output.specs.Tokens.{start_bytes, end_bytes}
use Rattle.pcl_output.specs.PageText.{IsPageText}

-- the bytes of a page text that don't depend on its rows: all but the body
abbrev pub fixed_bytes : Dpi → Size → ℕ → ℕ
fixed_bytes dpi size copies = length (start_bytes dpi copies size) + length end_bytes

-- the least length of a page text that prints this many copies of these rows: some text has it, and none is shorter
pub record IsLeastText (dpi : Dpi) (size : Size) (copies : ℕ) (rows : List (List ℕ)) (least : ℕ) : Type 0 where
  pub attained : (text : List ℕ) × IsPageText dpi size copies rows text × (length text ≡ least)
  pub shortest : (text : List ℕ) → IsPageText dpi size copies rows text → least ≤ length text
