-- What page texts mean to who reads and performs them.
use Rattle.std.specs.Prelude.{◌≡◌, ℕ, zero, suc, ◌+◌, ◌<◌, ◌≤◌, Bool, false, List, [], ◌∷◌, ◌++◌}
use Rattle.pcl_base.specs.declared.dpi.Dpi.{Dpi}
use Rattle.pcl_base.specs.declared.size.Size.{Size}
use Rattle.pcl_base.specs.Limits.{command_limit}
use Rattle.pcl_base.specs.Size.{page_width, page_height}
use Rattle.pcl_bitmap.specs.Bitmap.{dot_of_row}
use Rattle.pcl_page.specs.Marks.{is_black}
use Rattle.pcl_page.specs.Situation.{Sheet}
use Rattle.pcl_page.specs.Jobs.{HasPages}
use Rattle.pcl_output.specs.Tokens.{command_count, frame_bytes}
use Rattle.pcl_output.specs.PageText.{IsPageText}

-- dot x of row y of rows
abbrev pub dot_of_rows : List (List ℕ) → ℕ → ℕ → Bool
dot_of_rows [] x y = false
dot_of_rows (row ∷ rows) x zero = dot_of_row row x
dot_of_rows (row ∷ rows) x (suc y) = dot_of_rows rows x y

-- the job of one page text
abbrev pub job_of : List ℕ → List ℕ
job_of text = frame_bytes ++ text ++ frame_bytes

-- the commands of that job: the two resets, eight before the body and two after it
abbrev pub job_commands : {dpi : Dpi} {size : Size} {copies : ℕ} {rows : List (List ℕ)} {text : List ℕ}
    → IsPageText dpi size copies rows text → ℕ
job_commands printed = command_count printed.tokens + 12

-- the job is accepted, and all that it means is this many copies of one page of this size with these rows, dot for dot
pub record MeansRows (dpi : Dpi) (size : Size) (copies : ℕ) (rows : List (List ℕ)) (job : List ℕ) : Type 0 where
  pub sheet : Sheet
  pub meaning : HasPages dpi job (sheet ∷ [])
  pub size_is : sheet.size ≡ size
  pub copies_are : sheet.copies ≡ copies
  pub dots : (x y : ℕ) → x < page_width size dpi → y < page_height size dpi → is_black sheet.marks x y ≡ dot_of_rows rows x y

-- each page text, in any spelling and with any methods, of no more commands than a job may have
abbrev pub PageTextsMeanTheirPages : Type 0
PageTextsMeanTheirPages =
    (dpi : Dpi) (size : Size) (copies : ℕ) (rows : List (List ℕ)) (text : List ℕ) (printed : IsPageText dpi size copies rows text)
    → job_commands printed ≤ command_limit → MeansRows dpi size copies rows (job_of text)
