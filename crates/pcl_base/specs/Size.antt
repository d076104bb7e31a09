-- Page sizes, in dots.
use Rattle.std.specs.Prelude.{ℕ, ◌+◌, ◌*◌, ◌/◌, ◌==◌, if◌then◌else◌, List, Option, Some, None, codes}
use Rattle.pcl_base.specs.declared.dpi.Dpi.{Dpi}
use Rattle.pcl_base.specs.declared.size.Size.{Size}
use Rattle.pcl_base.specs.declared.size.Size.TheVariants.{Executive, Letter, Legal, A4}
use Rattle.pcl_base.specs.Dpi.{fineness}

-- the number of the size in a page size command
abbrev pub code_of : Size → ℕ
code_of Executive = 1
code_of Letter = 2
code_of Legal = 3
code_of A4 = 26

-- the size of a number
abbrev pub size_with_code : ℕ → Option Size
size_with_code code =
    if code == 1 then Some Executive
    else (if code == 2 then Some Letter
    else (if code == 3 then Some Legal
    else (if code == 26 then Some A4 else None)))

-- the name, as messages print it
abbrev pub size_name : Size → List ℕ
size_name Executive = codes "Executive"
size_name Letter = codes "Letter"
size_name Legal = codes "Legal"
size_name A4 = codes "A4"

-- dots across at 300 per inch
abbrev pub width_at_300 : Size → ℕ
width_at_300 Executive = 2025
width_at_300 Letter = 2400
width_at_300 Legal = 2400
width_at_300 A4 = 2338

-- dots down at 300 per inch
abbrev pub height_at_300 : Size → ℕ
height_at_300 Executive = 3150
height_at_300 Letter = 3300
height_at_300 Legal = 4200
height_at_300 A4 = 3507

-- dots across the page at this resolution
abbrev pub page_width : Size → Dpi → ℕ
page_width size dpi = width_at_300 size * fineness dpi

-- dots down the page at this resolution
abbrev pub page_height : Size → Dpi → ℕ
page_height size dpi = height_at_300 size * fineness dpi

-- eight dots to a byte
abbrev pub page_row_bytes : Size → Dpi → ℕ
page_row_bytes size dpi = (page_width size dpi + 7) / 8

-- width and height in units of 1/7200 inch, at either resolution
abbrev pub units_wide : Size → ℕ
units_wide size = 24 * width_at_300 size

-- the height in units of 1/7200 inch, at either resolution
abbrev pub units_high : Size → ℕ
units_high size = 24 * height_at_300 size
