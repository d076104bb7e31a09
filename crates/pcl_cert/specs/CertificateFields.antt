-- What fields of a certificate are asked for (docs/CERTIFICATE.md).
use Rattle.std.specs.Prelude.{ℕ, ◌-◌, ◌==◌, if◌then◌else◌, nat_eq, Bool, false, List, [], ◌∷◌, codes, Option, None, Some}
use Rattle.pcl_base.specs.declared.dpi.Dpi.{Dpi}
use Rattle.pcl_base.specs.declared.size.Size.{Size}
use Rattle.pcl_base.specs.declared.size.Size.TheVariants.{Executive, Letter, Legal, A4}
use Rattle.pcl_base.specs.Size.{page_height}
use Rattle.pcl_cert.specs.declared.format.Format.{Format}
use Rattle.pcl_cert.specs.declared.format.Format.TheVariants.{One, Two}

-- ---- bytes: the higher bytes of a number come first

-- the first eight bytes of a certificate, which tell its format
abbrev pub magic : Format → List ℕ
magic One = codes "PCLCERT1"
magic Two = codes "PCLCERT2"

-- ---- what a certificate can hold

-- the size of pages that have this many rows
abbrev pub size_with_height : Dpi → ℕ → Option Size
size_with_height dpi rows =
    if rows == page_height Executive dpi then Some Executive
    else (if rows == page_height Letter dpi then Some Letter
    else (if rows == page_height Legal dpi then Some Legal
    else (if rows == page_height A4 dpi then Some A4 else None)))

-- the last of some numbers is 0
abbrev pub ends_in_zero : List ℕ → Bool
ends_in_zero [] = false
ends_in_zero (n ∷ []) = nat_eq n 0
ends_in_zero (n ∷ m ∷ more) = ends_in_zero (m ∷ more)
