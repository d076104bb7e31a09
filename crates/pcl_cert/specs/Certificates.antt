-- Certificates: what pages they speak of, and the bytes that they are (docs/CERTIFICATE.md).
use Rattle.std.specs.Prelude.{◌≡◌, ℕ, ◌+◌, ◌-◌, ◌*◌, ◌^◌, ◌<◌, ◌≤◌, false, List, [], ◌∷◌, ◌++◌, length, map, Option, None, Some}
use Rattle.std.specs.Int.{w16, w32, to_be_bytes}
use Rattle.std.specs.List.{flat_map, AllByRecursion}
use Rattle.pcl_base.specs.declared.dpi.Dpi.{Dpi}
use Rattle.pcl_base.specs.declared.size.Size.{Size}
use Rattle.pcl_base.specs.Size.{page_height, page_row_bytes}
use Rattle.pcl_output.specs.declared.table.RowNumbers.{RowNumbers}
use Rattle.pcl_cert.specs.declared.format.Format.{Format}
use Rattle.pcl_cert.specs.declared.format.Format.TheVariants.{One, Two}
use Rattle.pcl_cert.specs.declared.page_proof.PageProof.{PageProof}
use Rattle.pcl_cert.specs.CertificateFields.{ends_in_zero, magic}

-- the numbers after some rows: for methods 0 to 3 in turn that outside a sequence, then that inside
abbrev pub pair_bytes : ℕ → ℕ → List ℕ
pair_bytes outside inside = to_be_bytes w32 outside ++ to_be_bytes w32 inside

abbrev pub row_bytes : RowNumbers → List ℕ
row_bytes numbers =
    pair_bytes numbers.outside.plain numbers.inside.plain ++ pair_bytes numbers.outside.runs numbers.inside.runs
    ++ pair_bytes numbers.outside.packed numbers.inside.packed ++ pair_bytes numbers.outside.delta numbers.inside.delta

abbrev pub table_bytes : List RowNumbers → List ℕ
table_bytes table = flat_map row_bytes table

-- a list of a row table: how many numbers, and these
abbrev pub list_bytes : List ℕ → List ℕ
list_bytes numbers = to_be_bytes w16 (length numbers) ++ flat_map (to_be_bytes w16) numbers

abbrev pub lists_bytes : Option (List (List ℕ)) → List ℕ
lists_bytes None = []
lists_bytes (Some lists) = flat_map list_bytes lists

-- how many rows a table is made for
abbrev pub rows_in : List RowNumbers → ℕ
rows_in table = length table - 1

-- a page: the length of its text, its rows, its table and its row tables
abbrev pub proof_bytes : PageProof → List ℕ
proof_bytes proof =
    to_be_bytes w32 proof.text_len ++ to_be_bytes w16 (rows_in proof.table) ++ table_bytes proof.table ++ lists_bytes proof.places

abbrev pub certificate_bytes : Format → List PageProof → List ℕ
certificate_bytes format proofs = magic format ++ to_be_bytes w32 (length proofs) ++ flat_map proof_bytes proofs

abbrev pub AreSmall : RowNumbers → Type 0
AreSmall numbers =
    (numbers.outside.plain < 2 ^ 32) × (numbers.inside.plain < 2 ^ 32) × (numbers.outside.runs < 2 ^ 32)
    × (numbers.inside.runs < 2 ^ 32) × (numbers.outside.packed < 2 ^ 32) × (numbers.inside.packed < 2 ^ 32)
    × (numbers.outside.delta < 2 ^ 32) × (numbers.inside.delta < 2 ^ 32)

-- a list has at most this many numbers, and doesn't end in 0
pub record IsList (most : ℕ) (numbers : List ℕ) : Type 0 where
  pub short : length numbers ≤ most
  pub small : AllByRecursion (λ n. n < 2 ^ 16) numbers
  pub ends : ends_in_zero numbers ≡ false

-- a page has row tables in the second format alone: four lists for each row, each at most as long as a row is
abbrev pub HasLists : Format → ℕ → ℕ → Option (List (List ℕ)) → Type 0
HasLists One rows most places = places ≡ None
HasLists Two rows most None = ⊥
HasLists Two rows most (Some lists) = (length lists ≡ 4 * rows) × AllByRecursion (IsList most) lists

-- a format can say this of a page: its table is as long as a page is high, and it has row tables where the format has them
pub record FitsFormat (dpi : Dpi) (format : Format) (proof : PageProof) : Type 0 where
  pub size : Size
  pub height : length proof.table ≡ page_height size dpi + 1
  pub lists : HasLists format (page_height size dpi) (page_row_bytes size dpi) proof.places

abbrev pub FitFormat : Dpi → Format → List PageProof → Type 0
FitFormat dpi format proofs = (length proofs < 2 ^ 32) × AllByRecursion (FitsFormat dpi format) proofs

-- what a certificate says of a page: it fits the format, and its numbers have four bytes
pub record IsProof (dpi : Dpi) (format : Format) (proof : PageProof) : Type 0 where
  pub fits : FitsFormat dpi format proof
  pub text_len : proof.text_len < 2 ^ 32
  pub numbers : AllByRecursion AreSmall proof.table

abbrev pub AreProofs : Dpi → Format → List PageProof → Type 0
AreProofs dpi format proofs = (length proofs < 2 ^ 32) × AllByRecursion (IsProof dpi format) proofs

-- the first format leaves row tables out
abbrev pub proof_in : Format → PageProof → PageProof
proof_in One proof = record proof { places = None }
proof_in Two proof = proof

abbrev pub proofs_in : Format → List PageProof → List PageProof
proofs_in format proofs = map (proof_in format) proofs

-- the certificate of some pages becomes that of these and one more
abbrev pub HasProofMore : Format → PageProof → List ℕ → List ℕ → Type 0
HasProofMore format proof old new = (proofs : List PageProof) → length proofs + 1 < 2 ^ 32 → old ≡ certificate_bytes format proofs
    → new ≡ certificate_bytes format (proofs ++ proof ∷ [])
