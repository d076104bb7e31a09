-- Reading a certificate from its first byte to its last, and the first field where something is wrong.
use Rattle.std.specs.Prelude.{◌≡◌, ℕ, zero, suc, ◌+◌, ◌*◌, nat_lt, nat_eq, ◌==◌, if◌then◌else◌, List, [], ◌∷◌, length, take, drop, Option, None, Some, Result, Ok, Err}
use Rattle.std.specs.Int.{Width, w16, w32, byte_len, from_be_bytes}
use Rattle.std.specs.List.{starts_with}
use Rattle.std.specs.Global.{Vec}
use Rattle.pcl_base.specs.declared.dpi.Dpi.{Dpi}
use Rattle.pcl_base.specs.declared.size.Size.{Size}
use Rattle.pcl_base.specs.Size.{page_row_bytes}
use Rattle.pcl_output.specs.declared.table.RowNumbers.{RowNumbers}
use Rattle.pcl_cert.specs.declared.fault.CertFault.{CertFault}
use Rattle.pcl_cert.specs.declared.fault.CertFault.TheVariants.{BadMagic, Short, Extra, Rows, Places, Memory}
use Rattle.pcl_cert.specs.declared.format.Format.{Format}
use Rattle.pcl_cert.specs.declared.format.Format.TheVariants.{One, Two}
use Rattle.pcl_cert.specs.declared.page_proof.PageProof.{PageProof}
use Rattle.pcl_cert.specs.CertificateFields.{magic, size_with_height, ends_in_zero}
use Rattle.pcl_cert.specs.RowTables.{numbers_from}

-- what is read next follows only where nothing was wrong
infixl 10 ◌>>=◌
abbrev pub ◌>>=◌ : {A B : Type 0} → Result A CertFault → (A → Result B CertFault) → Result B CertFault
(Ok x) >>= f = f x
(Err e) >>= f = Err e

-- what a call returned, seen by view, is what reading gives, unless memory ran out
abbrev pub FailsAs : {Y : Type 0} → CertFault → Result Y CertFault → Type 0
FailsAs Memory read = Unit {0}
FailsAs fault read = read ≡ Err fault

abbrev pub Gives : {X Y : Type 0} → (X → Y) → Result X CertFault → Result Y CertFault → Type 0
Gives view (Ok x) read = read ≡ Ok (view x)
Gives view (Err fault) read = FailsAs fault read

-- a format and pages that were read
abbrev pub contents_of : Format × Vec PageProof → Format × List PageProof
contents_of read = (read.0, read.1.items)

-- the bytes after what is read
abbrev pub beyond : {X : Type 0} → Result (X × List ℕ) CertFault → Result (List ℕ) CertFault
beyond read = read >>= λ x. Ok x.1

-- ---- fields: a value, and the bytes after it

-- a number of some bytes
abbrev pub uint_at : Width → List ℕ → Result (ℕ × List ℕ) CertFault
uint_at w bytes =
    if nat_lt (length bytes) (byte_len w) then Err Short
    else Ok (from_be_bytes w (take (byte_len w) bytes), drop (byte_len w) bytes)

-- the first eight bytes tell the format
abbrev pub format_at : List ℕ → Result (Format × List ℕ) CertFault
format_at bytes =
    if starts_with nat_eq bytes (magic One) then Ok (One, drop 8 bytes)
    else (if starts_with nat_eq bytes (magic Two) then Ok (Two, drop 8 bytes) else Err BadMagic)

-- the size of pages with this many rows
abbrev pub sized : Option Size → Result Size CertFault
sized None = Err Rows
sized (Some size) = Ok size

-- ---- tables

-- the numbers of a method, each in four bytes: outside a sequence, and then inside one
unfoldable pub pair_at : List ℕ → Result ((ℕ × ℕ) × List ℕ) CertFault
pair_at bytes = do
  outside ← uint_at w32 bytes
  inside ← uint_at w32 outside.1
  Ok ((outside.0, inside.0), inside.1)

-- the node numbers after the same rows: for methods 0 to 3 in turn, outside a sequence and inside
unfoldable pub row_numbers_at : List ℕ → Result (RowNumbers × List ℕ) CertFault
row_numbers_at bytes = do
  plain ← pair_at bytes
  runs ← pair_at plain.1
  packed ← pair_at runs.1
  delta ← pair_at packed.1
  Ok (
    record {
      outside = record { plain = plain.0.0; runs = runs.0.0; packed = packed.0.0; delta = delta.0.0 };
      inside = record { plain = plain.0.1; runs = runs.0.1; packed = packed.0.1; delta = delta.0.1 };
    },
    delta.1,
  )

-- the numbers after this many rows
unfoldable pub table_at : ℕ → List ℕ → Result (List RowNumbers × List ℕ) CertFault
table_at zero bytes = Ok ([], bytes)
table_at (suc n) bytes = do
  first ← row_numbers_at bytes
  others ← table_at n first.1
  Ok (first.0 ∷ others.0, others.1)

-- ---- row tables

-- a list of at most this many numbers: its count is looked at before they are read, and the last of them after all
abbrev pub list_after : ℕ → ℕ × List ℕ → Result (List ℕ × List ℕ) CertFault
list_after most count =
    if nat_lt most count.0 then Err Places
    else (if nat_lt (length count.1) (2 * count.0) then Err Short
    else (if ends_in_zero (numbers_from count.0 count.1) then Err Places
    else Ok (numbers_from count.0 count.1, drop (2 * count.0) count.1)))

-- a list of at most this many numbers: their count, in two bytes, and then the numbers
unfoldable pub list_at : ℕ → List ℕ → Result (List ℕ × List ℕ) CertFault
list_at most bytes = uint_at w16 bytes >>= list_after most

-- this many lists, one after the other, each of at most this many numbers
unfoldable pub lists_at : ℕ → ℕ → List ℕ → Result (List (List ℕ) × List ℕ) CertFault
lists_at zero most bytes = Ok ([], bytes)
lists_at (suc n) most bytes = do
  first ← list_at most bytes
  others ← lists_at n most first.1
  Ok (first.0 ∷ others.0, others.1)

-- the row tables of a page: four lists for each row in the second format, none in the first
unfoldable pub places_at : Format → ℕ → ℕ → List ℕ → Result (Option (List (List ℕ)) × List ℕ) CertFault
places_at One rows most bytes = Ok (None, bytes)
places_at Two rows most bytes = do
  lists ← lists_at (4 * rows) most bytes
  Ok (Some lists.0, lists.1)

-- ---- pages

-- a page: its text's length in bytes, its count of rows, its node numbers, and its row tables
unfoldable pub proof_at : Dpi → Format → List ℕ → Result (PageProof × List ℕ) CertFault
proof_at dpi format bytes = do
  text_len ← uint_at w32 bytes
  rows ← uint_at w16 text_len.1
  size ← sized (size_with_height dpi rows.0)
  table ← table_at (rows.0 + 1) rows.1
  places ← places_at format rows.0 (page_row_bytes size dpi) table.1
  Ok (record { text_len = text_len.0; table = table.0; places = places.0 }, places.1)

-- this many pages, one after the other
unfoldable pub proofs_at : ℕ → Dpi → Format → List ℕ → Result (List PageProof × List ℕ) CertFault
proofs_at zero dpi format bytes = Ok ([], bytes)
proofs_at (suc n) dpi format bytes = do
  first ← proof_at dpi format bytes
  others ← proofs_at n dpi format first.1
  Ok (first.0 ∷ others.0, others.1)

-- all of the bytes
unfoldable pub certificate_at : Dpi → List ℕ → Result (Format × List PageProof) CertFault
certificate_at dpi bytes = do
  format ← format_at bytes
  count ← uint_at w32 format.1
  proofs ← proofs_at count.0 dpi format.0 count.1
  if length proofs.1 == 0 then Ok (format.0, proofs.0) else Err Extra
