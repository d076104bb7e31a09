-- Certificates: whatever is read is spelled so, and what is spelled is read.
use Rattle.std.proofs.Common.{◌≡◌, ℕ, ◌+◌, ◌^◌, ◌<◌, Bool, true, false, cond, eqb, List, [], ◌++◌, length, take, drop, Some, Result, Ok, Err, refl, sym, ap, ◌∙◌, append_assoc, arith, nat_eq, if◌then◌else◌, IfOk}
use Rattle.pcl_cert.proofs.Names.{w16, w32, to_be_bytes, flat_map, AllByRecursion, starts_with, Vec, eqb-true, append-nil, nil_from_length, take-append-drop, same_text, Dpi, Size, page_height, page_row_bytes, row_small, height_small, CertFault, BadMagic, Extra, Format, One, Two, PageProof, pair_bytes, row_bytes, table_bytes, lists_bytes, rows_in, proof_bytes, certificate_bytes, AreSmall, HasLists, IsProof, AreProofs, magic, size_with_height, Gives, contents_of, uint_at, format_at, sized, table_at, places_at, proofs_at, nat_tests}
use Rattle.pcl_cert.specs.ReadingCertificates.{pair_at, row_numbers_at, proof_at, certificate_at}
use Rattle.pcl_cert.proofs.FieldsRead.{AreBytes, rest_bytes, Splits, splits_both, step_ok, same_ok, two_bytes, four_bytes}
use Rattle.pcl_cert.proofs.PagesRead.{tables_are_many, proofs_are_many}
use Rattle.pcl_cert.proofs.Spelled.{Spells, number_spells, many_spell}
use Rattle.pcl_cert.proofs.ListsSpelled.{places_spell}

-- ---- tables

four : Spells (uint_at w32) (to_be_bytes w32) (λ n. n < 2 ^ 32)
four = number_spells four_bytes

pairs_spell : Spells pair_at (λ p. pair_bytes p.0 p.1) (λ p. (p.0 < 2 ^ 32) × (p.1 < 2 ^ 32))
unfolding pair_at
pairs_spell = record {
  found = λ bytes x are e.
      let a = step_ok (uint_at w32 bytes) e in
      let b = step_ok (uint_at w32 a.0.1) a.2 in
      let outside = four.found bytes a.0 are a.1 in
      let inside = four.found a.0.1 b.0 outside.0.rest_are b.1 in
      rw (← same_ok b.2) (splits_both outside.0 inside.0, (outside.1, inside.1));
  again = λ p rest fits. rw (four.again p.0 (to_be_bytes w32 p.1 ++ rest) fits.0, four.again p.1 rest fits.1) refl;
}

row_spells : Spells row_numbers_at row_bytes AreSmall
unfolding row_numbers_at
row_spells = record {
  found = λ bytes x are e.
      let plain = step_ok (pair_at bytes) e in
      let runs = step_ok (pair_at plain.0.1) plain.2 in
      let packed = step_ok (pair_at runs.0.1) runs.2 in
      let delta = step_ok (pair_at packed.0.1) packed.2 in
      let a = pairs_spell.found bytes plain.0 are plain.1 in
      let b = pairs_spell.found plain.0.1 runs.0 a.0.rest_are runs.1 in
      let c = pairs_spell.found runs.0.1 packed.0 b.0.rest_are packed.1 in
      let d = pairs_spell.found packed.0.1 delta.0 c.0.rest_are delta.1 in
      let joined = splits_both a.0 (splits_both b.0 (splits_both c.0 d.0)) in
      rw (← same_ok delta.2) (joined, (a.1.0, a.1.1, b.1.0, b.1.1, c.1.0, c.1.1, d.1.0, d.1.1));
  again = λ n rest fits.
      let plain : ℕ × ℕ = (n.outside.plain, n.inside.plain) in
      let runs : ℕ × ℕ = (n.outside.runs, n.inside.runs) in
      let packed : ℕ × ℕ = (n.outside.packed, n.inside.packed) in
      let delta : ℕ × ℕ = (n.outside.delta, n.inside.delta) in
      let pair = pairs_spell.again in
      rw (pair plain _ (fits.0, fits.1), pair runs _ (fits.2, fits.3), pair packed _ (fits.4, fits.5), pair delta rest (fits.6, fits.7));
}

pub table_spells : (n : ℕ) → Spells (table_at n) table_bytes (λ table. (length table ≡ n) × AllByRecursion AreSmall table)
table_spells n = many_spell tables_are_many row_spells n

-- ---- pages

two : Spells (uint_at w16) (to_be_bytes w16) (λ n. n < 2 ^ 16)
two = number_spells two_bytes

-- a size is found by its height, and has it
size_found : (dpi : Dpi) {rows : ℕ} {size : Size} → sized (size_with_height dpi rows) ≡ Ok size → page_height size dpi ≡ rows
size_found dpi {rows} {size} e = grind (arith, nat_tests)

size_again : (dpi : Dpi) (size : Size) → size_with_height dpi (page_height size dpi) ≡ Some size
size_again dpi size = grind (arith, nat_tests)

row_bytes_small : (size : Size) (dpi : Dpi) → page_row_bytes size dpi < 2 ^ 16
row_bytes_small size dpi = omega (arith, row_small size dpi)

proof_spells : {dpi : Dpi} {format : Format} → Spells (proof_at dpi format) proof_bytes (IsProof dpi format)
unfolding proof_at
proof_spells {dpi} {format} = record {
  found = λ bytes x are e.
      let text_len = step_ok (uint_at w32 bytes) e in
      let rows = step_ok (uint_at w16 text_len.0.1) text_len.2 in
      let size = step_ok (sized (size_with_height dpi rows.0.0)) rows.2 in
      let table = step_ok (table_at (rows.0.0 + 1) rows.0.1) size.2 in
      let places = step_ok (places_at format rows.0.0 (page_row_bytes size.0 dpi) table.0.1) table.2 in
      let a = four.found bytes text_len.0 are text_len.1 in
      let b = two.found text_len.0.1 rows.0 a.0.rest_are rows.1 in
      let height : page_height size.0 dpi ≡ rows.0.0 = size_found dpi size.1 in
      let c = (table_spells (rows.0.0 + 1)).found rows.0.1 table.0 b.0.rest_are table.1 in
      let d = (places_spell format rows.0.0 (row_bytes_small size.0 dpi)).found table.0.1 places.0 c.0.rest_are places.1 in
      let rows_are : rows.0.0 ≡ rows_in table.0.0 = omega (arith, c.1.0) in
      rw (← same_ok places.2) (
        rw (← rows_are) (splits_both a.0 (splits_both b.0 (splits_both c.0 d.0))),
        record {
          fits = record { size = size.0; height = omega (arith, c.1.0, height); lists = rw height d.1 };
          text_len = a.1;
          numbers = c.1.1;
        },
      );
  again = λ proof rest is.
      let rows : ℕ = rows_in proof.table in
      let height : page_height is.fits.size dpi ≡ rows = omega (arith, is.fits.height) in
      let small : rows < 2 ^ 16 = omega (arith, height, height_small is.fits.size dpi) in
      let table : List ℕ = table_bytes proof.table ++ (lists_bytes proof.places ++ rest) in
      let found : size_with_height dpi rows ≡ Some is.fits.size = ap (size_with_height dpi) (sym height) ∙ size_again dpi is.fits.size in
      let count : length proof.table ≡ rows + 1 = omega (arith, is.fits.height) in
      let has : HasLists format rows (page_row_bytes is.fits.size dpi) proof.places = rw (← height) is.fits.lists in
      let tables = (table_spells (rows + 1)).again proof.table (lists_bytes proof.places ++ rest) (count, is.numbers) in
      let places = (places_spell format rows (row_bytes_small is.fits.size dpi)).again proof.places rest has in
      let joined = append_assoc (table_bytes proof.table) (lists_bytes proof.places) rest in
      rw (joined, four.again proof.text_len (to_be_bytes w16 rows ++ table) is.text_len, two.again rows table small, found, tables, places);
}

-- ---- certificates

begins_with : {format : Format} {bytes : List ℕ} {x : Format × List ℕ} → AreBytes bytes → magic format ≡ take 8 bytes
    → (format, drop 8 bytes) ≡ x → Splits bytes (magic x.0) x.1
begins_with {bytes} are is made =
    rw (← made) (record { joined = rw is (sym (take-append-drop 8 bytes)); rest_are = rest_bytes 8 bytes are })

format_by : (one two : Bool) {bytes : List ℕ} {x : Format × List ℕ} → AreBytes bytes → (one ≡ true → magic One ≡ take 8 bytes)
    → (two ≡ true → magic Two ≡ take 8 bytes)
    → (if one then Ok (One, drop 8 bytes) else (if two then Ok (Two, drop 8 bytes) else Err BadMagic)) ≡ Ok x → Splits bytes (magic x.0) x.1
format_by true two are is other e = begins_with are (is refl) (same_ok e)
format_by false true are is other e = begins_with are (other refl) (same_ok e)
format_by false false are is other e = absurd cc

format_found : {bytes : List ℕ} {x : Format × List ℕ} → AreBytes bytes → format_at bytes ≡ Ok x → Splits bytes (magic x.0) x.1
format_found {bytes} are e =
    format_by (starts_with nat_eq bytes (magic One)) (starts_with nat_eq bytes (magic Two)) are
    (λ is. same_text (magic One) (take 8 bytes) (sym is)) (λ is. same_text (magic Two) (take 8 bytes) (sym is)) e

ended : {A : Type 0} (b : Bool) (fault : CertFault) {x y : A} → cond b (Ok x) (Err fault) ≡ Ok y → (b ≡ true) × (x ≡ y)
ended b fault e = grind arith

pub certificate_found : (dpi : Dpi) {bytes : List ℕ} {x : Format × List PageProof} → AreBytes bytes → certificate_at dpi bytes ≡ Ok x
    → AreProofs dpi x.0 x.1 × (bytes ≡ certificate_bytes x.0 x.1)
unfolding certificate_at
certificate_found dpi {bytes} are e =
    let format = step_ok (format_at bytes) e in
    let count = step_ok (uint_at w32 format.0.1) format.2 in
    let proofs = step_ok (proofs_at count.0.0 dpi format.0.0 count.0.1) count.2 in
    let a = format_found are format.1 in
    let b = four.found format.0.1 count.0 a.rest_are count.1 in
    let c = (many_spell (proofs_are_many dpi format.0.0) proof_spells count.0.0).found count.0.1 proofs.0 b.0.rest_are proofs.1 in
    let end = ended (eqb (length proofs.0.1) 0) Extra proofs.2 in
    let none : proofs.0.1 ≡ [] = nil_from_length proofs.0.1 (eqb-true _ _ end.0) in
    rw (← end.1) ((omega (arith, c.1.0, b.1), c.1.1), rw c.1.0 ((splits_both (splits_both a b.0) c.0).joined ∙ rw (none, append-nil) refl))

pages_again : (dpi : Dpi) (format : Format) {proofs : List PageProof} → AreProofs dpi format proofs
    → proofs_at (length proofs) dpi format (flat_map proof_bytes proofs) ≡ Ok (proofs, [])
pages_again dpi format {proofs} are =
    rw append-nil at ((many_spell (proofs_are_many dpi format) proof_spells (length proofs)).again proofs [] (refl, are.1))

pub certificate_again : (dpi : Dpi) (format : Format) {proofs : List PageProof} → AreProofs dpi format proofs
    → certificate_at dpi (certificate_bytes format proofs) ≡ Ok (format, proofs)
unfolding certificate_at
certificate_again dpi One {proofs} are = rw (four.again (length proofs) (flat_map proof_bytes proofs) are.0, pages_again dpi One are) refl
certificate_again dpi Two {proofs} are = rw (four.again (length proofs) (flat_map proof_bytes proofs) are.0, pages_again dpi Two are) refl

-- what a call gives that reads all of the bytes
pub is_found : (dpi : Dpi) (bytes : List ℕ) (read : Result (Format × Vec PageProof) CertFault) → AreBytes bytes
    → Gives contents_of read (certificate_at dpi bytes)
    → IfOk read (λ r. AreProofs dpi r.0 r.1.items × (bytes ≡ certificate_bytes r.0 r.1.items))
is_found dpi bytes (Ok read) are gives = certificate_found dpi are gives
is_found dpi bytes (Err fault) are gives = tt
