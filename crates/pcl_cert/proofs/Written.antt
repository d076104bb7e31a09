-- Writing certificates: one thing after the other.
use Rattle.std.proofs.Common.{◌≡◌, ℕ, zero, suc, ◌+◌, ◌*◌, ◌<◌, ◌≤◌, List, [], ◌∷◌, length, take, drop, get_or, refl, sym, ap, arith}
use Rattle.pcl_cert.proofs.Names.{AllByRecursion, w16, from_be_bytes, get_or_past, drop-drop, length-map, Dpi, Method, method_code, method_small, Format, One, Two, PageProof, FitsFormat, FitFormat, IsProof, AreProofs, proof_in, proofs_in, list_of, count_at_front, list_from, lists_within}
use Rattle.pcl_cert.proofs.Numbers.{length_numbers, number_within}

-- ---- pages

pub proof_is : {dpi : Dpi} {format : Format} (proofs : List PageProof) (i : ℕ) (d : PageProof)
    → AllByRecursion (FitsFormat dpi format) (proofs_in format proofs) → i < length proofs
    → FitsFormat dpi format (proof_in format (get_or proofs i d))
proof_is [] i d are lt = absurd (omega arith)
proof_is (proof ∷ proofs) zero d are lt = are.0
proof_is (proof ∷ proofs) (suc i) d are lt = proof_is proofs i d are.1 (omega arith)

-- ---- numbers of lists

-- the number of a place of the list that begins at a place of bytes
pub listed_number : (bytes starts : List ℕ) (k : ℕ) {start : ℕ} → k < length starts → start ≡ get_or starts k start
    → get_or (lists_within bytes starts) k [] ≡ list_from (drop start bytes)
listed_number bytes (s ∷ starts) zero lt is = ap (λ (p : ℕ). list_from (drop p bytes)) (sym is)
listed_number bytes (s ∷ starts) (suc k) lt is = listed_number bytes starts k (omega arith) is
listed_number bytes [] k lt is = absurd (omega arith)

-- the number of a place, and 0 after the list
module _ (bytes starts : List ℕ) {k start place : ℕ} (lt : k < length starts) (is : start ≡ get_or starts k start) where
  pub number_there : place < count_at_front (drop start bytes)
      → get_or (get_or (lists_within bytes starts) k []) place 0 ≡ from_be_bytes w16 (take 2 (drop (start + 2 + 2 * place) bytes))
  number_there within =
      let list : List ℕ = drop start bytes in
      let from_start : start + (2 + 2 * place) ≡ start + 2 + 2 * place = omega arith in
      let number = number_within (count_at_front list) place (drop 2 list) within in
      rw (listed_number bytes starts k lt is, number, drop-drop (2 * place) 2 list, drop-drop (2 + 2 * place) start bytes, from_start)

  pub number_past : count_at_front (drop start bytes) ≤ place → get_or (get_or (lists_within bytes starts) k []) place 0 ≡ 0
  number_past past =
      let list : List ℕ = drop start bytes in
      rw (listed_number bytes starts k lt is)
      (get_or_past (list_from list) place 0 (omega (arith, length_numbers (count_at_front list) (drop 2 list))))

-- a method's list is one of four
module _ {self : List (List ℕ)} (bytes starts : List ℕ) (row : ℕ) (method : Method) {code : ℕ} (view : self ≡ lists_within bytes starts)
    (there : 4 * row + 4 ≤ length self) (is : code ≡ method_code method) where
  pub list_within : 4 * row + code < length starts
  list_within = omega (arith, ap length view, length-map starts (λ (s : ℕ). list_from (drop s bytes)), there, is, method_small method)

  -- the list of a row and a method, by the place where it begins
  pub list_kept : {start : ℕ} → start ≡ get_or starts (4 * row + code) start → list_of self row method ≡ list_from (drop start bytes)
  list_kept at = rw (view, ← is, listed_number bytes starts (4 * row + code) list_within at)

-- ---- proofs of pages in the format that they were read in

proof_of_format : {dpi : Dpi} (format : Format) {proof : PageProof} → FitsFormat dpi format proof
    → FitsFormat dpi format (proof_in format proof)
proof_of_format One is = record { size = is.size; height = is.height; lists = refl }
proof_of_format Two is = is

proofs_of_format : (dpi : Dpi) (format : Format) (proofs : List PageProof) → AllByRecursion (IsProof dpi format) proofs
    → AllByRecursion (FitsFormat dpi format) (proofs_in format proofs)
proofs_of_format dpi format [] are = tt
proofs_of_format dpi format (proof ∷ proofs) are = (proof_of_format format are.0.fits, proofs_of_format dpi format proofs are.1)

-- what is read can be written again
pub can_be_written : (dpi : Dpi) (format : Format) (proofs : List PageProof) → AreProofs dpi format proofs
    → FitFormat dpi format (proofs_in format proofs)
can_be_written dpi format proofs are = (omega (arith, are.0, length-map proofs (proof_in format)), proofs_of_format dpi format proofs are.1)
