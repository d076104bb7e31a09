-- Numbers at the front of bytes: what is read is what is spelled, and the other way round.
use Rattle.std.proofs.Common.{◌≡◌, ℕ, ◌+◌, ◌^◌, ◌<◌, ◌≤◌, Bool, false, cond, List, ◌++◌, length, get_or, take, drop, Result, Ok, Err, refl, append_assoc, arith}
use Rattle.pcl_cert.proofs.Names.{Width, w16, w32, byte_len, from_be_bytes, to_be_bytes, length-take, get_or-drop, get_or-take, get_or_past, be_bytes_2, be_bytes_4, from_be_bytes-to_be_bytes_2, from_be_bytes-to_be_bytes_4, CertFault}
use Rattle.pcl_cert.specs.ReadingCertificates.{◌>>=◌}

-- ---- bytes

abbrev pub AreBytes : List ℕ → Type 0
AreBytes bytes = (i : ℕ) → get_or bytes i 0 < 256

pub rest_bytes : (n : ℕ) (bytes : List ℕ) → AreBytes bytes → AreBytes (drop n bytes)
rest_bytes n bytes are i = rw get_or-drop (are (n + i))

pub front_bytes : (n : ℕ) (bytes : List ℕ) → AreBytes bytes → AreBytes (take n bytes)
front_bytes n bytes are i = grind (arith, get_or-take n bytes i 0, get_or_past (take n bytes) i 0, length-take n bytes, are i)

-- the bytes are a text and a rest
pub record Splits (bytes text rest : List ℕ) : Type 0 where
  pub joined : bytes ≡ text ++ rest
  pub rest_are : AreBytes rest

pub splits_both : {a x b y c : List ℕ} → Splits a x b → Splits b y c → Splits a (x ++ y) c
splits_both p q = record { joined = simp (p.joined, q.joined, append_assoc); rest_are = q.rest_are }

-- ---- steps of reading that didn't fail

pub step_ok : {A B : Type 0} (r : Result A CertFault) {f : A → Result B CertFault} {y : B} → (r >>= f) ≡ Ok y
    → (x : A) × (r ≡ Ok x) × (f x ≡ Ok y)
step_ok (Ok x) e = (x, refl, e)
step_ok (Err fault) e = absurd cc

pub passed : {A : Type 0} (b : Bool) (fault : CertFault) {r : Result A CertFault} {y : A} → cond b (Err fault) r ≡ Ok y
    → (b ≡ false) × (r ≡ Ok y)
passed b fault e = grind arith

abbrev answered : {A : Type 0} → A → Result A CertFault
answered x = Ok x

pub same_ok : {A : Type 0} {x y : A} → answered x ≡ answered y → x ≡ y
same_ok e = cc

-- ---- numbers of two and of four bytes

pub record IsNumberWidth (w : Width) (limit : ℕ) : Type 0 where
  pub len : (n : ℕ) → length (to_be_bytes w n) ≡ byte_len w
  pub spelled : (bytes : List ℕ) → length bytes ≡ byte_len w → AreBytes bytes → to_be_bytes w (from_be_bytes w bytes) ≡ bytes
  pub again : (n : ℕ) → n < limit → from_be_bytes w (to_be_bytes w n) ≡ n
  pub below : (bytes : List ℕ) → AreBytes bytes → from_be_bytes w bytes < limit

pub two_bytes : IsNumberWidth w16 (2 ^ 16)
two_bytes = record {
  len = λ n. refl;
  spelled = λ bytes len are. be_bytes_2 bytes _ len are refl;
  again = λ n lt. from_be_bytes-to_be_bytes_2 n lt;
  below = λ bytes are. omega (arith, are 0, are 1);
}

pub four_bytes : IsNumberWidth w32 (2 ^ 32)
four_bytes = record {
  len = λ n. refl;
  spelled = λ bytes len are. be_bytes_4 bytes _ len are refl;
  again = λ n lt. from_be_bytes-to_be_bytes_4 n lt;
  below = λ bytes are. omega (arith, are 0, are 1, are 2, are 3);
}

-- a number's bytes are the front that it is read from
pub front_spelled : {w : Width} {limit : ℕ} → IsNumberWidth w limit → (bytes : List ℕ) → AreBytes bytes → byte_len w ≤ length bytes
    → to_be_bytes w (from_be_bytes w (take (byte_len w) bytes)) ≡ take (byte_len w) bytes
front_spelled {w} is bytes are long =
    is.spelled (take (byte_len w) bytes) (omega (arith, length-take (byte_len w) bytes)) (front_bytes (byte_len w) bytes are)
