-- Reading several things one after the other, as loops do.
use Rattle.std.proofs.Common.{◌≡◌, ℕ, suc, ◌+◌, ◌-◌, ◌<◌, ◌≤◌, List, [], ◌∷◌, ◌++◌, Result, Ok, Err, refl, sym, ap, ◌∙◌, append_assoc, arith}
use Rattle.pcl_cert.proofs.Names.{append-nil, CertFault, Memory}
use Rattle.pcl_cert.specs.ReadingCertificates.{◌>>=◌, FailsAs}

-- what reads one thing
abbrev pub Reader : Type 0 → Type 0
Reader X = List ℕ → Result (X × List ℕ) CertFault

-- what reads this many, by a step for one and the others
pub record IsMany {X : Type 0} (one : Reader X) (many : ℕ → Reader (List X)) : Type 0 where
  pub none : (bytes : List ℕ) → many 0 bytes ≡ Ok ([], bytes)
  pub more : (n : ℕ) (bytes : List ℕ)
      → many (suc n) bytes ≡ (one bytes >>= λ first. many n first.1 >>= λ others. Ok (first.0 ∷ others.0, others.1))

-- what was read before, and what is still to be read
abbrev pub after_front : {X : Type 0} → List X → Result (List X × List ℕ) CertFault → Result (List X × List ℕ) CertFault
after_front front read = read >>= λ x. Ok (front ++ x.0, x.1)

-- where a loop stands that has read `front` of `count` things
pub record Stands {X : Type 0} (many : ℕ → Reader (List X)) (count done : ℕ) (bytes rest : List ℕ) (front : List X) : Type 0 where
  pub so_far : after_front front (many (count - done) rest) ≡ many count bytes

regrouped : {X : Type 0} (front : List X) (x : X) (read : Result (List X × List ℕ) CertFault)
    → after_front front (read >>= λ y. Ok (x ∷ y.0, y.1)) ≡ after_front (front ++ x ∷ []) read
regrouped {X} front x (Ok y) = ap (λ (all : List X). Ok (all, y.1)) (sym (append_assoc front (x ∷ []) y.0))
regrouped front x (Err fault) = refl

unread : {X : Type 0} (read : Result (List X × List ℕ) CertFault) → after_front [] read ≡ read
unread (Ok x) = refl
unread (Err fault) = refl

pub begins : {X : Type 0} {many : ℕ → Reader (List X)} {count : ℕ} {bytes : List ℕ} → Stands many count 0 bytes bytes []
begins {many} {count} {bytes} =
    let all : count - 0 ≡ count = omega arith in
    record { so_far = rw all (unread (many count bytes)) }

-- what fails with a fault where another thing does, unless memory ran out
pub fails_same : {X Y : Type 0} (fault : CertFault) {read : Result X CertFault} {later : Result Y CertFault}
    → (read ≡ Err fault → later ≡ Err fault) → FailsAs fault read → FailsAs fault later
fails_same Memory same e = tt
fails_same _ same e = same e

module _ {X : Type 0} {one : Reader X} {many : ℕ → Reader (List X)} {count done : ℕ} {bytes rest : List ℕ} {front : List X}
    (is : IsMany one many) (stands : Stands many count done bytes rest front) where
  pub goes_on : (x : X) (after : List ℕ) → done < count → one rest ≡ Ok (x, after)
      → Stands many count (done + 1) bytes after (front ++ x ∷ [])
  goes_on x after lt read =
      let left : count - done ≡ suc (count - (done + 1)) = omega arith in
      record { so_far = sym (regrouped front x (many (count - (done + 1)) after)) ∙ (rw (left, is.more, read) at stands.so_far) }

  pub fails : (fault : CertFault) → done < count → FailsAs fault (one rest) → FailsAs fault (many count bytes)
  fails fault lt =
      let left : count - done ≡ suc (count - (done + 1)) = omega arith in
      fails_same fault (λ read. sym (rw (left, is.more, read) at stands.so_far))

  pub ends : count ≤ done → many count bytes ≡ Ok (front, rest)
  ends le =
      let none : count - done ≡ 0 = omega arith in sym (rw (none, is.none, append-nil) at stands.so_far)
