-- The bytes at the front that pass a test, as far as they go.
use Rattle.std.proofs.Common.{◌≡◌, ℕ, Bool, true, false, IsTrue, List, [], ◌∷◌, ◌++◌, take, drop, refl, ap, ◌∙◌, inl, inr}
use Rattle.pcl_base.proofs.Names.{one-add, prefix_len, AllByRecursion, cases_Bool}

-- each byte passes the test
abbrev pub Pass : (ℕ → Bool) → List ℕ → Type 0
Pass test bytes = AllByRecursion (λ byte. IsTrue (test byte)) bytes

-- the bytes don't begin with one that passes
abbrev pub StopsAt : (ℕ → Bool) → List ℕ → Type 0
StopsAt test [] = Unit {0}
StopsAt test (byte ∷ bytes) = test byte ≡ false

abbrev pub front_at : (ℕ → Bool) → List ℕ → List ℕ × List ℕ
front_at test bytes = (take (prefix_len test bytes) bytes, drop (prefix_len test bytes) bytes)

-- all bytes at the front that pass, and what is after them
pub record IsFront (test : ℕ → Bool) (bytes : List ℕ) (parts : List ℕ × List ℕ) : Type 0 where
  pub joined : bytes ≡ parts.0 ++ parts.1
  pub pass : Pass test parts.0
  pub stops : StopsAt test parts.1

-- a byte that passes is taken
pub front_yes : (test : ℕ → Bool) {byte : ℕ} (bytes : List ℕ) → test byte ≡ true
    → front_at test (byte ∷ bytes) ≡ (byte ∷ (front_at test bytes).0, (front_at test bytes).1)
front_yes test bytes e = rw (e, one-add) refl

-- at another byte the front ends
pub front_no : (test : ℕ → Bool) {byte : ℕ} {bytes : List ℕ} → test byte ≡ false → front_at test (byte ∷ bytes) ≡ ([], byte ∷ bytes)
front_no test e = rw e refl

-- the front that is taken has all bytes that pass
pub front_split : (test : ℕ → Bool) (bytes : List ℕ) → IsFront test bytes (front_at test bytes)
front_split test [] = record { joined = refl; pass = tt; stops = tt }
front_split test (byte ∷ bytes) =
    let h = front_split test bytes in elim (cases_Bool (test byte)) [
      | inl e ↦ rw (front_yes test bytes e) (record { joined = ap (λ bs. byte ∷ bs) h.joined; pass = (e, h.pass); stops = h.stops })
      | inr e ↦ rw e (record { joined = refl; pass = tt; stops = e })
    ]

-- bytes are taken up to where they stop
pub front_again : (test : ℕ → Bool) (front rest : List ℕ) → Pass test front → StopsAt test rest
    → front_at test (front ++ rest) ≡ (front, rest)
front_again test [] [] p n = refl
front_again test [] (byte ∷ rest) p n = front_no test n
front_again test (first ∷ front) rest p n =
    front_yes test (front ++ rest) p.0 ∙ ap (λ (q : List ℕ × List ℕ). (first ∷ q.0, q.1)) (front_again test front rest p.1 n)
