-- Bytes that pass a test with another one after them: they can be divided in one way.
use Rattle.std.proofs.Common.{◌≡◌, ℕ, Bool, false, List, [], ◌∷◌, ◌++◌, refl}
use Rattle.pcl_check.proofs.Names.{Pass}

pub one_split : (test : ℕ → Bool) (a b : List ℕ) {c d : ℕ} {x y : List ℕ} → Pass test a → Pass test b → test c ≡ false → test d ≡ false
    → a ++ c ∷ x ≡ b ++ d ∷ y → (a ≡ b) × (c ≡ d) × (x ≡ y)
one_split test [] [] p q s t e = (refl, cc, cc)
one_split test [] (digit ∷ b) p q s t e = absurd cc
one_split test (digit ∷ a) [] p q s t e = absurd cc
one_split test (digit ∷ a) (other ∷ b) {c} {d} {x} {y} p q s t e =
    let rest : a ++ c ∷ x ≡ b ++ d ∷ y = cc in let later = one_split test a b p.1 q.1 s t rest in (cc, later.1, later.2)

-- bytes that all pass have no other one among them
pub no_split : (test : ℕ → Bool) (a b : List ℕ) {d : ℕ} (y : List ℕ) → Pass test a → test d ≡ false → a ≡ b ++ d ∷ y → ⊥
no_split test (digit ∷ a) [] {d} y p t e = let first : digit ≡ d = cc in cc
no_split test (digit ∷ a) (other ∷ b) {d} y p t e = let rest : a ≡ b ++ d ∷ y = cc in no_split test a b y p.1 t rest
no_split test [] [] y p t e = cc
no_split test [] (other ∷ b) y p t e = cc
