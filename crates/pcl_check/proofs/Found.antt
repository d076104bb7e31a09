-- The first number that is bad by one of two facts.
use Rattle.std.proofs.Common.{◌≡◌, ℕ, ◌<◌, ◌≤◌, Bool, refl, ap, arith, Option, Some, None}
use Rattle.pcl_check.proofs.Names.{nat_tests, Method, method_code, method_small, Node, inside_code, IsFirstBad, FindsBad, first_found, At, Both}

-- both facts at once
first_finds : (One Other : ℕ → Method → Bool → Type 0) (last : ℕ) (one other : Option Node) → FindsBad One last one
    → FindsBad Other last other → FindsBad (Both One Other) last (first_found one other)
first_finds One Other last None None a b = λ row method inside le. (a row method inside le, b row method inside le)
first_finds One Other last one other a b = grind (arith, nat_tests, method_small)

-- where one fact holds another one does
abbrev Gives : (One Other : ℕ → Method → Bool → Type 0) → ℕ → Type 0
Gives One Other last = (row : ℕ) (method : Method) (inside : Bool) → row ≤ last → One row method inside → Other row method inside

-- another fact that says the same
finds_too : (One Other : ℕ → Method → Bool → Type 0) {last : ℕ} (found : Option Node) → Gives One Other last → Gives Other One last
    → FindsBad One last found → FindsBad Other last found
finds_too One Other None to back found = λ row method inside le. to row method inside le (found row method inside le)
finds_too One Other (Some bad) to back found = grind (arith, to, back, found.first, method_small)

-- the first number that is bad by one of four facts, which together say another
pub first_of_four : (A B C D All : ℕ → Method → Bool → Type 0) {last : ℕ} (a b c d : Option Node) {one other found : Option Node}
    → Gives (Both (Both A B) (Both C D)) All last → Gives All (Both (Both A B) (Both C D)) last → FindsBad A last a → FindsBad B last b
    → FindsBad C last c → FindsBad D last d → one ≡ first_found a b → other ≡ first_found c d → found ≡ first_found one other
    → FindsBad All last found
first_of_four A B C D All {last} a b c d {found = found} to back in_a in_b in_c in_d first second both =
    finds_too (Both (Both A B) (Both C D)) All found to back (rw (both, first, second) (first_finds (Both A B) (Both C D) last
    (first_found a b) (first_found c d) (first_finds A B last a b in_a in_b) (first_finds C D last c d in_c in_d)))

-- a fact of rows, asked of the nodes of one method
pub first_at : (Good : ℕ → Type 0) {last row : ℕ} {method : Method} {inside : Bool} → row ≤ last → (Good row → ⊥)
    → ((k : ℕ) → k < row → Good k) → IsFirstBad (At method inside Good) last (record { row = row; method = method; inside = inside })
first_at Good within bad before = record {
  within = within;
  is_bad = λ good. bad (good refl refl);
  first = λ k current is_open first same here.
      before k (omega (arith, first, ap method_code same, ap inside_code here));
}
