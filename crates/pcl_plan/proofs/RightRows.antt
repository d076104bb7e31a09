-- The numbers after some rows are right, where those after more are.
use Rattle.std.proofs.Common.{◌≡◌, ℕ, ◌+◌, ◌<◌, ◌≤◌, Bool, true, false, List, [], ◌∷◌, length, drop, refl, sym, ap, subst, ◌∙◌, inl, inr, arith}
use Rattle.pcl_plan.proofs.Names.{cases_Bool, Method, Plain, method, AreWhite, Node, outside, IsRowRight, cost_method, cost_some, node}

-- ---- nodes

-- what holds in each method, inside a sequence and outside, holds of all nodes after this many rows
pub at_row : (P : Node → Type 0) (row : ℕ) → ((current : Method) (is_open : Bool) → P (node row current is_open)) → (a : Node) → a.row
    ≡ row → P a
at_row P row h a e = subst (λ (r : ℕ). P (node r a.method a.inside)) (sym e) (h a.method a.inside)

-- ---- rows that stay right

pub row_stays : {width : ℕ} {rows : List (List ℕ)} {number other : Node → ℕ} {row : ℕ} → ((a : Node) → row ≤ a.row → other a ≡ number a)
    → IsRowRight width rows number row → IsRowRight width rows other row
row_stays {width} {rows} {row} same is = record {
  steps = λ a token b at l.
      omega (arith, is.steps a token b at l, same a (omega arith), same b (grind (arith, l)));
  ends = λ a at end. same a (omega arith) ∙ is.ends a at end;
  attained = λ a at. (let w = is.attained a at in (w.0, w.1, w.2 ∙ sym (same a (omega arith))));
  falls = λ current inside_page white.
      let here = λ (is_open : Bool). same (node row current is_open) (omega arith) in
      let next = λ (is_open : Bool). same (node (row + 1) current is_open) (omega arith) in
      omega (arith, is.falls current inside_page white, here true, here false, next true, next false);
  small = λ a at. omega (arith, is.small a at, same a (omega arith));
}

-- ---- where the rest is white

abbrev pub end_number : Bool → ℕ
end_number true = 1
end_number false = 0

end_small : (is_open : Bool) → end_number is_open ≤ 1
end_small is_open = grind arith

pub white_row_right : {width : ℕ} {rows : List (List ℕ)} {number : Node → ℕ} {row : ℕ} → AreWhite (drop row rows)
    → ((a : Node) → a.row ≡ row → number a ≡ end_number a.inside)
    → ((current : Method) → row < length rows → outside number (row + 1) current ≡ 0) → IsRowRight width rows number row
white_row_right white is next = record {
  steps = λ a token b at l. omega (arith, is a at, end_small a.inside, cost_some token);
  ends = λ a at end. is a at ∙ ap end_number end.0;
  attained = λ a at.
      elim (cases_Bool a.inside) [
        | inl goes ↦ (
          method [] Plain true ∷ [],
          (node a.row Plain false, (goes, (tt, refl), refl), (refl, rw at white)),
          omega (arith, is a at, ap end_number goes, cost_method [] Plain true),
        )
        | inr ended ↦ ([], (ended, rw at white), sym (is a at ∙ ap end_number ended))
      ];
  falls = λ current inside_page first. omega (arith, next current inside_page);
  small = λ a at. omega (arith, is a at, end_small a.inside);
}
