use Rattle.std.proofs.Common.{◌≡◌, ℕ, Option, IfSome, false, ◌≤◌, nat_eq, rules, sym, subst, ap, ◌∙◌}
use Rattle.pcl_macros.proofs.Names.{nat_eq_equiv, lookup-filter-values, option_filter, lookup, option_map, filter-RetainsPairs, control, begun_in, Body, Temporary}
use Rattle.pcl_macros.proofs.Tables.{found, follows_only, kept, kept_permanent}
use Rattle.pcl_macros.proofs.table.Macros.forget_temporary.Goals as goal

-- what is left of each body
left : (c : goal.After-self-1) (q : ℕ) → lookup (nat_eq q) c.retain.new.self.entries
    ≡ option_filter (λ (b : Body). b.is_permanent) (lookup (nat_eq q) c.self.inside.bodies.entries)
left c q =
    ap (lookup (nat_eq q))
    (filter-RetainsPairs _ (λ (e : ℕ × Body). e.1.is_permanent) _ (λ k v b w g call. search rules) _ _ c.retain.ensures.filtered)
    ∙ lookup-filter-values nat_eq_equiv (λ (b : Body). b.is_permanent) q c.self.inside.bodies.entries c.self.invariant.unique

pub invariant_of-self : goal.invariant_of-self
invariant_of-self c = record {
  unique = c.retain.ensures.unique;
  earlier = λ q. subst (λ (o : Option Body). IfSome o (λ b. b.is_permanent ≡ false → b.deletions ≤ 0)) (sym (left c q))
      (kept_permanent (lookup (nat_eq q) c.self.inside.bodies.entries));
}

pub returns : goal.returns
returns c =
    let d = c.self.inside.deletions in
    let es = c.self.inside.bodies.entries in
    follows_only d 0 es c.retain.new.self.entries (option_map begun_in c.self.inside.begun) (control Temporary 0)
    c.self.invariant.unique c.retain.ensures.unique c.self.view_is (λ q. ap (found 0) (left c q) ∙ kept d (lookup (nat_eq q) es))
