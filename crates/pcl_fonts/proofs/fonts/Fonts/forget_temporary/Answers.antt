use Rattle.std.proofs.Common.{◌≡◌, ℕ, Option, IfSome, nat_eq, rules, refl, sym, subst, ap, ◌∙◌}
use Rattle.pcl_fonts.proofs.Names.{nat_eq_equiv, lookup-filter-values, option_filter, lookup, filter-RetainsPairs, control, Entry, Temporary}
use Rattle.pcl_fonts.proofs.Tables.{IsEarlier, seen, live, follows, temporary_steps, kept, kept_permanent}
use Rattle.pcl_fonts.proofs.fonts.Fonts.forget_temporary.Goals as goal

-- what is left of each entry
left : (c : goal.After-self-1) (q : ℕ) → lookup (nat_eq q) c.retain.new.self.entries
    ≡ option_filter (λ (e : Entry). e.is_permanent) (lookup (nat_eq q) c.self.inside.entries.entries)
left c q =
    ap (lookup (nat_eq q))
    (filter-RetainsPairs _ (λ (e : ℕ × Entry). e.1.is_permanent) _ (λ k v b w g call. search rules) _ _ c.retain.ensures.filtered)
    ∙ lookup-filter-values nat_eq_equiv (λ (e : Entry). e.is_permanent) q c.self.inside.entries.entries c.self.invariant.unique

pub invariant_of-self : goal.invariant_of-self
invariant_of-self c = record {
  unique = c.retain.ensures.unique;
  earlier = λ q. subst (λ (o : Option Entry). IfSome o (IsEarlier 0)) (sym (left c q))
      (kept_permanent (lookup (nat_eq q) c.self.inside.entries.entries));
}

pub returns : goal.returns
returns c =
    let d = c.self.inside.deletions in
    let es = c.self.inside.entries.entries in
    follows (control Temporary 0 0) (seen d es c.self.invariant.unique c.self.view_is (λ q. refl))
    (seen 0 c.retain.new.self.entries c.retain.ensures.unique refl (λ q. ap (live 0) (left c q) ∙ kept d (lookup (nat_eq q) es)))
    (λ q. temporary_steps q _)
