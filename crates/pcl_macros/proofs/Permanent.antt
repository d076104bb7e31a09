-- Whether a macro is there that is permanent.
use Rattle.std.proofs.Common.{◌≡◌, ℕ, Bool, true, false, nat_eq, List, [], ◌∷◌, Option, None, Some, is_some, IfSome, All, get_or, refl, sym, ◌∙◌, arith}
use Rattle.std.specs.List.{list_any}
use Rattle.std.specs.Map.{values_of}
use Rattle.std.proofs.lemmas.Bool.{false≢true}
use Rattle.std.proofs.lemmas.List.Folds.{list_any_at, list_any_none}
use Rattle.std.proofs.lemmas.Map.Views.{All-values_from_lookup, IfSome-lookup_from_All}
use Rattle.pcl_macros.specs.History.{body_after, id_of, has_permanent}
use Rattle.pcl_macros.proofs.Names.{eqb-true, nat_eq_equiv, IsDistinct, keys_of, lookup, MacroEvent, defined, control, if_permanent, Begun, MacroTable, Holds, Body}
use Rattle.pcl_macros.proofs.Tables.{Entries, view, found, macro_of}

-- the macro of an ID is permanent
abbrev is_kept : List MacroEvent → ℕ → Bool
is_kept history id = is_some (if_permanent (body_after history id))

-- a macro that is there was defined: an event of the history is for its ID
sent : (whole history : List MacroEvent) (id : ℕ) → is_some (body_after history id) ≡ true → is_kept whole id ≡ true
    → list_any (λ event. is_kept whole (id_of event)) history ≡ true
sent whole [] id there kept = absurd (false≢true there)
sent whole (defined of from to ∷ older) id there kept = grind (arith, eqb-true of id, kept, sent whole older id, there)
sent whole (control what of ∷ older) id there kept = grind (arith, eqb-true of id, kept, sent whole older id, there)

kept_sent : (history : List MacroEvent) (id : ℕ) → is_kept history id ≡ true → has_permanent history ≡ true
kept_sent history id kept = sent history history id (grind (arith, kept)) kept

none_kept : (whole history : List MacroEvent) → ((id : ℕ) → is_kept whole id ≡ false)
    → list_any (λ event. is_kept whole (id_of event)) history ≡ false
none_kept whole [] none = refl
none_kept whole (event ∷ older) none = grind (arith, none (id_of event), none_kept whole older none)

not_true : (b : Bool) → (b ≡ true → ⊥) → b ≡ false
not_true false n = refl
not_true true n = absurd (n refl)

all_false : {X : Type 0} (test : X → Bool) (xs : List X) → list_any test xs ≡ false → All (λ x. test x ≡ false) xs
all_false test xs none = λ k d lt. not_true (test (get_or xs k d)) (λ e. false≢true (sym none ∙ list_any_at test xs k d lt e))

-- a body by what the history says of its ID
kept_as : (deletions : ℕ) (body : Option Body) (history : List MacroEvent) (id : ℕ) → found deletions body ≡ body_after history id
    → is_kept history id ≡ false → IfSome body (λ b. b.is_permanent ≡ false)
kept_as deletions None history id is none = tt
kept_as deletions (Some b) history id is none = grind (arith, is, none)

unkept_as : (deletions : ℕ) (body : Option Body) (history : List MacroEvent) (id : ℕ) → found deletions body ≡ body_after history id
    → IfSome body (λ b. b.is_permanent ≡ false) → is_kept history id ≡ false
unkept_as deletions None history id is none = grind (arith, is)
unkept_as deletions (Some b) history id is none = grind (arith, is, none)

module _ (deletions : ℕ) (es : Entries) (begun : Option Begun) {table : MacroTable} (history : List MacroEvent)
    (distinct : IsDistinct nat_eq (keys_of es)) (is : view deletions es begun ≡ table) (holds : Holds table history) where
  of_id : (id : ℕ) → found deletions (lookup (nat_eq id) es) ≡ body_after history id
  of_id id = macro_of deletions es begun id distinct is refl ∙ holds id

  by_history : (b : Bool) → has_permanent history ≡ b → list_any (λ (e : Body). e.is_permanent) (values_of es) ≡ b
  by_history false none =
      list_any_none (λ (e : Body). e.is_permanent) (values_of es)
      (All-values_from_lookup nat_eq_equiv (λ (e : Body). e.is_permanent ≡ false) es
      distinct (λ id. kept_as deletions (lookup (nat_eq id) es) history id (of_id id) (unkept id (is_kept history id) refl)))
    where
      unkept : (id : ℕ) (b : Bool) → is_kept history id ≡ b → is_kept history id ≡ false
      unkept id false e = e
      unkept id true e = absurd (false≢true (sym none ∙ kept_sent history id e))
  by_history true some = by_entries (list_any (λ (e : Body). e.is_permanent) (values_of es)) refl
    where
      by_entries : (b : Bool) → list_any (λ (e : Body). e.is_permanent) (values_of es) ≡ b
          → list_any (λ (e : Body). e.is_permanent) (values_of es) ≡ true
      by_entries true e = e
      by_entries false e = absurd (false≢true (sym (none_kept history history (λ id. unkept_as deletions (lookup (nat_eq id) es) history id
          (of_id id) (IfSome-lookup_from_All (λ (e : Body). e.is_permanent ≡ false) (nat_eq id) es
          (all_false (λ (e : Body). e.is_permanent) (values_of es) e)))) ∙ some))

  pub some_permanent : list_any (λ (e : Body). e.is_permanent) (values_of es) ≡ has_permanent history
  some_permanent = by_history (has_permanent history) refl
