use Rattle.std.proofs.Common.{◌≡◌, refl, Bool, Some, None, cond, sym, subst, ap, ◌∙◌}
use Rattle.pcl_macros.proofs.Names.{option_map, control, Follows, begun_in, macro_in, Body}
use Rattle.pcl_macros.proofs.Tables.{view, found, follows_only, making, stays, becomes_of, mark, there_now}
use Rattle.pcl_macros.proofs.table.Macros.set_permanent.Goals as goal

pub returns-in_default : goal.returns-in_default
returns-in_default c =
    let d = c.self.inside.deletions in
    let es = c.self.inside.bodies.entries in
    let p = c.args.is_permanent in
    let begun = option_map begun_in c.self.inside.begun in
    let none = sym c.in_default.ensures.value in
    subst (λ n. Follows c.args.self.now (view d n.entries begun) (control (making p) c.args.id) × (begun ≡ c.args.self.now.begun))
    (sym c.get_mut.follows.holds-at-none)
    (follows_only d d es es begun (control (making p) c.args.id) c.self.invariant.unique c.self.invariant.unique c.self.view_is
    (mark p d es es c.args.id None None (ap (found d) none) (stays es c.args.id none) refl))

pub returns-then-not-is_there : goal.returns-then-not-is_there
returns-then-not-is_there c =
    let d = c.self.inside.deletions in
    let m = c.self.inside.bodies in
    let e = c.in-Some.body.now in
    let n = c.get_mut.follows.lender e in
    let p = c.args.is_permanent in
    let there = sym c.in-Some.ensures.value in
    let holds = c.get_mut.follows.holds e in
    let none = ap (λ (t : Bool). option_map macro_in (cond t (Some e) None)) (sym c.if-not-is_there.ensures) in
    follows_only d d m.entries n.entries (option_map begun_in c.self.inside.begun) (control (making p) c.args.id) c.self.invariant.unique
    holds.4 c.self.view_is
    (mark p d m.entries n.entries c.args.id (Some e) None (ap (found d) there ∙ none) (becomes_of m c.args.id there holds) none)

pub returns : goal.returns
returns c =
    let d = c.self.inside.deletions in
    let m = c.self.inside.bodies in
    let e = c.in-Some.body.now in
    let p = c.args.is_permanent in
    let f : Body = record { from = e.from; to = e.to; is_permanent = p; deletions = d } in
    let n = c.get_mut.follows.lender f in
    let there = sym c.in-Some.ensures.value in
    let holds = c.get_mut.follows.holds f in
    let some = ap (λ (t : Bool). option_map macro_in (cond t (Some e) None)) (sym c.if-not-is_there.ensures) in
    follows_only d d m.entries n.entries (option_map begun_in c.self.inside.begun) (control (making p) c.args.id) c.self.invariant.unique
    holds.4 c.self.view_is
    (mark p d m.entries n.entries c.args.id (Some f) _ (ap (found d) there ∙ some) (becomes_of m c.args.id there holds)
    (there_now d e.from e.to p))
