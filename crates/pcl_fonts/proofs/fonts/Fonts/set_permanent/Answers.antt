use Rattle.pcl_fonts.proofs.Names.{refl, sym, subst, control, Follows, Entry}
use Rattle.pcl_fonts.proofs.Tables.{view, live_when, sent_now, follows_at, unchanged, written, mark_steps, making}
use Rattle.pcl_fonts.proofs.fonts.Fonts.set_permanent.Goals as goal

pub returns-in_default : goal.returns-in_default
returns-in_default c =
    let d = c.self.inside.deletions in
    let p = c.args.is_permanent in
    subst (λ n. Follows c.args.self.now (view d n.entries) (control (making p) c.args.id 0)) (sym c.get_mut.follows.holds-at-none)
    (follows_at
    (unchanged d c.self.inside.entries.entries c.args.id c.self.invariant.unique c.self.view_is (sym c.in_default.ensures.value))
    (mark_steps p c.args.id _ _ refl (λ its. refl)))

pub returns-then-not-is_there : goal.returns-then-not-is_there
returns-then-not-is_there c =
    let d = c.self.inside.deletions in
    let e = c.in-Some.entry.now in
    let none = live_when d e c.if-not-is_there.ensures in
    follows_at
    (written d c.self.inside.entries c.args.id c.self.invariant.unique c.self.view_is (sym c.in-Some.ensures.value)
    (c.get_mut.follows.holds e) none none) (mark_steps c.args.is_permanent c.args.id _ _ refl (λ its. refl))

pub returns : goal.returns
returns c =
    let d = c.self.inside.deletions in
    let e = c.in-Some.entry.now in
    let p = c.args.is_permanent in
    let f : Entry = record { info = e.info; font_type = e.font_type; is_permanent = p; deletions = d; characters = e.characters } in
    follows_at
    (written d c.self.inside.entries c.args.id c.self.invariant.unique c.self.view_is (sym c.in-Some.ensures.value)
    (c.get_mut.follows.holds f) (live_when d e c.if-not-is_there.ensures) (sent_now d f refl))
    (mark_steps p c.args.id _ _ refl (λ its. refl))
