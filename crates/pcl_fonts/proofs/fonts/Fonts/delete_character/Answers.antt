use Rattle.pcl_fonts.proofs.Names.{arith, refl, sym, subst, control, Follows, Entry}
use Rattle.pcl_fonts.specs.declared.fonts.FontControl.TheVariants.{Character}
use Rattle.pcl_fonts.proofs.Tables.{view, live_when, follows_at, unchanged, written, no_more_steps}
use Rattle.pcl_fonts.proofs.fonts.Fonts.delete_character.Goals as goal

pub returns-in_default : goal.returns-in_default
returns-in_default c =
    let d = c.self.inside.deletions in
    subst (λ n. Follows c.args.self.now (view d n.entries) (control Character c.args.id c.args.code)) (sym c.get_mut.follows.holds-at-none)
    (follows_at
    (unchanged d c.self.inside.entries.entries c.args.id c.self.invariant.unique c.self.view_is (sym c.in_default.ensures.value))
    (no_more_steps c.args.id c.args.code _ _ refl (λ its. grind arith)))

pub returns-then-not-is_there : goal.returns-then-not-is_there
returns-then-not-is_there c =
    let d = c.self.inside.deletions in
    let e = c.in-Some.entry.now in
    let none = live_when d e c.if-not-is_there.ensures in
    follows_at
    (written d c.self.inside.entries c.args.id c.self.invariant.unique c.self.view_is (sym c.in-Some.ensures.value)
    (c.get_mut.follows.holds e) none none) (no_more_steps c.args.id c.args.code _ _ refl (λ its. grind arith))

pub returns : goal.returns
returns c =
    let d = c.self.inside.deletions in
    let e = c.in-Some.entry.now in
    let f : Entry = record e { characters = c.swap_remove.new.self } in
    follows_at
    (written d c.self.inside.entries c.args.id c.self.invariant.unique c.self.view_is (sym c.in-Some.ensures.value)
    (c.get_mut.follows.holds f) (live_when d e c.if-not-is_there.ensures) (live_when d f c.if-not-is_there.ensures))
    (no_more_steps c.args.id c.args.code _ _ refl (λ its. grind (arith, c.swap_remove.ensures.updates.0 its)))
