use Rattle.std.proofs.Common.{Ok, refl, sym, subst, arith, true≢false, ◌∙◌}
use Rattle.pcl_fonts.proofs.Names.{HasCharacter, Entry}
use Rattle.std.proofs.lemmas.Result.{err_from_is_err_and}
use Rattle.pcl_fonts.proofs.Refusals.{is_refused}
use Rattle.pcl_fonts.proofs.Tables.{view, live_when, follows_at, same_to_see, was_there, character_steps, unchanged, written, becomes_of, earlier_becomes}
use Rattle.pcl_fonts.proofs.fonts.Fonts.character.Goals as goal
use Rattle.pcl_fonts.proofs.fonts.Fonts.character.Goals.{in-Ok, in-Err}

pub returns-in_default : goal.returns-in_default
returns-in_default c =
    let d = c.self.inside.deletions in
    let es = c.self.inside.entries.entries in
    let changes = unchanged d es c.args.id c.self.invariant.unique c.self.view_is (sym c.in_default.ensures.value) in
    subst (λ n. HasCharacter c.args.profile c.args.id c.args.code c.args.bytes.now (Ok tt) c.args.self.now (view d n.entries))
    (sym c.get_mut.follows.holds-at-none) (
      λ some. absurd (true≢false (sym some ∙ was_there c.args.id changes)),
      follows_at changes (character_steps c.args.id c.args.code _ _ refl (λ its. grind arith)),
    )

pub returns-then-not-is_there : goal.returns-then-not-is_there
returns-then-not-is_there c =
    let d = c.self.inside.deletions in
    let e = c.in-Some.entry.now in
    let none = live_when d e c.if-not-is_there.ensures in
    let changes = written d c.self.inside.entries c.args.id c.self.invariant.unique c.self.view_is (sym c.in-Some.ensures.value)
    (c.get_mut.follows.holds e) none none in (
      λ some. absurd (true≢false (sym some ∙ was_there c.args.id changes)),
      follows_at changes (character_steps c.args.id c.args.code _ _ refl (λ its. grind arith)),
    )

pub invariant_of-self-in_err-glyph : goal.invariant_of-self-in_err-glyph
invariant_of-self-in_err-glyph c =
    let m = c.self.inside.entries in
    let e = c.in-Some.entry.now in
    let there = sym c.in-Some.ensures.value in
    let holds = c.get_mut.follows.holds e in
    record {
      unique = holds.4;
      earlier = earlier_becomes c.self.inside.deletions m.entries (c.get_mut.follows.lender e).entries c.args.id e there
          (becomes_of m c.args.id there holds) (λ earlier. earlier) c.self.invariant.earlier;
    }

pub returns-in_err-glyph : goal.returns-in_err-glyph
returns-in_err-glyph c =
    let d = c.self.inside.deletions in
    let e = c.in-Some.entry.now in
    let some = live_when d e c.if-not-is_there.ensures in
    let changes = written d c.self.inside.entries c.args.id c.self.invariant.unique c.self.view_is (sym c.in-Some.ensures.value)
    (c.get_mut.follows.holds e) some some in
    let p = err_from_is_err_and c.from_residual.result c.from_residual.ensures.1 in
    let fault = c.in_err-glyph.field-0.0 in
    rw (p.1, p.2) (is_refused c.args.profile c.args.id c.args.code c.args.bytes.now _ _ fault (was_there c.args.id changes)
    c.in_err-glyph.ensures (same_to_see changes refl (λ its. refl)))

pub invariant_of-self-2 : goal.invariant_of-self-2
invariant_of-self-2 c =
    let m = c.self.inside.entries in
    let f : Entry = record c.in-Some.entry.now { characters = c.insert.new.self } in
    let there = sym c.in-Some.ensures.value in
    let holds = c.get_mut.follows.holds f in
    record {
      unique = holds.4;
      earlier = earlier_becomes c.self.inside.deletions m.entries (c.get_mut.follows.lender f).entries c.args.id f there
          (becomes_of m c.args.id there holds) (λ earlier. earlier) c.self.invariant.earlier;
    }

pub returns : goal.returns
returns c =
    let d = c.self.inside.deletions in
    let e = c.in-Some.entry.now in
    let f : Entry = record e { characters = c.insert.new.self } in
    let table = view d (c.get_mut.follows.lender f).entries in
    let changes = written d c.self.inside.entries c.args.id c.self.invariant.unique c.self.view_is (sym c.in-Some.ensures.value)
    (c.get_mut.follows.holds f) (live_when d e c.if-not-is_there.ensures) (live_when d f c.if-not-is_there.ensures) in
    elim c.match-insert.branch [
      | in-Ok w ↦
          subst (λ r. HasCharacter c.args.profile c.args.id c.args.code c.args.bytes.now r c.args.self.now table) (sym w.result-is) (
            λ _. c.in_ok-glyph.ensures.0,
            follows_at changes
                (character_steps c.args.id c.args.code _ _ refl
                (λ its. grind (arith, w.in-Ok.ensures.updates.0 its, c.in_ok-glyph.ensures.1))),
          )
      | in-Err w ↦
          subst (λ r. HasCharacter c.args.profile c.args.id c.args.code c.args.bytes.now r c.args.self.now table) (sym w.result-is)
          (same_to_see changes refl (λ its. rw w.in-Err.ensures.err))
    ]
