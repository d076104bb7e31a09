use Rattle.std.proofs.Common.{◌≡◌, rules, refl}
use Rattle.pcl_page.proofs.Names.{IsTrue, character_in, drawn_character, Situation, Performer, IsIn, IsFollowed, IsDrawn, IsInked}
use Rattle.pcl_page.proofs.Turns.{has_followed}
use Rattle.pcl_page.proofs.Printed.{character_printed, drawn_again, inked_by, inked_still}
use Rattle.pcl_page.proofs.performer.Performer.print_glyph.Goals as goal
use Rattle.pcl_page.proofs.performer.Performer.print_glyph.Goals.{then-not-is_inked+in_ok-follow_size+in_ok-ink_glyph, else-not-is_inked}

-- the character is drawn, now or before
is_drawn : (c : goal.After-pass_glyph) (s : Situation) → IsIn c.args.dpi s c.args.self.now → (IsTrue c.args.is_inked
    → IsInked (drawn_character c.args.dpi c.args.font (character_in c.args.glyph.now) c.args.here.x c.args.here.y) c.args.self.now)
    → (begun : Performer) × IsFollowed c.args.self.now.environment.size c.args.self.now begun
    × IsDrawn (drawn_character c.args.dpi c.args.font (character_in c.args.glyph.now) c.args.here.x c.args.here.y)
    begun c.if-not-is_inked.self
    × (c.if-not-is_inked.self.raster ≡ begun.raster)
is_drawn c s i inked =
    elim c.if-not-is_inked.branch [
      | then-not-is_inked+in_ok-follow_size+in_ok-ink_glyph w ↦
          let followed = rw w.size-size.ensures.value at w.in_ok-follow_size.ensures in
          rw w.self-is (w.follow_size.new.self, followed, w.in_ok-ink_glyph.ensures.drawn, w.in_ok-ink_glyph.ensures.raster)
      | else-not-is_inked w ↦
          let there = inked (search rules) in
          rw w.self-is (c.args.self.now, has_followed i there.marked, drawn_again refl there, refl)
    ]

-- and inked
is_inked : (c : goal.After-pass_glyph) → (IsTrue c.args.is_inked
    → IsInked (drawn_character c.args.dpi c.args.font (character_in c.args.glyph.now) c.args.here.x c.args.here.y) c.args.self.now)
    → IsInked (drawn_character c.args.dpi c.args.font (character_in c.args.glyph.now) c.args.here.x c.args.here.y) c.if-not-is_inked.self
is_inked c inked =
    elim c.if-not-is_inked.branch [
      | then-not-is_inked+in_ok-follow_size+in_ok-ink_glyph w ↦ rw w.self-is (inked_by refl w.in_ok-ink_glyph.ensures.drawn)
      | else-not-is_inked w ↦ rw w.self-is (inked (search rules))
    ]

pub returns-clause-printed : goal.returns-clause-printed
returns-clause-printed c = λ s code i inked.
    let d = is_drawn c s i inked in
    character_printed c.args.font (character_in c.args.glyph.now) code i c.requires d.1 d.2 d.3 c.pass_glyph.ensures

pub returns-clause-inked : goal.returns-clause-inked
returns-clause-inked c = λ inked. inked_still (is_inked c inked) c.pass_glyph.ensures
