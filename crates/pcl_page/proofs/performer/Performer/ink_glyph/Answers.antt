use Rattle.std.proofs.Common.{rules, FitsSigned, to_z, of_z, ◌≡◌, ◌+ℤ◌, ◌-ℤ◌, ◌*ℤ◌, ◌∙◌, pos, refl, ℕ}
use Rattle.pcl_page.proofs.Names.{character_in, to_z-of_z, w16, w32, dots_per_bit}
use Rattle.pcl_page.proofs.Painted.{or_is}
use Rattle.pcl_page.proofs.performer.Performer.ink_glyph.Goals as goal

pub returns-clause-drawn : goal.returns-clause-drawn
returns-clause-drawn c =
    let dpi = c.args.dpi in
    let here = c.args.here in
    let font = c.args.font in
    let g = c.args.glyph.now in
    let fits_left : FitsSigned w16 g.left = search rules in
    let fits_top : FitsSigned w16 g.top = search rules in
    let fits_x : FitsSigned w32 c.right_of-x.result = search rules in
    let fits_y : FitsSigned w32 c.above-y.result = search rules in
    let left : to_z w32 (of_z w32 c.right_of-x.result) ≡ pos here.x +ℤ g.left *ℤ pos (dots_per_bit dpi font.resolution) =
    rw (to_z-of_z w32 c.right_of-x.result fits_x, c.right_of-x.ensures, to_z-of_z w16 g.left fits_left) refl in
    let top : to_z w32 (of_z w32 c.above-y.result) ≡ pos here.y -ℤ g.top *ℤ pos (dots_per_bit dpi font.resolution) =
    rw (to_z-of_z w32 c.above-y.result fits_y, c.above-y.ensures, to_z-of_z w16 g.top fits_top) refl in
    let rows : c.as_slice.result.now ≡ (character_in g).rows = c.as_slice.ensures ∙ c.in_ok-rows.ensures.rows in
    let dots = λ (x y : ℕ). rw (left, top, c.dots_per_bit-scale.ensures.value, rows, or_is) at (c.blit.ensures.dots x y) in
    search (rules, c.blit.ensures, dots)
