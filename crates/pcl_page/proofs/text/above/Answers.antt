use Rattle.std.proofs.Common.{rules, FitsSigned, to_z, of_z, ◌∙◌, ◌-ℤ◌, ◌*ℤ◌, pos, ℤ, ap, arith}
use Rattle.pcl_page.proofs.Names.{to_z_pos, to_z-of_z, w16, w32, dots_per_bit}
use Rattle.pcl_page.proofs.text.above.Goals as goal

pub returns : goal.returns
returns c =
    let bits : FitsSigned w16 c.args.bits = search rules in
    let spread : FitsSigned w32 c.spread.result = search rules in
    let fits : FitsSigned w32 (to_z w32 c.args.dot -ℤ to_z w32 (of_z w32 c.spread.result)) = search rules in
    to_z-of_z w32 (to_z w32 c.args.dot -ℤ to_z w32 (of_z w32 c.spread.result)) fits
    ∙ ap (λ (z : ℤ). z -ℤ to_z w32 (of_z w32 c.spread.result)) (to_z_pos w32 c.args.dot (omega arith))
    ∙ ap (λ (z : ℤ). pos c.args.dot -ℤ z) (to_z-of_z w32 c.spread.result spread ∙ c.spread.ensures.value)
    ∙ ap (λ (z : ℤ). pos c.args.dot -ℤ z *ℤ pos (dots_per_bit c.args.dpi c.args.font.resolution)) (to_z-of_z w16 c.args.bits bits)
