use Rattle.std.proofs.Common.{◌≡◌, ◌+◌, ◌*◌, ◌||◌, ◌∙◌, List, ℕ, sym, ap, subst, arith}
use Rattle.pcl_page.proofs.Names.{Picture, dot, Raster, row_sent, row_mark, cleared_past, decoded, the_view}
use Rattle.pcl_page.proofs.Painted.{written, painted_dot, unpainted_dot}
use Rattle.pcl_page.proofs.raster.Raster.send.Goals as goal
use Rattle.pcl_page.proofs.raster.Raster.send.Goals.{then-is_below_height, else-is_below_height}

pub returns-clause-dots : goal.returns-clause-dots
returns-clause-dots c = λ x y wide high.
    subst (λ (r : Raster). dot c.if-is_below_height.bitmap x y
    ≡ ((row_mark (row_sent c.args.method c.args.bytes.now r) r).covers x y || dot c.args.bitmap.now x y)) c.self.view_is
    (elim c.if-is_below_height.branch [
      | then-is_below_height w ↦
          let r = the_view c.self.inside in
          let row : w.deref-then-is_below_height.result.now ≡ row_sent c.args.method c.args.bytes.now r =
          w.deref-then-is_below_height.ensures.value ∙ written c.self.inside.row.items (omega (arith, c.decode_within.auto.row))
          ∙ c.decode_within.ensures
          ∙ ap (λ (seed : List ℕ). cleared_past c.self.inside.width (decoded c.args.method seed c.args.bytes.now)) c.deref.ensures.value in
          let place : w.from.result + c.self.inside.rows * w.from-then-is_below_height.result ≡ r.top + r.rows * r.scale =
          ap (λ (n : ℕ). n + c.self.inside.rows * w.from-then-is_below_height.result) w.from.ensures
          ∙ ap (λ (n : ℕ). c.self.inside.top + c.self.inside.rows * n) w.from-then-is_below_height.ensures in
          ap (λ (b : Picture). dot b x y) w.bitmap-is ∙ painted_dot r x y
          (dot c.args.bitmap.now x y) (w.paint_row.ensures.dots x y wide high)
          (sym c.is_below_height.ensures ∙ w.if-is_below_height.true) place row
      | else-is_below_height w ↦
          let r = the_view c.self.inside in
          ap (λ (b : Picture). dot b x y) w.bitmap-is ∙ unpainted_dot r (row_sent c.args.method c.args.bytes.now r) x y
          (sym c.is_below_height.ensures ∙ w.if-is_below_height.false)
    ])
