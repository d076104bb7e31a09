use Rattle.std.proofs.Common.{◌≡◌, ◌∙◌, ◌+◌, ◌*◌, ℕ, true, Some, refl, sym, ap, rules}
use Rattle.pcl_page.proofs.Names.{Dpi, units_per_dot, Settings, put, Page, Raster, ends_raster, settings_below}
use Rattle.pcl_page.proofs.performer.Performer.prepare.Goals as goal
use Rattle.pcl_page.proofs.performer.Performer.prepare.Goals.{in-Some, in_default}

-- below the last row the cursor stands at the raster's left end
put_below : (dpi : Dpi) (s : Settings) (r : Raster) {new : Settings} {x y : ℕ} → new ≡ put (record { x = x; y = y }) s
    → x ≡ r.left * units_per_dot dpi → y ≡ (r.top + r.rows * r.scale) * units_per_dot dpi → new ≡ settings_below dpi (Some r) s
put_below dpi s r e across down = rw (e, across, down) refl

pub returns : goal.returns
returns c =
    let dpi = c.args.dpi in
    let old = c.args.self.now in
    let new = c.match-self.self in
    let ends : ends_raster c.args.operation ≡ true = sym (sym c.if-not-ends_raster.false ∙ c.ends_raster.ensures) in
    let settings : new.1.0 ≡ settings_below dpi old.raster old.environment = elim c.match-self.branch [
      | in-Some w ↦ rw (w.self-is, w.in-Some.is)
          (put_below dpi old.environment w.in-Some.raster w.move_to.ensures w.below-x.ensures.0 w.below-x.ensures.1)
      | in_default w ↦ rw (w.self-is, w.in_default.is) refl
    ] in
    let kept : (new.1.1.1.0 ≡ old.fonts) × (new.1.1.1.1.0 ≡ old.page) × (new.1.1.1.1.1.0 ≡ old.is_marked)
    × (new.1.1.1.1.1.1.0 ≡ old.ejected) × (new.1.1.1.1.1.1.1.0 ≡ old.performed)
    × (new.1.1.1.1.1.1.1.1.0 ≡ old.asks) = elim c.match-self.branch [
      | in-Some w ↦ rw w.self-is (refl, refl, refl, refl, refl, refl)
      | in_default w ↦ rw w.self-is (refl, refl, refl, refl, refl, refl)
    ] in
    search (rules, ends, settings, kept, ap (λ (p : Page). p.bitmap) kept.1)
