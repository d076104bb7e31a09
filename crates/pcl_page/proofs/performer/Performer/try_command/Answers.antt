use Rattle.std.proofs.Common.{◌≤◌, ◌∙◌, Bool, cond, Option, None, refl, sym, arith}
use Rattle.pcl_page.proofs.Names.{err_from_is_err_and, view, Raster, raster_rows, ends_raster}
use Rattle.pcl_page.proofs.Turns.{prepared_in}
use Rattle.pcl_page.proofs.Steps.{counted_in, checked_as, checked_ignored, refused_by, checked_drawn, checked_undrawn}
use Rattle.pcl_page.specs.Situation.{after}
use Rattle.pcl_page.proofs.performer.Performer.try_command.Goals as goal

-- a raster that may have ended has no more rows than before
rows_left : (ends : Bool) (raster : Option Raster) → raster_rows (cond ends None raster) ≤ raster_rows raster
rows_left ends raster = grind arith

pub returns-in_default : goal.returns-in_default
unfolding after
returns-in_default g c = λ s i. (
  checked_as c.args.dpi (view c.args.command.now) s (omega (arith, i.performed)) (sym c.with_name.ensures ∙ c.in_default.is),
  refl,
)

pub invariant_of-self : goal.invariant_of-self
invariant_of-self g c =
    let old = c.args.self.now in
    record { few_pages = old.few_pages; few_commands = omega arith; few_rows = omega (arith, old.few_rows) }

pub draw-requires : goal.draw-requires
draw-requires g c =
    let old = c.args.self.now in
    let p = c.prepare.ensures in
    let same = c.in_ok-turn.ensures.rest in
    let few : raster_rows c.turn.new.self.raster ≤ raster_rows old.raster =
    rw (same.1, p.raster) (rows_left (ends_raster c.in-Some.operation) old.raster) in
    record { rows = omega (arith, few, old.few_rows, same.0 ∙ p.performed) }

pub returns-then-is_ignored : goal.returns-then-is_ignored
returns-then-is_ignored g c = λ s i.
    checked_ignored _ _ _ _ s c.args.self.now _ _ i (omega arith) c.args.self.now.few_pages (sym c.in-Some.ensures)
    (sym c.is_ignored.ensures ∙ c.if-is_ignored.true) (counted_in i refl refl refl refl refl refl refl refl)

pub returns-in_err-turn : goal.returns-in_err-turn
returns-in_err-turn g c = λ s i.
    let before = prepared_in (counted_in i refl refl refl refl refl refl refl refl) c.prepare.ensures in
    let p = err_from_is_err_and c.from_residual.result c.from_residual.ensures.1 in
    rw (p.1, p.2) (refused_by _ _ c.in-Some.operation (view c.args.command.now) s i (omega arith) (sym c.in-Some.ensures)
    (sym c.is_ignored.ensures ∙ c.if-is_ignored.false) c.turn.new.self _ _ _ _ refl (c.in_err-turn.ensures.turned _ before))

pub returns-in_err-draw : goal.returns-in_err-draw
returns-in_err-draw g c = λ s i.
    let before = prepared_in (counted_in i refl refl refl refl refl refl refl refl) c.prepare.ensures in
    let p = err_from_is_err_and c.from_residual-in_err-draw.result c.from_residual-in_err-draw.ensures.1 in
    rw (p.1, p.2) (checked_undrawn _ _ c.in-Some.operation (view c.args.command.now) s i (omega arith) (sym c.in-Some.ensures)
    (sym c.is_ignored.ensures ∙ c.if-is_ignored.false) c.turn.new.self c.draw.new.self _ _ _ c.in_err-draw.field-0.0 refl
    (c.in_ok-turn.ensures.turned _ before) (λ now there. c.in_err-draw.ensures now there))

pub returns : goal.returns
returns g c = λ s i.
    let before = prepared_in (counted_in i refl refl refl refl refl refl refl refl) c.prepare.ensures in
    checked_drawn _ _ c.in-Some.operation (view c.args.command.now) s i (omega arith) (sym c.in-Some.ensures)
    (sym c.is_ignored.ensures ∙ c.if-is_ignored.false) c.turn.new.self c.draw.new.self _ _ _ refl (c.in_ok-turn.ensures.turned _ before)
    (λ now there. c.in_ok-draw.ensures now there)
