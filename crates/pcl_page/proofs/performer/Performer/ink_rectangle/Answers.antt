use Rattle.std.proofs.Common.{◌≡◌, ◌/◌, ℕ, rules}
use Rattle.pcl_page.proofs.Names.{dot_at, dots_of}
use Rattle.pcl_page.proofs.performer.Performer.ink_rectangle.Goals as goal

pub returns-clause-drawn : goal.returns-clause-drawn
returns-clause-drawn c =
    let dpi = c.args.dpi in
    let s = c.args.self.now.environment in
    let left : c.x.result / c.unit-2.result ≡ dot_at dpi s.cursor.x = cc (c.x.ensures.value, c.unit-2.ensures) in
    let top : c.y.result / c.unit-3.result ≡ dot_at dpi s.cursor.y = cc (c.y.ensures.value, c.unit-3.ensures) in
    let width : c.div_ceil-width.result ≡ dots_of dpi s.rectangle_width =
    cc (c.div_ceil-width.ensures, c.rectangle_width.ensures.value, c.from-unit.ensures, c.unit.ensures) in
    let height : c.div_ceil-height.result ≡ dots_of dpi s.rectangle_height =
    cc (c.div_ceil-height.ensures, c.rectangle_height.ensures.value, c.from-unit.ensures, c.unit.ensures) in
    let dots = λ (x y : ℕ). rw (left, top, width, height) at (c.fill.ensures.dots x y) in
    search (rules, c.fill.ensures, dots)
