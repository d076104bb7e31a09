use Rattle.std.proofs.Common.{◌≡◌, ℕ, w32, ◌≤◌, ◌+◌, ◌*◌, ◌/◌, ◌||◌, length, ap, ◌⊎◌, arith}
use Rattle.pcl_bitmap.proofs.Names.{with_items_is, to_z-of_z, with_items, page_width, page_height, pattern_dot, width_small}
use Rattle.pcl_bitmap.proofs.Pictures.{lent_room}
use Rattle.pcl_bitmap.proofs.Inked.{IsDrawn, drawn}
use Rattle.pcl_bitmap.proofs.Cut.{line_or, seen_pattern, seen_row, pattern_off}
use Rattle.pcl_bitmap.proofs.OneInk.{black_stays}
use Rattle.pcl_bitmap.proofs.bitmap.Bitmap.blit.Goals as goal

-- the page after the pattern
painted : (c : goal.After-self-2-1) → let a = c.self.inside in
    IsDrawn a.size a.dpi a.bytes.items (with_items a.bytes c.or_pattern.new.page).items
    (λ px py before. pattern_dot c.args.x c.args.y c.args.scale c.args.width c.args.height c.args.rows.now px py || before)
painted c =
    let a = c.self.inside in
    let args = c.args in
    let x = c.start_and_skip-left.result in
    let y = c.start_and_skip-top.result in
    let across : c.from.result * c.args.scale ≡ c.args.width * c.args.scale = ap (λ n. n * c.args.scale) c.from.ensures in
    let down : c.from-2.result * c.args.scale ≡ c.args.height * c.args.scale = ap (λ n. n * c.args.scale) c.from-2.ensures in
    let edge_y = rw (to_z-of_z w32 args.y c.ranges.y) at c.start_and_skip-top.ensures.dots in
    drawn x.0 y.0 c.min.result c.min-2.result c.row_bytes-row_bytes.result
    (line_or args.rows.now x.0 y.0 x.1 y.1 args.scale c.div_ceil.result) _
    c.self.invariant.picture c.deref_mut.ensures.value (with_items_is a.bytes c.or_pattern.new.page (omega arith))
    c.or_pattern.auto.page c.or_pattern.ensures.in_bytes (omega arith) c.row_bytes-row_bytes.ensures c.or_pattern.ensures.dots
    (λ px py before.
    seen_pattern args.x args.y x.0 y.0 x.1 y.1 (page_width a.size a.dpi) (page_height a.size a.dpi) c.min.result c.min-2.result args.scale
    c.div_ceil.result args.width args.height px py args.rows.now before (omega arith) (omega arith) (omega arith) (omega arith)
    (rw (to_z-of_z w32 args.x c.ranges.x) at c.start_and_skip-left.ensures.dots px) (edge_y py))

pub invariant_of-self : goal.invariant_of-self
invariant_of-self c = record {
  picture = (painted c).picture;
  inked = black_stays (pattern_dot c.args.x c.args.y c.args.scale c.args.width c.args.height c.args.rows.now)
      c.self.invariant.inked c.under_black-self-inside.ensures (painted c);
}

pub returns-clause-picture : goal.returns-clause-picture
returns-clause-picture c = (painted c).picture

pub returns-clause-dots : goal.returns-clause-dots
returns-clause-dots c = rw (← c.self.view_is) (painted c).dots

pub returns-then-left-page_width-clause-dots : goal.returns-then-left-page_width-clause-dots
returns-then-left-page_width-clause-dots c =
    let args = c.args in
    let x = c.start_and_skip-left.result in
    let y = c.start_and_skip-top.result in
    let wide : ℕ = page_width c.self.inside.size c.self.inside.dpi in
    let high : ℕ = page_height c.self.inside.size c.self.inside.dpi in
    let across : c.width-page_width.result ≡ page_width c.self.inside.size c.self.inside.dpi = c.width-page_width.ensures in
    let down : c.height-page_height.result ≡ page_height c.self.inside.size c.self.inside.dpi = c.height-page_height.ensures in
    let off : (wide ≤ x.0) ⊎ (high ≤ y.0) = grind (arith, c.then-left-page_width.branch) in
    let edge_y = rw (to_z-of_z w32 args.y c.ranges.y) at c.start_and_skip-top.ensures.dots in
    rw (← c.self.view_is) (λ px py within on_page.
    rw (pattern_off args.x args.y x.0 y.0 x.1 y.1 wide high args.scale args.width args.height px py args.rows.now off
    (rw (to_z-of_z w32 args.x c.ranges.x) at c.start_and_skip-left.ensures.dots px) (edge_y py) within on_page))

pub or_pattern-requires : goal.or_pattern-requires
or_pattern-requires c =
    let a = c.self.inside in
    let room =
    lent_room a.size a.dpi c.self.invariant.picture c.deref_mut.ensures.value (c.start_and_skip-top.result.0 + c.min-2.result) (omega arith)
    c.row_bytes-row_bytes.ensures in
    let product : c.from-2.result * c.args.scale ≡ c.args.height * c.args.scale = ap (λ n. n * c.args.scale) c.from-2.ensures in
    let bytes : c.div_ceil.result ≡ (c.args.width + 7) / 8 = omega arith in
    let fits : c.args.height * c.div_ceil.result ≤ length c.args.rows.now =
    omega (arith, ap (λ n. c.args.height * n) bytes, c.requires.rows) in
    record {
      scale = omega arith;
      skipped = omega (arith, c.start_and_skip-left.ensures.small, c.start_and_skip-top.ensures.small);
      bits = λ j seen. seen_row j c.start_and_skip-top.result.1 c.args.scale c.args.height c.div_ceil.result (length c.args.rows.now)
          (omega arith) (omega arith) fits;
      narrow = omega (arith, width_small a.size a.dpi);
      wide = omega (arith, room);
      high = room.high;
      small = room.small;
      below = omega arith;
    }
