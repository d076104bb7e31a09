use Rattle.std.proofs.Common.{◌+◌, ◌-◌, ◌*◌, ◌/◌, ◌||◌, ap, ◌∙◌, arith}
use Rattle.pcl_bitmap.proofs.Names.{with_items_is, with_items, page_width, page_height, dot_of_row, raster_dot, width_small}
use Rattle.pcl_bitmap.proofs.Pictures.{lent_room}
use Rattle.pcl_bitmap.proofs.Inked.{IsDrawn, drawn}
use Rattle.pcl_bitmap.proofs.Spread.{squares_dot}
use Rattle.pcl_bitmap.proofs.OneInk.{black_stays}
use Rattle.pcl_bitmap.proofs.bitmap.Bitmap.paint_row.Goals as goal

-- the page after the row
painted : (c : goal.After-self-2-1) → let a = c.self.inside in
    IsDrawn a.size a.dpi a.bytes.items (with_items a.bytes c.paint_squares.new.page).items
    (λ px py before. raster_dot c.args.x c.args.y c.args.scale c.args.width c.args.row.now px py || before)
painted c =
    let a = c.self.inside in
    let args = c.args in
    let product = ap (λ n. n * c.from-2.result) c.from.ensures ∙ ap (λ n. args.width * n) c.from-2.ensures in
    drawn args.x args.y c.min.result c.min-2.result c.row_bytes-row_bytes.result
    (λ px _ before. dot_of_row args.row.now ((px - args.x) / args.scale) || before) _
    c.self.invariant.picture c.deref_mut.ensures.value (with_items_is a.bytes c.paint_squares.new.page (omega arith))
    c.paint_squares.auto.page c.paint_squares.ensures.in_bytes (omega arith) c.row_bytes-row_bytes.ensures c.paint_squares.ensures.dots
    (λ px py before. squares_dot (page_width a.size a.dpi) (page_height a.size a.dpi) args.x args.y c.min.result c.min-2.result args.scale
    args.width px py args.row.now before (omega arith) (omega arith) (omega arith) (omega arith) (omega arith))

pub invariant_of-self : goal.invariant_of-self
invariant_of-self c = record {
  picture = (painted c).picture;
  inked = black_stays (raster_dot c.args.x c.args.y c.args.scale c.args.width c.args.row.now)
      c.self.invariant.inked c.under_black-self-inside.ensures (painted c);
}

pub returns-clause-picture : goal.returns-clause-picture
returns-clause-picture c = (painted c).picture

pub returns-clause-dots : goal.returns-clause-dots
returns-clause-dots c = rw (← c.self.view_is) (painted c).dots

pub paint_squares-requires : goal.paint_squares-requires
paint_squares-requires c =
    let a = c.self.inside in
    let room = lent_room a.size a.dpi c.self.invariant.picture c.deref_mut.ensures.value (c.args.y + c.min-2.result) (omega arith)
    c.row_bytes-row_bytes.ensures in
    omega (arith, room, width_small a.size a.dpi)
