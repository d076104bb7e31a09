use Rattle.std.proofs.Common.{◌≡◌, ℕ, ◌<◌, ◌+◌, if◌then◌else◌, sym, ap, ◌∙◌, arith}
use Rattle.pcl_bitmap.proofs.Names.{with_items_is, with_items, page_width, page_height, dot, is_black_ink, rectangle_dot}
use Rattle.pcl_bitmap.proofs.Pictures.{picture_of, lent_room}
use Rattle.pcl_bitmap.proofs.Inked.{IsDrawn, drawn, clipped}
use Rattle.pcl_bitmap.proofs.OneInk.{has_ink}
use Rattle.pcl_bitmap.proofs.bitmap.Bitmap.fill.Goals as goal

-- the rectangle that is filled, cut at the page's edges
same_rectangle : (c : goal.After-self-2-1) (px py : ℕ)
    → let a = c.self.inside in px < page_width a.size a.dpi → py < page_height a.size a.dpi
    → rectangle_dot c.args.x c.args.y c.min.result c.min-2.result px py ≡ rectangle_dot c.args.x c.args.y c.args.w c.args.h px py
same_rectangle c px py in_row on_page =
    let a = c.self.inside in
    clipped (page_width a.size a.dpi) (page_height a.size a.dpi) c.args.x c.args.y c.min.result c.min-2.result c.args.w c.args.h px py
    (omega arith) (omega arith) (omega arith) (omega arith) in_row on_page

-- the page after the rectangle
filled : (c : goal.After-self-2-1) → let a = c.self.inside in
    IsDrawn a.size a.dpi a.bytes.items (with_items a.bytes c.fill_rows.new.page).items
    (λ px py before. if rectangle_dot c.args.x c.args.y c.args.w c.args.h px py then is_black_ink c.args.ink else before)
filled c =
    drawn c.args.x c.args.y c.min.result c.min-2.result c.row_bytes-row_bytes.result (λ _ _ _. is_black_ink c.args.ink) _
    c.self.invariant.picture c.deref_mut.ensures.value (with_items_is c.self.inside.bytes c.fill_rows.new.page (omega arith))
    c.fill_rows.auto.page c.fill_rows.ensures.in_bytes (omega arith) c.row_bytes-row_bytes.ensures c.fill_rows.ensures.dots
    (λ px py before in_row on_page. ap (λ t. if t then is_black_ink c.args.ink else before) (same_rectangle c px py in_row on_page))

pub invariant_of-self : goal.invariant_of-self
invariant_of-self c = record {
  picture = (filled c).picture;
  inked = λ px py in_row on_page inside.
      let a = c.self.inside in
      let before = dot (picture_of a.size a.dpi a.bytes.items) px py in
      (filled c).dots px py in_row on_page
      ∙ ap (λ t. if t then is_black_ink c.args.ink else before) (sym (same_rectangle c px py in_row on_page) ∙ inside);
}

pub returns-then-has-clause-dots : goal.returns-then-has-clause-dots
returns-then-has-clause-dots c =
    let a = c.self.inside in
    rw (← c.self.view_is) (λ px py in_row on_page.
    has_ink a.size a.dpi a.bytes.items a.filled c.args.x c.args.y c.min.result c.min-2.result c.args.w c.args.h c.args.ink
    c.self.invariant.inked (c.has.ensures c.if-has.true) (omega arith) (omega arith) (omega arith) (omega arith) px py in_row on_page)

pub returns-clause-picture : goal.returns-clause-picture
returns-clause-picture c = (filled c).picture

pub returns-clause-dots : goal.returns-clause-dots
returns-clause-dots c = rw (← c.self.view_is) (filled c).dots

pub fill_rows-requires : goal.fill_rows-requires
fill_rows-requires c =
    let a = c.self.inside in
    let room = lent_room a.size a.dpi c.self.invariant.picture c.deref_mut.ensures.value (c.args.y + c.min-2.result) (omega arith)
    c.row_bytes-row_bytes.ensures in
    record { wide = omega (arith, room); high = room.high; small = room.small; rows = omega arith }
