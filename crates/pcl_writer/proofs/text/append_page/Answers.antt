use Rattle.std.proofs.Common.{◌≡◌, ◌+◌, ◌++◌, ◌∙◌, ℕ, false, length, refl, sym, subst, arith}
use Rattle.pcl_writer.proofs.Names.{flat_map, AllByRecursion, Dpi, Size, Plain, page_height, page_row_bytes, Walk, Page, start_bytes, end_bytes, token_bytes, IsRowOf, PrintsPage, bitmap_rows, start, Leads, Ends, fixed_bytes, IsLeastText, node_number, IsPlan, length_rows, bitmap_rows_are, widths, prints_of_walk, text_length, text_of_least, few_commands, height_small, height_some}
use Rattle.pcl_writer.proofs.Bodies.{page_joined}
use Rattle.pcl_writer.proofs.text.append_page.Goals as goal

-- of the bitmap's size and resolution, and so of the page's
as_page : (page : Page) (P : Size → Dpi → Type 0) → P page.bitmap.size page.bitmap.dpi → P page.size page.dpi
as_page page P p = subst (λ (d : Dpi). P page.size d) page.dpi_is (subst (λ (z : Size). P z page.bitmap.dpi) page.size_is p)

as_bitmap : (page : Page) (P : Size → Dpi → Type 0) → P page.size page.dpi → P page.bitmap.size page.bitmap.dpi
as_bitmap page P p = subst (λ (z : Size). P z page.bitmap.dpi) (sym page.size_is) (subst (λ (d : Dpi). P page.size d) (sym page.dpi_is) p)

pub append_body-requires : goal.append_body-requires
append_body-requires c =
    let page = c.args.page.now in
    as_bitmap page (λ (z : Size) (d : Dpi). IsPlan (page_row_bytes z d) (bitmap_rows page.bitmap) c.args.plan.now) c.requires

pub returns-clause-ok : goal.returns-clause-ok
returns-clause-ok c =
    let page = c.args.page.now in
    let plan = c.args.plan.now in
    let old = c.args.out.now.items in
    let rows = bitmap_rows page.bitmap in
    let width : ℕ = page_row_bytes page.size page.dpi in
    let body = c.in_ok-append_body.ensures.ok in
    let of = as_page page
    (λ (z : Size) (d : Dpi). (length rows ≡ page_height z d) × AllByRecursion (IsRowOf z d) rows
    × Walk (Leads (page_row_bytes z d) rows) (Ends rows) start body.0)
    (length_rows _ (page_row_bytes page.bitmap.size page.bitmap.dpi) page.bitmap.bytes, bitmap_rows_are c.size.ensures.picture, body.2) in
    let high = height_small page.size page.dpi in
    let started : c.append_start.new.out.items ≡ old ++ start_bytes page.dpi page.copies page.size =
    c.in_ok-append_start.ensures.ok ∙ rw (c.dpi.ensures.value, page.dpi_is, c.size.ensures.value, page.size_is) in
    let few = few_commands width c.requires.feasible (omega (arith, of.0, high)) body.0 {row = 0} {current = Plain} false of.2 body.3 in
    let text = start_bytes page.dpi page.copies page.size ++ flat_map token_bytes body.0 ++ end_bytes in
    let printed : PrintsPage page text = record {
      some_copies = page.copies_in_range.0;
      few_copies = omega (arith, page.copies_in_range.1);
      count = of.0;
      rows_are = of.1;
      tokens = body.0;
      spelled = refl;
      prints = prints_of_walk width rows body.0 (widths page.size page.dpi rows of.1) of.2;
    } in
    let least = text_of_least page.dpi page.size page.copies rows (node_number plan.table start) page.copies_in_range.0
    (omega (arith, page.copies_in_range.1)) of.0 of.1 (c.requires.least start (omega arith)) in
    let text_is : fixed_bytes page.dpi page.size page.copies + node_number plan.table start ≡ length text =
    omega (arith, text_length page.dpi page.size page.copies body.0, body.3) in (
      text,
      page_joined old _ _ _ started body.1 c.in_ok-extend_from_slice.ensures.items,
      (
        printed,
        omega (arith, of.0, few.bound, height_some page.size page.dpi),
        subst (IsLeastText page.dpi page.size page.copies rows) text_is least,
      ),
    )
