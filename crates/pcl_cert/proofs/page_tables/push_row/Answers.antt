use Rattle.std.proofs.Common.{◌≡◌, ◌∙◌, sym, ap, length, ℕ}
use Rattle.pcl_cert.proofs.Names.{page_height, page_row_bytes, row_at, bitmap_rows, row_of_bytes, on_ok_weaker}
use Rattle.pcl_cert.proofs.KeptLists.{one_row_more}
use Rattle.pcl_cert.proofs.page_tables.push_row.Goals as goal

pub returns : goal.returns
returns c =
    let picture = c.args.bitmap.now in
    let width : ℕ = page_row_bytes picture.size picture.dpi in
    let row_is : c.row-bytes.result.now ≡ row_at (bitmap_rows picture) c.args.row =
    c.row-bytes.ensures.bytes ∙ sym (row_of_bytes c.args.row (page_height picture.size picture.dpi) width picture.bytes c.requires.row) in
    let seed_is = c.row_above-seed.ensures.row in
    on_ok_weaker c.push_list-4.result (λ delta. one_row_more c.requires.holds
    (ap length (sym row_is) ∙ c.row-bytes.ensures.len) (record {
      first = c.push_list.new.lists;
      second = c.push_list-2.new.lists;
      third = c.push_list-3.new.lists;
      plain = rw (← seed_is, ← row_is) c.in_ok-push_list.ensures;
      runs = rw (← seed_is, ← row_is) c.in_ok-push_list-2.ensures;
      packed = rw (← seed_is, ← row_is) c.in_ok-push_list-3.ensures;
      delta = rw (← seed_is, ← row_is) delta;
    })) c.push_list-4.ensures
