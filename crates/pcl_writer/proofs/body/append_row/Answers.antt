use Rattle.std.proofs.Common.{◌++◌, ◌∷◌, [], ◌∙◌, ℕ, List, sym, ap, append_assoc, arith}
use Rattle.pcl_writer.proofs.Names.{on_ok_weaker, front_stays, page_height, least_spelling, row_of_bytes, row_small, width_of}
use Rattle.pcl_writer.proofs.Bodies.{appended_row}
use Rattle.pcl_writer.proofs.body.append_row.Goals as goal

pub append_data-requires : goal.append_data-requires
append_data-requires c = record {
  same_size = c.row_above.ensures.len ∙ sym c.row.ensures.len;
  small = omega (arith, c.row.ensures.len, row_small c.args.bitmap.now.size c.args.bitmap.now.dpi);
}

pub returns-clause-ok : goal.returns-clause-ok
returns-clause-ok c =
    let picture = c.args.bitmap.now in
    let row_is = c.row.ensures.bytes ∙ sym (row_of_bytes c.args.row (page_height picture.size picture.dpi) (width_of picture)
    picture.bytes c.requires.row) in
    on_ok_weaker c.append_data.result
    (appended_row picture c.args.row c.args.out.now.items
    row_is c.row_above.ensures.row c.requires.bytes (rw c.from.ensures at c.in_ok-append_spelling.ensures.ok)
    c.in_ok-extend_from_slice.ensures.items)
    c.append_data.ensures.ok

pub returns-clause-front : goal.returns-clause-front
returns-clause-front c =
    let joined = c.in_ok-extend_from_slice.ensures.items ∙ ap (λ (t : List ℕ). t ++ 87 ∷ []) c.in_ok-append_spelling.ensures.ok ∙
    append_assoc c.args.out.now.items (least_spelling c.from.result) (87 ∷ []) in
    front_stays c.append_data.new.out.items (least_spelling c.from.result ++ 87 ∷ []) joined
    c.append_data.ensures.front
