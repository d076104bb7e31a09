use Rattle.pcl_writer.proofs.Names.{refl, arith, on_ok_weaker, method_code, page_height, method, skip, send, least_spelling, length_rows, width_of}
use Rattle.pcl_writer.proofs.body.append_parameter.Goals as goal

pub append_row-requires-clause-row : goal.append_row-requires-clause-row
append_row-requires-clause-row c =
    let picture = c.args.bitmap.now in
    let w = rw c.in-Row.is at c.requires in
    omega (arith, w.0, length_rows (page_height picture.size picture.dpi) (width_of picture) picture.bytes)

pub returns-in-Skip-clause-ok : goal.returns-in-Skip-clause-ok
returns-in-Skip-clause-ok c =
    let count = c.in-Skip.count in
    on_ok_weaker c.append_setting.result
    (λ e. rw c.in-Skip.is (skip (least_spelling count) count c.args.ends, (refl, refl, refl), tt, rw c.from.ensures at e))
    c.append_setting.ensures.ok

pub returns-in-Switch-clause-ok : goal.returns-in-Switch-clause-ok
returns-in-Switch-clause-ok c =
    let next = c.in-Switch.next in
    on_ok_weaker c.append_setting-in-Switch.result
    (λ e. rw c.in-Switch.is
    (method (least_spelling (method_code next)) next c.args.ends, (refl, refl, refl), tt, rw c.code.ensures at e))
    c.append_setting-in-Switch.ensures.ok

pub returns-in-Row-clause-ok : goal.returns-in-Row-clause-ok
returns-in-Row-clause-ok c =
    on_ok_weaker c.append_row.result (λ a. rw c.in-Row.is (send (least_spelling c.in-Row.bytes) a.0, (a.2, refl), a.1, a.3))
    c.append_row.ensures.ok
