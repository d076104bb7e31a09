use Rattle.std.proofs.Common.{ℕ, take, ap, ◌∙◌}
use Rattle.pcl_coders.proofs.Names.{on_ok_weaker, on_err_weaker}
use Rattle.pcl_coders.proofs.Filling.{appends_least}
use Rattle.pcl_coders.proofs.Tables.{right_of_least}
use Rattle.pcl_coders.proofs.table.append_along.Goals as goal

pub append_steps-appended-requires-clause-right : goal.append_steps-appended-requires-clause-right
append_steps-appended-requires-clause-right c = rw c.base_row-old.ensures (right_of_least c.requires.codable.same_size c.requires.least)

pub returns-else-is_err-clause-ok : goal.returns-else-is_err-clause-ok
returns-else-is_err-clause-ok c =
    on_ok_weaker c.append_steps-appended.result (appends_least c.requires.codable c.requires.least c.base_row-old.ensures)
    c.append_steps-appended.ensures.ok

pub returns-then-is_err-clause-err : goal.returns-then-is_err-clause-err
returns-then-is_err-clause-err c =
    let appended = c.append_steps-appended.new.out.items in
    on_err_weaker c.append_steps-appended.result
    (λ kept. c.truncate.ensures.items ∙ ap (λ (n : ℕ). take n appended) (c.len-start.ensures ∙ c.args.out.now.ok.0) ∙ kept)
    c.append_steps-appended.ensures.err
