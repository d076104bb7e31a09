use Rattle.std.proofs.Common.{◌∙◌, ℕ, take, ap}
use Rattle.pcl_writer.proofs.Names.{on_err}
use Rattle.pcl_writer.proofs.Costs.{cost_on_ok}
use Rattle.pcl_writer.proofs.text.write_page.Goals as goal

-- what was appended is cut off
pub returns-then-is_err-clause-err : goal.returns-then-is_err-clause-err
returns-then-is_err-clause-err c =
    on_err c.append_page-written.result
    (c.truncate.ensures.items ∙ ap (λ (n : ℕ). take n c.append_page-written.new.out.items) (c.len-before.ensures ∙ c.args.out.now.ok.0)
    ∙ c.append_page-written.ensures.front)

pub returns-else-is_err-clause-cost : goal.returns-else-is_err-clause-cost
returns-else-is_err-clause-cost c =
    cost_on_ok c.args.page.now c.args.plan.now _ _ c.append_page-written.result c.requires c.append_page-written.ensures.ok
