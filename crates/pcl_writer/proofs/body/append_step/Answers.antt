use Rattle.std.proofs.Common.{◌∙◌, append_assoc}
use Rattle.pcl_writer.proofs.Names.{on_ok_weaker}
use Rattle.pcl_writer.proofs.Bodies.{opened_bytes}
use Rattle.pcl_writer.proofs.body.append_step.Goals as goal

pub returns-clause-ok : goal.returns-clause-ok
returns-clause-ok c =
    on_ok_weaker c.append_parameter.result
    (λ a. (a.0, a.1, a.2, a.3 ∙ rw (c.in_ok-append_opening.ensures.ok, append_assoc, opened_bytes c.args.node.inside a.0)))
    c.append_parameter.ensures.ok
