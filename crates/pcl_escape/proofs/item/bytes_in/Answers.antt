use Rattle.std.proofs.Common.{ℕ, List, take, drop, ap, ◌∙◌}
use Rattle.pcl_escape.proofs.Names.{take_min, drop_min}
use Rattle.pcl_escape.proofs.item.bytes_in.Goals as goal

pub returns : goal.returns
returns c =
    let job = c.args.job.now in
    let after = c.split_at.result.1.now in
    c.split_at-2.ensures.front ∙ ap (λ (n : ℕ). take n after) c.min-2.ensures ∙ take_min c.args.len after
    ∙ ap (λ (bytes : List ℕ). take c.args.len bytes)
    (c.split_at.ensures.back ∙ ap (λ (n : ℕ). drop n job) c.min.ensures ∙ drop_min c.args.begin job)
