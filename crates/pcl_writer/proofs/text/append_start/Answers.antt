use Rattle.std.proofs.Common.{◌++◌, ◌∙◌, ℕ, List, ap}
use Rattle.pcl_writer.proofs.Starts.{five_joined, start_regrouped}
use Rattle.pcl_writer.proofs.text.append_start.Goals as goal

pub returns-clause-ok : goal.returns-clause-ok
returns-clause-ok c =
    let old = c.args.out.now.items in
    five_joined old _ _ _ _ _ (rw c.from.ensures at c.in_ok-append_labelled.ensures.ok)
    (rw c.code.ensures at c.in_ok-append_labelled-2.ensures.ok) (rw c.dots.ensures at c.in_ok-append_labelled-3.ensures.ok)
    (rw c.width.ensures at c.in_ok-append_labelled-4.ensures.ok)
    c.in_ok-extend_from_slice.ensures.items ∙ ap (λ (t : List ℕ). old ++ t) (start_regrouped c.args.dpi c.args.copies c.args.size)
