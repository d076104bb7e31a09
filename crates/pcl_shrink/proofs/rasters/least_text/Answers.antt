use Rattle.std.proofs.Common.{◌∙◌, List, ℕ, ◌++◌, sym, ap, subst}
use Rattle.pcl_shrink.proofs.Names.{IsWrittenPage}
use Rattle.pcl_shrink.proofs.rasters.least_text.Goals as goal

pub returns : goal.returns
returns c =
    let w = c.in_ok-write_page.ensures.ok in
    let written = w.1 ∙ ap (λ (old : List ℕ). old ++ w.0) c.new-text.ensures.items in
    subst (IsWrittenPage c.args.page.now) (sym (c.shrink_to_fit.ensures.items ∙ written)) w.2
