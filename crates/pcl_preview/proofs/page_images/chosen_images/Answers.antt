use Rattle.pcl_preview.proofs.Names.{refl, sym, ap, has_pages, Showing}
use Rattle.pcl_preview.proofs.Showings.{all_made, met_by, one_lacks, unmet_by}
use Rattle.pcl_preview.proofs.page_images.chosen_images.Goals as goal

pub returns-then-is_met : goal.returns-then-is_met
returns-then-is_met c =
    let h = c.in_ok-perform_by.ensures in
    let left = ap (λ (s : Showing). s.left) c.shown.view_is in
    let images = sym (ap (λ (s : Showing). s.images) c.shown.view_is) in
    all_made _ c.perform_by.new.sink (has_pages h) h.handed.1 c.flags.ensures refl c.new.ensures.items images
    (met_by c.is_met.result left c.if-is_met.true c.is_met.ensures)

pub returns-else-is_met : goal.returns-else-is_met
returns-else-is_met c =
    let h = c.in_ok-perform_by.ensures in
    let left = ap (λ (s : Showing). s.left) c.shown.view_is in
    one_lacks _ c.perform_by.new.sink c.args.choice (has_pages h) h.handed.1 c.flags.ensures
    (unmet_by c.is_met.result left c.if-is_met.false c.is_met.ensures)
