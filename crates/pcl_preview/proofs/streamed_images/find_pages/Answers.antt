use Rattle.pcl_preview.proofs.Names.{refl, accepted_pages, has_pages}
use Rattle.pcl_preview.proofs.Showings.{met_by, unmet_by}
use Rattle.pcl_preview.proofs.Streamings.{all_found, has_awaited, one_missing}
use Rattle.pcl_preview.specs.declared.streamed_images.Awaited.{Awaited}
use Rattle.pcl_preview.specs.inner.Showing.{left_of}
use Rattle.pcl_preview.proofs.streamed_images.find_pages.Goals as goal

pub returns-then-is_met : goal.returns-then-is_met
returns-then-is_met c =
    let h = c.in_ok-perform_by.ensures in
    let found = has_awaited (λ (a : Awaited). left_of a.left) c.args.dpi (accepted_pages h) _ c.perform_by.new.sink h.handed.1 in
    all_found c.args.choice (has_pages h) found c.flags.ensures (met_by c.is_met.result refl c.if-is_met.true c.is_met.ensures)

pub returns-else-is_met : goal.returns-else-is_met
returns-else-is_met c =
    let h = c.in_ok-perform_by.ensures in
    let found = has_awaited (λ (a : Awaited). left_of a.left) c.args.dpi (accepted_pages h) _ c.perform_by.new.sink h.handed.1 in
    one_missing c.args.choice (has_pages h) found c.flags.ensures (unmet_by c.is_met.result refl c.if-is_met.false c.is_met.ensures)
