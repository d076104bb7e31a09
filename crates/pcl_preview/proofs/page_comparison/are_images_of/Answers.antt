use Rattle.pcl_preview.proofs.Names.{has_pages}
use Rattle.pcl_preview.proofs.Comparings.{compared}
use Rattle.pcl_preview.proofs.page_comparison.are_images_of.Goals as goal

pub returns : goal.returns
returns c =
    let h = c.in_ok-perform_by.ensures in
    compared c.args.images.now c.perform_by.new.sink _ c.is_used_up.result (has_pages h) h.handed.1 c.compared.view_is
    c.is_used_up.ensures
