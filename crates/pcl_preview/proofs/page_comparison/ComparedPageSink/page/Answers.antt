use Rattle.pcl_preview.proofs.Comparings.{image_off}
use Rattle.pcl_preview.proofs.Writes.{header_is}
use Rattle.pcl_preview.proofs.page_comparison.ComparedPageSink.page.Goals as goal

pub returns-clause-taken : goal.returns-clause-taken
returns-clause-taken c =
    let text = header_is c.deref.ensures.value c.in_ok-header.ensures c.size.ensures.value c.dpi.ensures.value in
    image_off c.args.page.now.bitmap _ _ _ _ _ _ text c.bytes.ensures.bytes c.self.view_is c.left_after.ensures
    c.left_after-self-inside.ensures
