use Rattle.pcl_page.proofs.Jobs.{accepted_pages, has_pages}
use Rattle.pcl_pages.proofs.describing.describe_pages.Goals as goal

pub returns : goal.returns
returns c =
    let h = c.in_ok-asks.ensures.0 in (accepted_pages h, has_pages h)
