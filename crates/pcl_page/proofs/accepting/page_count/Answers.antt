use Rattle.pcl_page.proofs.Names.{arith}
use Rattle.pcl_page.proofs.Jobs.{accepted_pages, has_pages}
use Rattle.pcl_page.proofs.Counts.{all_counted}
use Rattle.pcl_page.proofs.accepting.page_count.Goals as goal

pub returns : goal.returns
returns c =
    let h = c.in_ok-perform_by.ensures in
    let counted = all_counted c.args.dpi (accepted_pages h) _ c.perform_by.new.sink h.handed.1 in
    (accepted_pages h, has_pages h, omega (arith, counted))
