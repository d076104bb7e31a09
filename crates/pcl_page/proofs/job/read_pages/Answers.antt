use Rattle.pcl_page.proofs.Names.{[]}
use Rattle.pcl_page.proofs.Jobs.{accepted_pages, has_pages, all_shown}
use Rattle.pcl_page.proofs.job.read_pages.Goals as goal

pub returns : goal.returns
returns c =
    let h = c.in_ok-perform.ensures in (
      accepted_pages h,
      has_pages h,
      rw c.collected.view_is
          (all_shown c.args.dpi c.perform.new.sink [] (accepted_pages h) c.new.ensures.items tt h.handed.1),
    )
