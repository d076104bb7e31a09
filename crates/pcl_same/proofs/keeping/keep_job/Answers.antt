use Rattle.pcl_same.proofs.Names.{accepted_pages, has_pages}
use Rattle.pcl_same.proofs.Beside.{all_kept}
use Rattle.pcl_same.proofs.keeping.keep_job.Goals as goal

pub returns : goal.returns
returns c =
    let h = c.in_ok-asks.ensures.0 in
    record {
      pages = accepted_pages h;
      meaning = has_pages h;
      keeps = rw c.keeper.view_is (all_kept c.args.dpi (accepted_pages h) c.perform_asked.new.sink c.new.ensures.items h.handed.1);
      asked = c.in_ok-asks.ensures.1;
    }
