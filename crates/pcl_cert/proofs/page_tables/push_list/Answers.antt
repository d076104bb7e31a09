use Rattle.pcl_cert.proofs.Names.{on_ok_weaker}
use Rattle.pcl_cert.proofs.KeptLists.{row_more}
use Rattle.pcl_cert.proofs.page_tables.push_list.Goals as goal

pub returns : goal.returns
returns g c = on_ok_weaker c.push.result (λ more. row_more c.requires.codable.same_size c.places.ensures more) c.push.ensures
