use Rattle.pcl_base.specs.Limits.{page_limit}
use Rattle.pcl_preview.proofs.Flags.{none_listed}
use Rattle.pcl_preview.proofs.page_images.PageSet.none.Goals as goal

pub returns : goal.returns
returns c before = none_listed page_limit before
