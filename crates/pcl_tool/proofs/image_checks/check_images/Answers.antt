use Rattle.pcl_tool.proofs.Names.{rules}
use Rattle.pcl_tool.proofs.image_checks.check_images.Goals as goal

pub returns : goal.returns
returns g c = search rules
