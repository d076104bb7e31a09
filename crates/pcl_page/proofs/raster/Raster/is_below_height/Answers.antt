use Rattle.pcl_page.proofs.Names.{rules}
use Rattle.pcl_page.proofs.raster.Raster.is_below_height.Goals as goal

pub returns : goal.returns
returns c = search rules depth 2
