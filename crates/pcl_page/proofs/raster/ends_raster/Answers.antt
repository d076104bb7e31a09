use Rattle.pcl_page.proofs.Names.{rules}
use Rattle.pcl_page.proofs.raster.ends_raster.Goals as goal

-- each other command by itself
pub returns-then-not-goes_on : goal.returns-then-not-goes_on
returns-then-not-goes_on c = search rules depth 2

pub returns-else-not-goes_on : goal.returns-else-not-goes_on
returns-else-not-goes_on c = search rules depth 2
