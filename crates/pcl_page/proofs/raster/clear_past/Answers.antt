use Rattle.pcl_page.proofs.Names.{arith}
use Rattle.pcl_page.proofs.Pads.{cleared_whole, cleared_last}
use Rattle.pcl_page.proofs.raster.clear_past.Goals as goal

pub returns-then-rest-gt0 : goal.returns-then-rest-gt0
returns-then-rest-gt0 c = cleared_last c.args.row.now c.args.width c.requires c.if-rest-gt0.true

pub returns-else-rest-gt0 : goal.returns-else-rest-gt0
returns-else-rest-gt0 c = cleared_whole c.args.row.now (omega arith)
