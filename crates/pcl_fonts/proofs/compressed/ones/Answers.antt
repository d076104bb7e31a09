use Rattle.pcl_fonts.proofs.Expanding.{mask_fits, mask_is}
use Rattle.pcl_fonts.proofs.compressed.ones.Goals as goal

pub overflow_sub-result : goal.overflow_sub-result
overflow_sub-result c = mask_fits c.args.from c.args.to c.requires.0 c.requires.1

pub returns : goal.returns
returns c = mask_is c.args.from c.args.to c.requires.0 c.requires.1
