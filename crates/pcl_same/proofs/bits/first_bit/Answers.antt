use Rattle.pcl_same.proofs.FirstBits.{first_bit_is}
use Rattle.pcl_same.proofs.bits.first_bit.Goals as goal

pub returns : goal.returns
returns c = first_bit_is c.args.one c.args.other c.ranges.one.fits c.ranges.other.fits c.requires
