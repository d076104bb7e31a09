use Rattle.pcl_bitmap.proofs.Pictures.{same_dots}
use Rattle.pcl_bitmap.proofs.laws.same_dots_same_bitmap.Goals as goal

pub returns : goal.returns
returns c = same_dots
