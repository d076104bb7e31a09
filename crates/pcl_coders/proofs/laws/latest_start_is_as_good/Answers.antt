use Rattle.pcl_coders.proofs.Starts.{latest_is_as_good}
use Rattle.pcl_coders.proofs.laws.latest_start_is_as_good.Goals as goal

pub returns : goal.returns
returns c = latest_is_as_good
