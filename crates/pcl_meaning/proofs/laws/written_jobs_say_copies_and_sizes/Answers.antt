use Rattle.pcl_meaning.proofs.WrittenJobs.{asks_as_said}
use Rattle.pcl_meaning.proofs.laws.written_jobs_say_copies_and_sizes.Goals as goal

pub returns : goal.returns
returns c = λ profile dpi input output w. asks_as_said w
