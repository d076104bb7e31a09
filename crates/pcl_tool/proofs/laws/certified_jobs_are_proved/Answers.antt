use Rattle.pcl_base.specs.declared.profile.Profile.TheVariants.{Stated}
use Rattle.pcl_tool.proofs.CertifiedJobs.{certified_proved, written_certified}
use Rattle.pcl_tool.proofs.laws.certified_jobs_are_proved.Goals as goal

pub returns-clause-certified : goal.returns-clause-certified
returns-clause-certified c = certified_proved (c.one_meaning.ensures.pages Stated)

pub returns-clause-written : goal.returns-clause-written
returns-clause-written c = λ dpi format input output certificate verdict w.
    certified_proved (c.one_meaning.ensures.pages Stated) dpi input output certificate verdict (written_certified w)
