use Rattle.pcl_base.specs.declared.profile.Profile.TheVariants.{Stated}
use Rattle.pcl_tool.proofs.Headline.{claimed}
use Rattle.pcl_tool.proofs.laws.the_headline.Goals as goal

pub returns : goal.returns
returns c = λ dpi format input output w. claimed (c.one_meaning.ensures.pages Stated) dpi format w
