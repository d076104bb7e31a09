-- What is said of the passes over a job that is shrunk.
use Rattle.std.specs.Prelude.{ℕ, List, codes}
use Rattle.pcl_shrink.specs.declared.watching.Pass.{Pass}
use Rattle.pcl_shrink.specs.declared.watching.Pass.TheVariants.{Paint, Read, Write, Compare}

abbrev pub pass_text : Pass → List ℕ
pass_text Paint = codes "pages painted at 600 dots per inch"
pass_text Read = codes "pages read"
pass_text Write = codes "pages written"
pass_text Compare = codes "pages to compare"
