-- The claim: what a job that is written is to its input, and with a certificate, what the checker's yes says of it and of any other.
use Rattle.std.specs.Prelude.{◌≡◌, ℕ, ◌≤◌, List, length}
use Rattle.pcl_base.specs.declared.dpi.Dpi.{Dpi}
use Rattle.pcl_page.specs.Situation.{Sheet}
use Rattle.pcl_page.specs.Jobs.{HasPages}
use Rattle.pcl_page.specs.Alike.{AllAlike}
use Rattle.pcl_meaning.specs.JobTexts.{IsLeastJobText, most_commands}
use Rattle.pcl_tool.specs.declared.job_verdict.JobVerdict.{JobVerdict}
use Rattle.pcl_tool.specs.declared.job_verdict.JobVerdict.TheVariants.{Proved}
use Rattle.pcl_tool.specs.JobVerdicts.{IsJobVerdict}

-- the output has the pages of the input, in few commands, and no job text with these pages is shorter
pub record IsLeastSameJob (dpi : Dpi) (input output : List ℕ) : Type 0 where
  -- the input is accepted, and these are its pages
  pub pages : List Sheet
  pub meaning : HasPages dpi input pages
  -- the output is accepted by the same rules, with the same pages: as many, in order, of the same sizes and copies, dot for dot
  pub again : List Sheet
  pub accepted : HasPages dpi output again
  pub same : AllAlike dpi pages again
  -- its commands are within the limit of a job, whatever the pages
  pub few : length accepted.commands ≤ most_commands dpi pages
  -- it is a job text of these pages; each of its page texts is as short as any that prints its page, and no such job is shorter
  pub least : IsLeastJobText dpi pages output

-- the same, and what the checker says of it and its certificate, and of any other job with any certificate
pub record TheClaim (dpi : Dpi) (input output certificate : List ℕ) : Type 0 where
  pub job : IsLeastSameJob dpi input output
  -- the checker's verdict on it and its certificate is Proved, and no other verdict is right
  pub proved : IsJobVerdict dpi input output certificate Proved
  pub no_other : (verdict : JobVerdict) → IsJobVerdict dpi input output certificate verdict → verdict ≡ Proved
  -- any other output that is Proved, whoever made it and its certificate, is a least job text of these pages too
  pub checked : (other evidence : List ℕ) → IsJobVerdict dpi input other evidence Proved → IsLeastJobText dpi job.pages other
