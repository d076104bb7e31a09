-- A job that is written, and what the call answers that writes it without a certificate.
use Rattle.std.specs.Prelude.{ℕ, List, Result, Ok, Err}
use Rattle.std.specs.Global.{Vec}
use Rattle.pcl_base.specs.declared.dpi.Dpi.{Dpi}
use Rattle.pcl_page.specs.Delivering.{IsRefusal}
use Rattle.pcl_meaning.specs.JobTexts.{IsJobOf}
use Rattle.pcl_streams.specs.declared.fault.Fault.{Fault}
use Rattle.pcl_streams.specs.JobFaults.{RefusedOrMemory}
use Rattle.pcl_streams.specs.declared.fault.Fault.TheVariants.{Refused, Memory, ReadFault, TooLong, WriteFault, NoSuchPage}
use Rattle.pcl_tool.specs.Headline.{IsLeastSameJob}

-- a job that is written: what it is to its input, and the texts that are written for its pages
pub record IsWrittenJob (dpi : Dpi) (input output : List ℕ) : Type 0 where
  pub is_least : IsLeastSameJob dpi input output
  pub written : IsJobOf dpi input output

-- the job is written; or it is refused so, or memory ran out
abbrev pub IsJobWritten : Dpi → List ℕ → Result (Vec ℕ) Fault → Type 0
IsJobWritten dpi job (Ok output) = IsWrittenJob dpi job output.items
IsJobWritten dpi job (Err fault) = RefusedOrMemory (IsRefusal dpi job) fault
