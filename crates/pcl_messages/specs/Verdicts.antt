-- What the program says of a checked job, and its status.
use Rattle.std.specs.Prelude.{ℕ, Bool, true, false, List, ◌++◌, codes, decimal}
use Rattle.pcl_base.specs.declared.method.Method.{Method}
use Rattle.pcl_base.specs.Method.{method_code}
use Rattle.pcl_cert.specs.declared.check.Verdict.{Verdict}
use Rattle.pcl_cert.specs.declared.check.Verdict.TheVariants.{NotGrammar, OtherPage, Rows, Place, Edge, Length, Proved}
use Rattle.pcl_cert.specs.declared.fault.CertFault.{CertFault}
use Rattle.pcl_cert.specs.declared.fault.CertFault.TheVariants as faults
use Rattle.pcl_request.specs.declared.request.Layout.{Layout}
use Rattle.pcl_messages.specs.Layouts.{laid_out}
use Rattle.pcl_messages.specs.Texts.{subject_text}
use Rattle.pcl_tool.specs.declared.job_verdict.JobVerdict.{JobVerdict}
use Rattle.pcl_tool.specs.declared.job_verdict.JobVerdict.TheVariants as job
use Rattle.pcl_tool.specs.declared.job_verdict.CheckAnswer.{CheckAnswer}
use Rattle.pcl_tool.specs.declared.job_verdict.CheckAnswer.TheVariants as answer

abbrev pub fault_text : CertFault → List ℕ
fault_text faults.BadMagic = codes "BadMagic"
fault_text faults.Short = codes "Short"
fault_text faults.Extra = codes "Extra"
fault_text faults.Rows = codes "Rows"
fault_text faults.Places = codes "Places"
fault_text faults.Memory = codes "Memory"

-- a row and a method of a table
abbrev pub numbers_text : ℕ → Method → List ℕ
numbers_text row method = codes " row " ++ decimal row ++ codes " method " ++ decimal (method_code method)

-- a node inside a sequence is open
abbrev pub openness_text : Bool → List ℕ
openness_text true = codes " open"
openness_text false = codes " closed"

abbrev pub verdict_text : Verdict → List ℕ
verdict_text NotGrammar = codes "NotGrammar"
verdict_text OtherPage = codes "OtherPage"
verdict_text Rows = codes "Rows"
verdict_text (Place row method place) = codes "Place" ++ numbers_text row method ++ codes " place " ++ decimal place
verdict_text (Edge row method inside) = codes "Edge" ++ numbers_text row method ++ openness_text inside
verdict_text Length = codes "Length"
verdict_text Proved = codes "Proved"

abbrev pub job_text : JobVerdict → List ℕ
job_text (job.Certificate fault) = codes "not proved: certificate " ++ fault_text fault
job_text job.PageCount = codes "not proved: page count"
job_text job.Frame = codes "not proved: frame"
job_text (job.Page page verdict) = subject_text (codes "not proved: page ") page ++ verdict_text verdict
job_text job.Proved = codes "proved"

abbrev pub answer_text : CheckAnswer → List ℕ
answer_text answer.OtherImages = codes "not proved: images"
answer_text (answer.Job verdict) = job_text verdict

abbrev pub is_proved : CheckAnswer → Bool
is_proved (answer.Job job.Proved) = true
is_proved other = false

-- the line on standard output
abbrev pub answer_line_of : Layout → CheckAnswer → List ℕ
answer_line_of layout given = laid_out layout (codes "proved") (is_proved given) (answer_text given)

-- 0 where the job is proved, else 1
abbrev pub verdict_status_for : JobVerdict → ℕ
verdict_status_for job.Proved = 0
verdict_status_for (job.Certificate fault) = 1
verdict_status_for job.PageCount = 1
verdict_status_for job.Frame = 1
verdict_status_for (job.Page page verdict) = 1

abbrev pub answer_status_for : CheckAnswer → ℕ
answer_status_for answer.OtherImages = 1
answer_status_for (answer.Job verdict) = verdict_status_for verdict
