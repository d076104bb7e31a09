-- Faults of a job as faults of a run, and which faults come.
use Rattle.pcl_base.specs.declared.refusal.Refusal.{Refusal}
use Rattle.pcl_base.specs.declared.fault.JobFault.{JobFault}
use Rattle.pcl_base.specs.declared.fault.JobFault.TheVariants as job
use Rattle.pcl_streams.specs.declared.fault.Fault.{Fault}
use Rattle.pcl_streams.specs.declared.fault.Fault.TheVariants as run

abbrev pub fault_of : JobFault → Fault
fault_of (job.Refused refusal) = run.Refused refusal
fault_of job.Memory = run.Memory

-- a call over bytes in memory fails in two ways alone: the job is refused, and this holds of the refusal, or memory runs out
abbrev pub RefusedOrMemory : (Refusal → Type 0) → Fault → Type 0
RefusedOrMemory Holds (run.Refused refusal) = Holds refusal
RefusedOrMemory Holds run.Memory = Unit {0}
RefusedOrMemory Holds fault = ⊥
