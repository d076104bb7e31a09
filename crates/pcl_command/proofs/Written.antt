-- What was written where a task was done with a job, or its job was refused.
use Rattle.std.proofs.Common.{ℕ, List, Option, Result, Ok, Err}
use Rattle.pcl_command.proofs.Names.{Keeps-refl, Dpi, JobFault, Refusal, IsRefusalBy, Fault, Refused, Memory, WriteFault, fault_of, RefusedOrMemory, IsWritten, IsDescribed, Readers, Profiles, Stated, Drivers, Profile, widest_of, Shrunk, IsShrunkUnder, IsShrunkEverywhereUnder, IsWrittenUnder, IsWrittenEverywhereUnder, IsRefusedEverywhereUnder, WritesOrRefuses}
use Rattle.pcl_base.specs.declared.fault.JobFault.TheVariants as fault
use Rattle.pcl_request.specs.declared.profiles.Profiles.TheVariants as read_by
use Rattle.pcl_shrink.proofs.Written.{written_for, written_here_by, written_everywhere, written_there_by}

-- the bytes were written, or a prefix of them
pub written : (Holds : List ℕ → Type 0) (Refuses : Refusal → Type 0) (old new : Option (List ℕ)) {bytes : List ℕ}
    (done : Result (Unit {0}) Fault) → Holds bytes → IsWritten old new bytes done → WritesOrRefuses Holds Refuses old new done
written Holds Refuses old new {bytes} (Ok unit) h w = (bytes, h, w)
written Holds Refuses old new {bytes} (Err WriteFault) h w = (bytes, h, w)
written Holds Refuses old new done h w = absurd w

-- there were none
pub unwritten : (Holds : List ℕ → Type 0) (Refuses : Refusal → Type 0) (held : Option (List ℕ)) (fault : Fault)
    → RefusedOrMemory Refuses fault → WritesOrRefuses Holds Refuses held held (Err fault)
unwritten Holds Refuses held (Refused refusal) r = (r, Keeps-refl held)
unwritten Holds Refuses held Memory r = Keeps-refl held
unwritten Holds Refuses held other r = absurd r

pub undescribed : (profile : Profile) (dpi : Dpi) (job : List ℕ) (why : JobFault) → IsDescribed profile dpi job (Err why)
    → RefusedOrMemory (IsRefusalBy profile dpi job) (fault_of why)
undescribed profile dpi job (fault.Refused refusal) d = d
undescribed profile dpi job fault.Memory d = tt

pub unshrunk : (readers : Readers) (profiles : Profiles) (dpi : Dpi) (job : List ℕ) (why : JobFault)
    → IsShrunkUnder readers profiles dpi job (Err why) → RefusedOrMemory (IsRefusalBy (widest_of profiles) dpi job) (fault_of why)
unshrunk readers read_by.Stated dpi job (fault.Refused refusal) s = s.1
unshrunk readers read_by.Either dpi job (fault.Refused refusal) s = s.1
unshrunk readers read_by.Drivers dpi job (fault.Refused refusal) s = s
unshrunk readers profiles dpi job fault.Memory s = tt

pub unshrunk_everywhere : (readers : Readers) (profiles : Profiles) (job : List ℕ) (why : JobFault)
    → IsShrunkEverywhereUnder readers profiles job (Err why) → RefusedOrMemory (IsRefusedEverywhereUnder profiles job) (fault_of why)
unshrunk_everywhere readers read_by.Stated job (fault.Refused refusal) s = s
unshrunk_everywhere readers read_by.Either job (fault.Refused refusal) s = s
unshrunk_everywhere readers read_by.Drivers job (fault.Refused refusal) s = s
unshrunk_everywhere readers profiles job fault.Memory s = tt

pub written_under : (readers : Readers) (profiles : Profiles) (dpi : Dpi) (job : List ℕ) (shrunk : Shrunk)
    → IsShrunkUnder readers profiles dpi job (Ok shrunk) → IsWrittenUnder readers profiles dpi job shrunk.job.items
written_under readers read_by.Stated dpi job shrunk s = written_for Stated dpi job shrunk readers s
written_under readers read_by.Either dpi job shrunk s = written_for Drivers dpi job shrunk readers s
written_under readers read_by.Drivers dpi job shrunk s = written_here_by Drivers dpi job shrunk readers shrunk.doubt s

pub written_everywhere_under : (readers : Readers) (profiles : Profiles) (job : List ℕ) (shrunk : Shrunk)
    → IsShrunkEverywhereUnder readers profiles job (Ok shrunk) → IsWrittenEverywhereUnder readers profiles job shrunk.job.items
written_everywhere_under readers read_by.Stated job shrunk s = written_everywhere Stated job shrunk readers s
written_everywhere_under readers read_by.Either job shrunk s = written_everywhere Drivers job shrunk readers s
written_everywhere_under readers read_by.Drivers job shrunk s = written_there_by Drivers s.0 s.1 job shrunk readers shrunk.doubt s.2 s.3
