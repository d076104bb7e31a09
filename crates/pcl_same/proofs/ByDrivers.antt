-- Two jobs that are read by the stated profile alone, or by the drivers', since the stated one refuses one of them.
use Rattle.std.proofs.Common.{ℕ, List, Result, Ok, Err, inl, inr}
use Rattle.pcl_same.proofs.Names.{Drivers, Stated, Dpi, Refusal, AskedComparison, First, Second, SameFault, AreReadBy, IsComparedBy, IsComparedAskedBy, IsComparedAsked}
use Rattle.pcl_same.specs.declared.asking.LastExit.TheVariants.{Ends}
use Rattle.pcl_same.specs.declared.fault.Which.{Which}
use Rattle.pcl_same.specs.declared.fault.SameFault.TheVariants.{Refused, Memory}

pub one_refused : {dpi : Dpi} {first second : List ℕ} (which : Which) (refusal : Refusal)
    → IsComparedBy Stated dpi first second (Err (Refused which refusal)) → AreReadBy Drivers Drivers dpi first second
one_refused First refusal is = inl (refusal, is)
one_refused Second refusal is = inr (refusal, is.2)

pub told_by_drivers : (dpi : Dpi) (first second : List ℕ) (result : Result AskedComparison SameFault)
    → AreReadBy Drivers Drivers dpi first second → IsComparedAskedBy Ends Drivers dpi first second result
    → IsComparedAsked Drivers dpi first second result
told_by_drivers dpi first second (Ok comparison) read is = (Drivers, read, is)
told_by_drivers dpi first second (Err (Refused which refusal)) read is = (read, is)
told_by_drivers dpi first second (Err Memory) read is = tt

pub told_by_stated : (dpi : Dpi) (first second : List ℕ) (result : Result AskedComparison SameFault)
    → IsComparedAskedBy Ends Stated dpi first second result → IsComparedAsked Stated dpi first second result
told_by_stated dpi first second (Ok comparison) is = (Stated, tt, is)
told_by_stated dpi first second (Err (Refused which refusal)) is = (tt, is)
told_by_stated dpi first second (Err Memory) is = tt
