-- What holds of a call that failed.
use Rattle.pcl_base.proofs.Names.{Result, Ok, Err, OnErr}

pub on_err : {T E P : Type 0} (result : Result T E) → P → OnErr result P
on_err (Ok x) p = tt
on_err (Err e) p = p
