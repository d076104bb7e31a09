-- A checker whose fields are put together again.
use Rattle.std.proofs.Common.{◌≡◌, length, drop, ap}
use denote.Struct.Props.{props}
use Rattle.pcl_tool.specs.declared.job_verdict.JobVerdict.TheVariants as job
use Rattle.pcl_tool.proofs.Names.{Checker, text_bytes}

-- whatever proof it keeps
pub again : {c : Checker} (kept : c.found ≡ job.Proved → length c.texts.now ≡ text_bytes (drop c.taken c.proofs.now))
    → record { alloc = c.alloc; proofs = c.proofs; texts = c.texts; taken = c.taken; found = c.found; as_long = kept } ≡ c
again {c} kept =
    let one : IsProp (c.found ≡ job.Proved → length c.texts.now ≡ text_bytes (drop c.taken c.proofs.now)) = hlevel props in
    ap (λ (k : c.found ≡ job.Proved → length c.texts.now ≡ text_bytes (drop c.taken c.proofs.now)). record c { as_long = k })
    (one kept c.as_long)
