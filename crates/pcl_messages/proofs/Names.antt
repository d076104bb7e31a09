-- What proofs of this crate name of std, of the crates below, and of its own definitions; those above take these from here too.
pub use Rattle.pcl_base.proofs.Names.{Bor, OnOk, Vec, codes, decimal, on_ok_weaker, refusal_text, rules}
pub use Rattle.pcl_base.specs.declared.{method.Method.Method}
pub use Rattle.pcl_cert.specs.declared.{check.Verdict.TheVariants.Edge}
pub use Rattle.pcl_streams.specs.declared.{fault.Fault.Fault}
pub use Rattle.pcl_tool.specs.declared.{job_verdict.JobVerdict.JobVerdict, job_verdict.JobVerdict.TheVariants.Proved}
pub use Rattle.pcl_messages.specs.{Faults.line_of, Faults.text_of, Verdicts.numbers_text, Verdicts.openness_text, Verdicts.verdict_status_for, Verdicts.verdict_text}
