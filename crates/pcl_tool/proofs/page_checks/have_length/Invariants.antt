use Rattle.std.proofs.Common.{◌≡◌, ◌+◌, drop}
use Rattle.pcl_tool.proofs.Names.{text_bytes}
use Rattle.pcl_tool.proofs.page_checks.have_length.Given as goal

abbrev pub invariant-loop-proof : goal.invariant-loop-proof
invariant-loop-proof l = l.len + text_bytes (drop l.proof-index l.proofs) ≡ l.left + text_bytes l.proofs
