use Rattle.std.proofs.Common.{◌≡◌, ◌++◌, length, take}
use Rattle.pcl_cert.proofs.Names.{w32, to_be_bytes, flat_map, proof_bytes, proofs_in, magic}
use Rattle.pcl_cert.proofs.writing_certificates.append_certificate.Given as goal

abbrev pub invariant-loop-proof : goal.invariant-loop-proof
invariant-loop-proof l =
    l.out.items ≡ l.fn.out.items ++ magic l.format ++ to_be_bytes w32 (length l.proofs)
    ++ flat_map proof_bytes (proofs_in l.format (take l.proof-index l.proofs))
