use Rattle.std.proofs.Common.{◌≡◌, ◌++◌, List, ℕ, take, length, ◌∙◌, append_assoc}
use Rattle.pcl_cert.proofs.Names.{w32, to_be_bytes, flat_map, front_stays, proof_bytes, proofs_in, magic}
use Rattle.pcl_cert.proofs.Written.{proof_is}
use Rattle.pcl_cert.proofs.writing_certificates.append_certificate.Goals as goal

pub append_proof-requires : goal.append_proof-requires
append_proof-requires c = (c.requires.0, rw c.proof-item.is (proof_is c.args.proofs.now _ _ c.requires.1.1 c.loop-proof-test.true))

pub returns-in_err-append_proof-clause-front : goal.returns-in_err-append_proof-clause-front
returns-in_err-append_proof-clause-front c =
    let head : List ℕ = magic c.args.format ++ to_be_bytes w32 (length c.args.proofs.now) in
    let pages : List ℕ = flat_map proof_bytes (proofs_in c.args.format (take c.loop-proof.proof-index c.args.proofs.now)) in
    let joined : c.loop-proof.out.items ≡ c.args.out.now.items ++ (head ++ pages) = c.loop-proof.invariant ∙ simp append_assoc in
    front_stays c.append_proof.new.out.items (head ++ pages) joined c.append_proof.ensures.front
