use Rattle.pcl_rows.proofs.Names.{ℕ, List, take-append-drop, take_rest}
use Rattle.pcl_rows.proofs.decoding.past_skipped.Goals as goal

pub returns-in-Packed : goal.returns-in-Packed
returns-in-Packed c =
    let n : ℕ = c.skipped_count.result in
    let bytes : List ℕ = c.args.bytes.now in
    (n, cc (take-append-drop n bytes, c.skipped_count.ensures.skipped, take_rest bytes n), λ _. c.in-Packed.is)
