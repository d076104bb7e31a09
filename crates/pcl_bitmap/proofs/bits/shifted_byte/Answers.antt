use Rattle.std.proofs.Common.{◌∙◌, arith}
use Rattle.pcl_bitmap.proofs.Bytes.{shifted_bits}
use Rattle.pcl_bitmap.proofs.bits.shifted_byte.Goals as goal
use Rattle.pcl_bitmap.proofs.bits.shifted_byte.Goals.{then-index-gt0, else-index-gt0}

pub returns : goal.returns
returns c k small =
    let shifted =
    shifted_bits c.args.source.now c.if-index-gt0.before c.byte_at.result c.args.index c.args.shift k (omega arith) (omega arith)
    c.byte_at.ensures in
    rw c.bits_of_pair.ensures (elim c.if-index-gt0.branch [
      | then-index-gt0 w ↦ shifted (λ _. w.before-is ∙ w.byte_at-before.ensures) (λ none. absurd (omega arith)) small
      | else-index-gt0 w ↦ shifted (λ some. absurd (omega arith)) (λ _. w.before-is) small
    ])
