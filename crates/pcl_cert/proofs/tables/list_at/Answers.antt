use Rattle.std.proofs.Common.{◌≡◌, ◌+◌, ◌-◌, ◌*◌, ◌≤◌, ℕ, List, sym, drop, length, arith}
use Rattle.pcl_cert.proofs.Names.{length-drop, count_at_front}
use Rattle.pcl_cert.proofs.FieldsRead.{rest_bytes}
use Rattle.pcl_cert.proofs.Numbers.{list_spelled}
use Rattle.pcl_cert.proofs.tables.list_at.Goals as goal

pub returns : goal.returns
returns c =
    let bytes : List ℕ = drop c.args.start c.args.bytes.now in
    let whole : 2 + 2 * count_at_front bytes ≤ length bytes = omega (arith, c.requires.whole, length-drop c.args.start c.args.bytes.now) in
    let len : c.args.start + 2 + 2 * c.from-numbers.result - c.args.start ≡ 2 + 2 * count_at_front bytes =
    omega (arith, c.from-numbers.ensures, c.word.ensures) in
    rw len (sym (list_spelled bytes (rest_bytes c.args.start c.args.bytes.now (λ i. omega (arith, c.type_inv.bytes i))) whole))
