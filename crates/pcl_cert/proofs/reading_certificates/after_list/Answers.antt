use Rattle.std.proofs.Common.{◌≡◌, ◌*◌, ◌∙◌, true, false, take, drop, List, ℕ, arith, refl}
use Rattle.pcl_cert.proofs.Names.{ends_in_zero, numbers_from}
use Rattle.pcl_cert.proofs.Lists.{list_checked}
use Rattle.pcl_cert.proofs.reading_certificates.after_list.Goals as goal

pub returns-then-ends_in_zero : goal.returns-then-ends_in_zero
returns-then-ends_in_zero c =
    let count : ℕ = c.in_ok-count.count in
    let rest : List ℕ = c.in_ok-count.rest.now in
    let ends : ends_in_zero (numbers_from count (take (2 * count) rest)) ≡ true = cc in
    list_checked c.args.bytes.now c.in_ok-count.ensures (omega arith) (omega arith) ∙ rw ends refl

pub returns : goal.returns
returns c =
    let count : ℕ = c.in_ok-count.count in
    let rest : List ℕ = c.in_ok-count.rest.now in
    let ends : ends_in_zero (numbers_from count (take (2 * count) rest)) ≡ false = cc in
    let back : drop (2 * count) rest ≡ c.split_at.result.1.now = cc in
    list_checked c.args.bytes.now c.in_ok-count.ensures (omega arith) (omega arith) ∙ rw (ends, back) refl
