use Rattle.std.proofs.Common.{◌≡◌, ◌+◌, ◌-◌, ◌*◌, ◌/◌, ℕ, List, length, take, drop, arith, refl}
use Rattle.pcl_cert.proofs.Names.{length-drop, length-take-le, drop-drop, count_at_front}
use Rattle.pcl_cert.proofs.Numbers.{numbers_of_front}
use Rattle.pcl_cert.proofs.tables.numbers_at.Goals as goal

pub returns-clause-numbers : goal.returns-clause-numbers
returns-clause-numbers c =
    let bytes = c.args.bytes.now in
    let start : ℕ = c.args.start in
    let count : ℕ = count_at_front (drop start bytes) in
    let rest : List ℕ = drop (start + 2) bytes in
    let len : start + 2 + 2 * c.from-count.result - (start + 2) ≡ 2 * count = omega (arith, c.from-count.ensures, c.word.ensures) in
    let size : length (take (2 * count) rest) ≡ 2 * count =
    length-take-le (2 * count) rest (omega (arith, c.requires.whole, length-drop (start + 2) bytes)) in
    let half : length (take (2 * count) rest) / 2 ≡ count = omega (arith, size) in
    rw (len, half, numbers_of_front count rest, drop-drop 2 start bytes) refl
