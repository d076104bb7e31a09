use Rattle.std.proofs.Common.{◌≡◌, ℕ, ◌+◌, ◌*◌, ◌/◌, ◌%◌, ◌^◌, ◌<◌, ◌≤◌, nat_eq, true, bit_and, bit_or, refl, ap, ◌∙◌, arith}
use Rattle.pcl_bitmap.proofs.Names.{bit_at, agree_below, agree_below_at, eqb-true, and_le_r, or_of_16, bit_at_above}
use Rattle.pcl_bitmap.proofs.squares.doubled_bits.Goals as goal

-- what the code makes of a byte
abbrev apart : (n k mask : ℕ) → ℕ
apart n k mask = bit_and (bit_or n (n * 2 ^ k % 65536)) mask

abbrev doubled : ℕ → ℕ
doubled byte =
    let bits = apart (apart (apart byte 4 3855) 2 13107) 1 21845 in
    bit_or bits (bits * 2 % 65536)

-- each of the 16 bits of each of the 256 bytes, computed
doubled_all : agree_below (λ n. nat_eq (bit_at (doubled (n / 16)) (n % 16)) (bit_at (n / 16) (n % 16 / 2))) (λ _. true) 4096 ≡ true
doubled_all = refl

doubled_low : (byte j : ℕ) → byte < 256 → j < 16 → bit_at (doubled byte) j ≡ bit_at byte (j / 2)
doubled_low byte j small low =
    let row : (16 * byte + j) / 16 ≡ byte = omega arith in
    let bit : (16 * byte + j) % 16 ≡ j = omega arith in
    let same =
    agree_below_at (λ n. nat_eq (bit_at (doubled (n / 16)) (n % 16)) (bit_at (n / 16) (n % 16 / 2))) (λ _. true) 4096 (16 * byte + j)
    doubled_all (omega arith) in
    eqb-true _ _ (rw (row, bit) at same)

doubled_fits : (bits : ℕ) → bits < 65536 → bit_or bits (bits * 2 % 65536) < 2 ^ 16
doubled_fits bits small = or_of_16 bits (bits * 2 % 65536) (omega arith) (omega arith)

doubled_is : (byte j : ℕ) → byte < 256 → bit_at (doubled byte) j ≡ bit_at byte (j / 2)
doubled_is byte j small =
    let pairs : ℕ = apart (apart byte 4 3855) 2 13107 in
    let few : apart pairs 1 21845 ≤ 21845 = and_le_r (bit_or pairs (pairs * 2 ^ 1 % 65536)) 21845 in
    let fits = doubled_fits (apart pairs 1 21845) (omega arith) in
    grind (arith, doubled_low byte j small, bit_at_above (doubled byte) 16 j fits, bit_at_above byte 8 (j / 2) small)

pub returns : goal.returns
returns c j = doubled_is c.from-byte.result j (omega arith) ∙ ap (λ n. bit_at n (j / 2)) c.from-byte.ensures
