-- What a row costs tells how many bytes of data it has.
use Rattle.std.proofs.Common.{◌≡◌, ℕ, ◌+◌, ◌^◌, ◌<◌, ◌≤◌, arith}
use Rattle.pcl_plan.proofs.Names.{row_cost, count_le, count_above, count_is}

-- of no byte
pub cost_of_none : (bytes : ℕ) → bytes ≤ 65535 → row_cost bytes ≤ 1 → 0 ≡ bytes
cost_of_none bytes small low = omega arith

-- of some bytes, whose number has one digit more than k
pub cost_of_some : (k bytes : ℕ) → bytes ≤ 65535 → 10 ^ k + k < row_cost bytes → row_cost bytes ≤ 10 ^ (k + 1) + k + 1
    → bytes + k + 2 ≡ row_cost bytes
cost_of_some k bytes small above below = grind (arith, count_le k bytes, count_is k bytes, count_above (k + 1) bytes)
