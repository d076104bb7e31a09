-- Which counts of rows are worth skipping.
use Rattle.std.proofs.Common.{◌≡◌, ℕ, ◌+◌, ◌-◌, ◌^◌, ◌<◌, ◌≤◌, min, List, inl, inr, arith}
use Rattle.pcl_plan.proofs.Names.{cases_lt, Method, RowNumbers, node_number, skipping, IsLeastSkip, IsReadable, count_le, count_above}
use Rattle.pcl_plan.specs.declared.fill.Skip.{Skip}

-- a skip of some of this many rows
pub record IsSkipOf (table : List RowNumbers) (row : ℕ) (method : Method) (run : ℕ) (skip : Skip) : Type 0 where
  pub some : 0 < skip.count
  pub within : skip.count ≤ run
  pub number_is : skip.number ≡ skipping (node_number table) row method skip.count

pub skip_is : (table : List RowNumbers) (row : ℕ) (method : Method) (run count : ℕ) (skip : Skip) → skip.count ≡ count
    → skip.number ≡ skipping (node_number table) row method count → 0 < count → count ≤ run → IsSkipOf table row method run skip
skip_is table row method run count skip c n some within = record { some = omega arith; within = omega arith; number_is = rw c n }

-- the better of two
pub better_is : {table : List RowNumbers} {row : ℕ} {method : Method} {run : ℕ} {one other best : Skip}
    → (one.number ≤ other.number → best ≡ one) → (other.number < one.number → best ≡ other) → IsSkipOf table row method run one
    → IsSkipOf table row method run other → IsSkipOf table row method run best × (best.number ≤ one.number) × (best.number ≤ other.number)
better_is {one} {other} first second a b =
    elim (cases_lt other.number one.number) [
      | inl less ↦ rw (second less) (b, omega arith, omega arith)
      | inr more ↦ rw (first more) (a, omega arith, omega arith)
    ]

-- more rows are as good, where they need no more digits: so are the most of this many digits
most_of : {table : List RowNumbers} {row : ℕ} (method : Method) {run : ℕ} (count k : ℕ) → IsReadable table row run → 0 < count → count ≤ run
    → 10 ^ k ≤ count → count < 10 ^ (k + 1) → 10 ^ (k + 1) < 2 ^ 64
    → skipping (node_number table) row method (min run (10 ^ (k + 1) - 1)) ≤ skipping (node_number table) row method count
most_of method {run} count k is some within above below small =
    let most : ℕ = min run (10 ^ (k + 1) - 1) in
    let same = count_le (k + 1) most (omega arith) (omega arith) in
    omega (arith, is.falls method count most some (omega arith) (omega arith), count_above k count above (omega arith))

pub least_skip_is : {table : List RowNumbers} {row : ℕ} {method : Method} {run : ℕ} {best : Skip} → IsReadable table row run
    → IsSkipOf table row method run best → best.number ≤ skipping (node_number table) row method run
    → best.number ≤ skipping (node_number table) row method (min run 999)
    → best.number ≤ skipping (node_number table) row method (min run 99) → best.number ≤ skipping (node_number table) row method (min run 9)
    → IsLeastSkip (node_number table) row method run best
least_skip_is {table} {row} {method} {run} is best n4 n3 n2 n1 = record {
  bound = λ count one_row within.
      let most = λ (k : ℕ). most_of method count k is one_row within in grind (arith, most 0, most 1, most 2, most 3, is.within, is.few);
  some = best.some;
  within = best.within;
  number_is = best.number_is;
}
