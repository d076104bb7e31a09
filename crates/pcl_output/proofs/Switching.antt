-- The numbers of a row, with a switch of the method or without.
use Rattle.std.proofs.Common.{◌≡◌, ℕ, ◌+◌, ◌≤◌, min, inl, inr, arith}
use Rattle.pcl_output.proofs.Names.{cases_lt, Method, Plain, Runs, Packed, Delta, ByMethod, RowNumbers, by_method, IsSwitched, switching}
use Rattle.pcl_output.proofs.DigitCounts.{count_is, count_of_none}

-- what the letter and the number of a method cost
abbrev pub switch_cost : Method → ℕ
switch_cost Plain = 1
switch_cost Runs = 2
switch_cost Packed = 2
switch_cost Delta = 2

pub switching_is : (next : Method) → switching next ≡ switch_cost next
switching_is next = grind (arith, count_of_none, count_is 0 1, count_is 0 2, count_is 0 3)

-- the least that comes after a switch
pub record IsLeastSwitch (direct : ByMethod) (switched : ℕ) : Type 0 where
  pub bound : (next : Method) → switched ≤ switch_cost next + by_method direct next
  pub attained : (next : Method) × (switched ≡ switch_cost next + by_method direct next)

pub least_switch : {direct : ByMethod} {first others switched : ℕ} → first ≡ min direct.runs direct.packed → others ≡ min first direct.delta
    → switched ≡ min (direct.plain + 1) (others + 2) → IsLeastSwitch direct switched
least_switch {direct} {first} {others} f o s = record {
  bound = λ next. grind arith;
  attained =
      elim (cases_lt others direct.plain) [
        | inr high ↦ (Plain, omega arith)
        | inl low ↦
            elim (cases_lt first direct.delta) [
              | inr more ↦ (Delta, omega arith)
              | inl less ↦ elim (cases_lt direct.runs direct.packed) [ inl runs ↦ (Runs, omega arith) | inr packed ↦ (Packed, omega arith) ]
            ]
      ];
}

pub switched_numbers : {direct : ByMethod} {switched : ℕ} {numbers : RowNumbers} → IsLeastSwitch direct switched
    → ((method : Method) → by_method numbers.inside method ≡ min (by_method direct method) switched)
    → ((method : Method) → by_method numbers.outside method ≡ by_method numbers.inside method + 3) → IsSwitched (by_method direct) numbers
switched_numbers {direct} {switched} least inside outside = record {
  stays = λ method. omega (arith, inside method);
  switches = λ method next. omega (arith, inside method, least.bound next, switching_is next);
  attained = λ method. grind (arith, inside method, least.attained, switching_is);
  opens = λ method. omega (arith, outside method);
}
