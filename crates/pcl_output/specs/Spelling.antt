-- The shortest spelling of a number, and what parameters cost.
use Rattle.std.specs.Prelude.{ℕ, zero, suc, ◌+◌, List, [], length, decimal}
use Rattle.pcl_base.specs.declared.method.Method.{Method}
use Rattle.pcl_base.specs.Method.{method_code}

-- decimal without leading zeros, and 0 without a digit
abbrev pub least_spelling : ℕ → List ℕ
least_spelling zero = []
least_spelling (suc n) = decimal (suc n)

-- how many digits a number needs
unfoldable pub digit_count : ℕ → ℕ
digit_count n = length (least_spelling n)

-- a setting: the digits of its number, and its letter
abbrev pub setting_cost : ℕ → ℕ
setting_cost number = digit_count number + 1

-- a row of this many bytes of data
abbrev pub row_cost : ℕ → ℕ
row_cost bytes = setting_cost bytes + bytes

-- a method
abbrev pub switching : Method → ℕ
switching next = setting_cost (method_code next)
