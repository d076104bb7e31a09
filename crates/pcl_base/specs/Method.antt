-- Methods of row data by their numbers.
use Rattle.std.specs.Prelude.{ℕ, ◌==◌, if◌then◌else◌, Option, Some, None}
use Rattle.pcl_base.specs.declared.method.Method.{Method}
use Rattle.pcl_base.specs.declared.method.Method.TheVariants.{Plain, Runs, Packed, Delta}

-- the number of the method in a command that sets it
abbrev pub method_code : Method → ℕ
method_code Plain = 0
method_code Runs = 1
method_code Packed = 2
method_code Delta = 3

-- the method of a number, where it is from 0 to 3
abbrev pub method_with_code : ℕ → Option Method
method_with_code code =
    if code == 0 then Some Plain
    else (if code == 1 then Some Runs
    else (if code == 2 then Some Packed
    else (if code == 3 then Some Delta else None)))
