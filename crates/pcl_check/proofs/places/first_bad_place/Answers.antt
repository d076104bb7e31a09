use Rattle.pcl_check.proofs.Names.{ℕ, length, base, IsGoodPlace, IsGoodEnd, AreGoodSteps, first_found_place}
use Rattle.pcl_check.proofs.PlacesFound.{And, finds_both, finds_place_too}
use Rattle.pcl_check.proofs.PlaceSteps.{table_of_good, finds_table}
use Rattle.pcl_check.proofs.places.first_bad_place.Goals as goal

pub returns-then-is_steady_table : goal.returns-then-is_steady_table
returns-then-is_steady_table c =
    table_of_good c.requires.size
    (λ place le.
    let good = rw c.base_row-old.ensures at (c.is_steady_table.ensures c.if-is_steady_table.true place le) in
    record { steps = good.steps; ends = good.ends })

pub returns : goal.returns
returns c =
    let method = c.args.method in
    let seed = c.args.seed.now in
    let row = c.args.row.now in
    let numbers = c.args.numbers.now in
    let End : ℕ → Type 0 = IsGoodEnd (base method seed) row numbers in
    let Steps : ℕ → Type 0 = AreGoodSteps method (base method seed) row numbers in
    let both = finds_both End Steps (length row) c.first_bad_end-end.result c.first_bad_step-step.result
    (rw c.base_row-old.ensures at c.first_bad_end-end.ensures) (rw c.base_row-old.ensures at c.first_bad_step-step.ensures) in
    finds_table method seed row numbers c.first_place.result c.requires.size
    (rw c.first_place.ensures
    (finds_place_too (And End Steps) (IsGoodPlace method seed row numbers)
    (first_found_place c.first_bad_end-end.result c.first_bad_step-step.result) (λ place le good. record { steps = good.1; ends = good.0 })
    (λ place le good. (good.ends, good.steps)) both))
