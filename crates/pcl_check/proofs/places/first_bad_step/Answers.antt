use Rattle.std.proofs.Common.{◌≡◌, ◌-◌, length, arith}
use Rattle.pcl_check.proofs.Names.{Plain, Runs, Packed, Delta, IsGoodByte, AreGoodRuns, AreGoodLiterals, AreGoodReplacements, AreGoodSteps, first_found_place}
use Rattle.pcl_check.proofs.PlacesFound.{And, finds_both, finds_place_too}
use Rattle.pcl_check.proofs.PlaceSteps.{steps_plain, steps_runs, steps_packed, steps_delta, bytes_of_steps, runs_of_steps, literals_of_steps, repeats_of_steps, replacements_of_steps}
use Rattle.pcl_check.proofs.places.first_bad_step.Goals as goal

pub returns-in-Plain : goal.returns-in-Plain
returns-in-Plain c =
    let numbers = c.args.numbers.now in
    let last : length numbers - 1 ≡ length c.args.row.now = omega (arith, c.requires.size) in
    rw c.in-Plain.is
    (finds_place_too (IsGoodByte numbers) (AreGoodSteps Plain c.args.old.now c.args.row.now numbers) c.first_bad_byte.result
    (λ place le. steps_plain numbers c.requires.same c.requires.size le) (λ place le. bytes_of_steps numbers c.requires.size)
    (rw last at c.first_bad_byte.ensures))

pub returns-in-Runs : goal.returns-in-Runs
returns-in-Runs c =
    let row = c.args.row.now in
    let numbers = c.args.numbers.now in
    rw c.in-Runs.is
    (finds_place_too (AreGoodRuns row numbers 256) (AreGoodSteps Runs c.args.old.now row numbers) c.first_bad_run.result
    (λ place le. steps_runs numbers c.requires.same le)
    (λ place le. runs_of_steps numbers) c.first_bad_run.ensures)

pub returns-in-Packed : goal.returns-in-Packed
returns-in-Packed c =
    let row = c.args.row.now in
    let numbers = c.args.numbers.now in
    let one = c.first_bad_literal.result in
    let other = c.first_bad_run-in-Packed.result in
    let last : length numbers - 1 ≡ length row = omega (arith, c.requires.size) in
    let both = finds_both (AreGoodLiterals numbers) (AreGoodRuns row numbers 128) (length row) one other
    (rw last at c.first_bad_literal.ensures) c.first_bad_run-in-Packed.ensures in
    rw (c.in-Packed.is, c.first_place.ensures)
    (finds_place_too (And (AreGoodLiterals numbers) (AreGoodRuns row numbers 128)) (AreGoodSteps Packed c.args.old.now row numbers)
    (first_found_place one other) (λ place le good. steps_packed numbers c.requires.same c.requires.size le good.0 good.1)
    (λ place le good.
    (literals_of_steps numbers c.requires.size good, repeats_of_steps numbers c.requires.size good)) both)

pub returns-in-Delta : goal.returns-in-Delta
returns-in-Delta c =
    let old = c.args.old.now in
    let row = c.args.row.now in
    let numbers = c.args.numbers.now in
    rw c.in-Delta.is
    (finds_place_too (AreGoodReplacements old row numbers) (AreGoodSteps Delta old row numbers) c.first_bad_replacement.result
    (λ place le. steps_delta numbers c.requires.same le)
    (λ place le. replacements_of_steps numbers) c.first_bad_replacement.ensures)
