use Rattle.std.proofs.Common.{◌≡◌, ℕ, List, arith}
use Rattle.pcl_check.proofs.Names.{leb-true, Method, AreGoodSteps, IsSteady, IsNeedEnd, IsGoodFor}
use Rattle.pcl_check.proofs.PlaceSteps.{steps_plain, steps_runs, steps_packed, steps_delta}
use Rattle.pcl_check.proofs.SteadyPlaces.{end_of_need, literals_of_front}
use Rattle.pcl_check.proofs.places.steady.is_steady_table.Goals as goal

-- of a method, where no number grows and each of its steps is good
good_for : {said method : Method} {old row numbers : List ℕ} {end place : ℕ} → said ≡ method → IsSteady numbers
    → IsNeedEnd old row numbers end → AreGoodSteps method old row numbers place → IsGoodFor said old row numbers place
good_for {old} {row} {numbers} {place} is steady need steps = rw is (record { ends = end_of_need place steady need; steps = steps })

pub returns-in-Plain : goal.returns-in-Plain
returns-in-Plain c said place le =
    good_for c.in-Plain.is (c.is_steady.ensures c.if-not-is_steady.false) (c.is_need_end.ensures c.if-not-is_need_end.false)
    (steps_plain c.args.numbers.now c.requires.same c.requires.size le
    (λ inside. omega (arith, c.greatest_fall.ensures place inside, leb-true c.greatest_fall.result 1 said)))

pub returns-in-Runs : goal.returns-in-Runs
returns-in-Runs c said place le =
    good_for c.in-Runs.is (c.is_steady.ensures c.if-not-is_steady.false) (c.is_need_end.ensures c.if-not-is_need_end.false)
    (steps_runs c.args.numbers.now c.requires.same le (c.are_good_runs.ensures said place))

pub returns-then-are_good_runs : goal.returns-then-are_good_runs
returns-then-are_good_runs c said place le =
    let need = c.is_need_end.ensures c.if-not-is_need_end.false in
    let steady = c.is_steady.ensures c.if-not-is_steady.false in
    good_for c.in-Packed.is steady need
    (steps_packed c.args.numbers.now c.requires.same c.requires.size le
    (literals_of_front place steady need.none (omega (arith, need.within, c.requires.size))
    (c.are_good_literals.ensures said place))
    (c.are_good_runs-in-Packed.ensures c.if-are_good_runs.true place))

pub returns-in-Delta : goal.returns-in-Delta
returns-in-Delta c said place le =
    good_for c.in-Delta.is (c.is_steady.ensures c.if-not-is_steady.false) (c.is_need_end.ensures c.if-not-is_need_end.false)
    (steps_delta c.args.numbers.now c.requires.same le (c.are_good_replacements.ensures said place))
