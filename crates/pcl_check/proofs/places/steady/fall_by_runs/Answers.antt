use Rattle.std.proofs.Common.{ℕ, ◌+◌, ◌≤◌, max, arith}
use Rattle.pcl_check.proofs.Names.{slice_index}
use Rattle.pcl_check.proofs.places.steady.fall_by_runs.Goals as goal

pub loop-place-preserved : goal.loop-place-preserved
loop-place-preserved c =
    let place : ℕ = c.loop-place.place in
    let number : ℕ → ℕ = slice_index c.args.numbers.now in
    let excess : ℕ = c.max-excess.result in
    let here : number place ≤ max (number (place + 1) + c.run_cost.result) (number (place + 2) + c.run_cost-in-loop-place.result) + excess =
    omega (arith, c.max-excess.ensures, c.saturating_sub.ensures, c.max-least.ensures) in
    let falls : number (place + 2) ≤ number (place + 1) = c.requires.steady.falls (place + 1) (place + 2) (omega arith) in
    let one = c.run_cost.ensures in
    let other = c.run_cost-in-loop-place.ensures in
    record {
      one = λ k before differs. grind (arith, c.loop-place.invariant.one k, c.max-excess.ensures, here, falls, one, other);
      two = λ k before same differs. grind (arith, c.loop-place.invariant.two k, c.max-excess.ensures, here, one, other);
      more = λ k before same third. grind (arith, c.loop-place.invariant.more k, c.max-excess.ensures, here, falls, one, other);
    }
