use Rattle.std.proofs.Common.{◌≡◌, ℕ, ◌+◌, ◌≤◌, true, min, arith}
use Rattle.pcl_check.proofs.Names.{Method, Plain, Runs, Packed, Delta, not, Node, rest, node_number, rest_below, best_end, switch_cost, switching_is, number_at, AreGoodSwitches}
use Rattle.pcl_check.proofs.edges.are_good_switches.Goals as goal

-- a number that a switch to no method undercuts
within_rests : (number : Node → ℕ) (row n : ℕ) (next : Method) → n ≤ 1 + rest number row Plain
    → n ≤ 2 + min (min (rest number row Runs) (rest number row Packed)) (rest number row Delta)
    → n ≤ switch_cost next + rest number row next
within_rests number row n next plain others = grind arith

switch_within : (number : Node → ℕ) {row : ℕ} {method : Method} (next : Method) → AreGoodSwitches number method row
    → number_at number row method true ≤ switch_cost next + rest number row next
switch_within number {row} next good =
    let best = best_end number row next in omega (arith, good next (not best.0), switching_is next, best.1)

pub returns-then-is_within : goal.returns-then-is_within
returns-then-is_within c =
    let number = node_number c.args.table.now in
    let n : ℕ = number_at number c.args.row c.args.method true in
    let others : c.min-then-is_within.result ≡ min (min (rest number c.args.row Runs) (rest number c.args.row Packed))
    (rest number c.args.row Delta) =
    omega (arith, c.min-then-is_within.ensures, c.min.ensures, c.rest-runs.ensures, c.rest-packed.ensures, c.rest-delta.ensures) in (
      λ is next inside.
          let all = within_rests number c.args.row n next
          (omega (arith, c.number-number.ensures, c.rest-plain.ensures, c.is_within.ensures.0 c.if-is_within.true))
          (omega (arith, c.number-number.ensures, c.is_within-then-is_within.ensures.0 is, others)) in
          omega (arith, all, switching_is next, rest_below number c.args.row next inside),
      λ good.
          let runs = switch_within number Runs good in
          let packed = switch_within number Packed good in
          let delta = switch_within number Delta good in
          c.is_within-then-is_within.ensures.1 (omega (arith, c.number-number.ensures, others)),
    )

pub returns-else-is_within : goal.returns-else-is_within
returns-else-is_within c = (
  λ is. absurd cc,
  λ good. c.is_within.ensures.1
      (omega (arith, c.number-number.ensures, c.rest-plain.ensures, switch_within (node_number c.args.table.now) Plain good)),
)
