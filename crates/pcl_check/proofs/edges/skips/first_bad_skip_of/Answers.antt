use Rattle.std.proofs.Common.{◌≡◌, true, ℕ, ◌+◌, ◌-◌, ◌≤◌, List, arith, length, refl, below_more}
use Rattle.pcl_check.proofs.Names.{not, Method, IsLeastOf, Node, rest, node_number, rest_below, best_end, number_at, AreGoodSkipsOf, iff_false}
use Rattle.pcl_check.proofs.StepWindows.{last_of, IsNextWindow, least_below, least_reached, window_begins, window_next}
use Rattle.pcl_check.proofs.Found.{first_at}
use Rattle.pcl_check.proofs.edges.skips.first_bad_skip_of.Goals as goal
use Rattle.pcl_check.proofs.edges.skips.first_bad_skip_of.Goals.{else-last-row-via-then-last-row+else-not-is_within, else-last-row-via-else-last-row}

skips_by_window : {ends : List ℕ} (number : Node → ℕ) {method : Method} (digits : ℕ) {most : ℕ} {filled taken : List ℕ}
    {row stop far least : ℕ} → IsNextWindow ends (λ y. rest number y method) most filled taken row stop far
    → far ≡ last_of ends most row → IsLeastOf taken least
    → number_at number row method true ≤ digits + 1 + least → AreGoodSkipsOf ends number method digits most row
skips_by_window number {method = method} digits {row = row} next farthest is le = λ count inside some few within.
    let least = least_below next is (row + count) (omega arith) (omega (arith, farthest)) in
    omega (arith, le, rest_below number (row + count) method inside)

window_by_skips : {ends : List ℕ} (number : Node → ℕ) {method : Method} (digits : ℕ) {most : ℕ} {filled taken : List ℕ}
    {row stop far least : ℕ} → IsNextWindow ends (λ y. rest number y method) most filled taken row stop far
    → far ≡ last_of ends most row → IsLeastOf taken least
    → AreGoodSkipsOf ends number method digits most row → number_at number row method true ≤ digits + 1 + least
window_by_skips number {method = method} digits {row = row} next farthest is good =
    let at = least_reached next is in
    let best = best_end number at.0 method in
    let kept = good (at.0 - row) (not best.0) (omega (arith, at.1)) (omega (arith, at.2, farthest)) (omega (arith, at.1, at.2, farthest)) in
    grind (arith, kept, at.1, best.1, at.3)

pub loop-row-init : goal.loop-row-init
loop-row-init c = record {
  good = λ k lt. absurd (omega arith);
  window = window_begins c.new-window.ensures.numbers;
  room = omega (arith, c.new-window.ensures.room, c.requires.room);
}

pub take-requires : goal.take-requires
take-requires c =
    (window_next {value = λ y. rest (node_number c.args.table.now) y c.args.method} c.requires.ends
    (omega (arith, c.loop-row-test.true, c.requires.size)) c.requires.most.0
    c.loop-row.invariant.window c.min-last.ensures c.put_rests.ensures.numbers refl).some

pub least-requires : goal.least-requires
least-requires c =
    let next = window_next {value = λ y. rest (node_number c.args.table.now) y c.args.method} c.requires.ends
    (omega (arith, c.loop-row-test.true, c.requires.size)) c.requires.most.0
    c.loop-row.invariant.window c.min-last.ensures c.put_rests.ensures.numbers c.take.ensures.numbers in
    omega (arith, next.size, c.if-last-row.true)

pub returns-then-not-is_within : goal.returns-then-not-is_within
returns-then-not-is_within c =
    let number = node_number c.args.table.now in
    let le : c.loop-row.row ≤ length c.args.table.now - 1 = omega (arith, c.loop-row-test.true, c.requires.size) in
    let next = window_next {value = λ y. rest number y c.args.method} c.requires.ends le c.requires.most.0
    c.loop-row.invariant.window c.min-last.ensures c.put_rests.ensures.numbers c.take.ensures.numbers in
    first_at (AreGoodSkipsOf c.args.ends.now number c.args.method c.args.digits c.args.most) le
    (λ good. iff_false c.is_within.ensures c.if-not-is_within.true
    (omega (arith, c.number.ensures, window_by_skips number c.args.digits next c.min-last.ensures c.least.ensures good)))
    c.loop-row.invariant.good

pub loop-row-preserved : goal.loop-row-preserved
loop-row-preserved c =
    let number = node_number c.args.table.now in
    let row = c.loop-row.row in
    let next = window_next {value = λ y. rest number y c.args.method} c.requires.ends
    (omega (arith, c.loop-row-test.true, c.requires.size)) c.requires.most.0
    c.loop-row.invariant.window c.min-last.ensures c.put_rests.ensures.numbers c.take.ensures.numbers in
    let Good : ℕ → Type 0 = AreGoodSkipsOf c.args.ends.now number c.args.method c.args.digits c.args.most in
    let here : Good row = elim c.else-last-row.branch [
      | else-last-row-via-then-last-row+else-not-is_within w ↦
          skips_by_window number c.args.digits next c.min-last.ensures w.least.ensures
          (omega (arith, w.number.ensures, w.is_within.ensures.0 w.if-not-is_within.false))
      | else-last-row-via-else-last-row w ↦ λ count inside some few within. absurd (omega (arith, c.min-last.ensures, w.if-last-row.false))
    ] in
    record {
      good = below_more Good row c.loop-row.invariant.good here;
      window = next.window;
      room = omega (arith, c.take.ensures.room, c.put_rests.ensures.room, c.loop-row.invariant.room, next.grows);
    }
