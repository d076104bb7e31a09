use Rattle.std.proofs.Common.{◌≡◌, ◌≤◌, ◌+◌, ◌-◌, ℕ, length, sym, arith}
use Rattle.pcl_check.proofs.Names.{AreSameFrom, ends_by, ends_at, IsGoodEnd}
use Rattle.pcl_check.proofs.PlacesFound.{found_good, found_bad, found_all}
use Rattle.pcl_check.proofs.places.first_bad_end.Goals as goal

pub returns-then-old-place : goal.returns-then-old-place
returns-then-old-place c =
    let place : ℕ = c.loop-place.place in
    found_all (IsGoodEnd c.args.old.now c.args.row.now c.args.numbers.now) (length c.args.row.now) c.loop-place.found
    (λ k lt end. absurd (c.if-old-place.true (sym (ends_at c.args.old.now c.args.row.now (place - 1) end (omega arith)))))
    c.loop-place.invariant.found

pub loop-place-preserved-then-numbers-place-gt0 : goal.loop-place-preserved-then-numbers-place-gt0
loop-place-preserved-then-numbers-place-gt0 c =
    let old = c.args.old.now in
    let row = c.args.row.now in
    let place : ℕ = c.loop-place.place - 1 in
    let within : place ≤ length row = omega (arith, c.loop-place.auto.place, c.requires.size) in
    let same : AreSameFrom old row place = grind (arith, c.else-place-row.branch, c.loop-place.invariant.same) in
    record {
      found = found_bad (IsGoodEnd old row c.args.numbers.now) within
          (λ good. absurd (omega (arith, good (ends_by old row place c.requires.same same.same), c.if-numbers-place-gt0.true)));
      same = λ _. same;
    }

pub loop-place-preserved : goal.loop-place-preserved
loop-place-preserved c =
    let row = c.args.row.now in
    let place : ℕ = c.loop-place.place - 1 in
    let within : place ≤ length row = omega (arith, c.loop-place.auto.place, c.requires.size) in
    let after : c.loop-place.place ≡ place + 1 = omega (arith, c.loop-place-test.true) in
    let same : AreSameFrom c.args.old.now row place = grind (arith, c.else-place-row.branch, c.loop-place.invariant.same) in
    record {
      found = found_good (IsGoodEnd c.args.old.now row c.args.numbers.now) (length row) c.loop-place.found
          (λ end. omega (arith, c.if-numbers-place-gt0.false)) (rw after at c.loop-place.invariant.found);
      same = λ _. same;
    }

pub returns : goal.returns
returns c =
    found_all (IsGoodEnd c.args.old.now c.args.row.now c.args.numbers.now) (length c.args.row.now) c.loop-place.found
    (λ k lt. absurd (omega (arith, c.loop-place-test.false))) c.loop-place.invariant.found
