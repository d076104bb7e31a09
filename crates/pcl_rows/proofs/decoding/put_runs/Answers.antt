use Rattle.std.proofs.Common.{◌*◌, arith}
use Rattle.pcl_rows.proofs.Readings.{treated_none}
use Rattle.pcl_rows.proofs.Pairs.{pair_more, pairs_all}
use Rattle.pcl_rows.proofs.Ends.{dropped, treated_full}
use Rattle.pcl_rows.proofs.decoding.put_runs.Goals as goal

pub loop-pair-init : goal.loop-pair-init
loop-pair-init c = record { within = omega arith; treated = treated_none }

pub loop-pair-preserved : goal.loop-pair-preserved
loop-pair-preserved c = record {
  within = omega (arith, c.put_copies-place.ensures.end, c.put_copies-place.auto.row);
  treated = pair_more c.loop-pair.row c.loop-pair.auto.row c.loop-pair.invariant.within c.loop-pair-test.true
      (omega (arith, c.type_inv.bytes (2 * c.loop-pair.pair))) c.from-copies.ensures c.put_copies-place.ensures.row
      c.put_copies-place.ensures.end c.loop-pair.invariant.treated;
}

pub returns-then-place-row : goal.returns-then-place-row
returns-then-place-row c =
    treated_full c.loop-pair.place c.loop-pair.auto.row (omega (arith, c.if-place-row.true))
    (dropped (2 * c.loop-pair.pair) c.args.bytes.now (λ i. omega (arith, c.type_inv.bytes i))) c.loop-pair.invariant.treated

pub returns : goal.returns
returns c =
    pairs_all (λ i. omega (arith, c.type_inv.bytes i)) c.loop-pair-test.false c.loop-pair.auto.row c.loop-pair.invariant.within
    c.loop-pair.invariant.treated
