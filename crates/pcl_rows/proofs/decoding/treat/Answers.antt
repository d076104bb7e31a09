use Rattle.std.proofs.Common.{◌≡◌, ◌<◌, length, [], sym, ◌∙◌, arith}
use Rattle.pcl_rows.proofs.Names.{eqb-true, eqb-false, nil_from_length}
use Rattle.pcl_rows.proofs.Readings.{treated_more, treated_all, treated_none, treated_skipped, past_skipped_length, rest_shorter}
use Rattle.pcl_rows.proofs.Ends.{rest_bytes, skipped_bytes, treated_full}
use Rattle.pcl_rows.proofs.decoding.treat.Goals as goal

pub loop-rest-init : goal.loop-rest-init
loop-rest-init c = record {
  within = omega arith;
  treated = treated_skipped c.past_skipped-rest.result.now c.args.row.now 0 c.past_skipped-rest.ensures treated_none;
  bytes = skipped_bytes c.past_skipped-rest.result.now c.past_skipped-rest.ensures (λ i. omega (arith, c.type_inv.bytes i));
}

pub loop-rest-preserved : goal.loop-rest-preserved
loop-rest-preserved c = record {
  within = omega (arith, c.put-place.ensures.end, c.put-place.auto.row);
  treated = treated_skipped c.past_skipped-rest-in-loop-rest.result.now c.put-place.new.row c.put-place.result
      c.past_skipped-rest-in-loop-rest.ensures (treated_more c.loop-rest.row
      c.loop-rest.auto.row c.loop-rest.invariant.within c.skip-place.ensures c.read-front.ensures.front c.put-place.ensures.row
      c.put-place.ensures.end c.loop-rest.invariant.treated);
  bytes = rest_bytes c.past_skipped-rest-in-loop-rest.result.now c.read-front.ensures.front c.past_skipped-rest-in-loop-rest.ensures
      c.loop-rest.invariant.bytes;
}

pub loop-rest-smaller : goal.loop-rest-smaller
loop-rest-smaller c =
    let some : 0 < length c.loop-rest.rest.now =
    omega (arith, eqb-false (length c.loop-rest.rest.now) 0 (sym c.is_empty.ensures ∙ c.loop-rest-test.true)) in
    let left = c.past_skipped-rest-in-loop-rest in
    let shorter = past_skipped_length c.read-front.result.rest.now left.result.now left.ensures in
    omega (arith, rest_shorter some c.read-front.ensures.front)

pub returns-then-place-row : goal.returns-then-place-row
returns-then-place-row c =
    treated_full c.loop-rest.place c.loop-rest.auto.row (omega (arith, c.if-place-row.true)) c.loop-rest.invariant.bytes
    c.loop-rest.invariant.treated

pub returns : goal.returns
returns c =
    let none : c.loop-rest.rest.now ≡ [] =
    nil_from_length c.loop-rest.rest.now (eqb-true (length c.loop-rest.rest.now) 0 (sym c.is_empty.ensures ∙ c.loop-rest-test.false)) in
    treated_all c.loop-rest.place c.loop-rest.auto.row (rw none at c.loop-rest.invariant.treated)
