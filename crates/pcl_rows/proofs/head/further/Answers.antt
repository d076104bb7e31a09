use Rattle.std.proofs.Common.{length, ◌≡◌, refl, arith}
use Rattle.pcl_rows.proofs.Names.{take_all}
use Rattle.pcl_rows.proofs.Beginnings.{Begins-further, Begins-full}
use Rattle.pcl_rows.proofs.head.further.Goals as goal

pub returns-clause-further : goal.returns-clause-further
returns-clause-further c =
    let bytes = c.args.bytes.now in
    let end : c.loop-full.full ≡ length bytes = omega arith in
    record {
      full = length bytes;
      last = 0;
      last_in_range = omega arith;
      sum_is = omega arith;
      len_is = refl;
      begins = Begins-full bytes (cc (take_all c.loop-full.full bytes c.loop-full-test.false, c.loop-full.invariant, end));
    }

pub returns-then-byte-lt255-clause-further : goal.returns-then-byte-lt255-clause-further
returns-then-byte-lt255-clause-further c = record {
  full = c.loop-full.full;
  last = c.from.result;
  last_in_range = omega arith;
  sum_is = refl;
  len_is = refl;
  begins = Begins-further c.args.bytes.now c.loop-full.full c.from.result c.loop-full-test.true c.loop-full.invariant c.from.ensures;
}
