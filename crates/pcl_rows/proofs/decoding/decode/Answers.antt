use Rattle.pcl_rows.proofs.Names.{Plain, Runs, Packed, Delta}
use Rattle.pcl_rows.proofs.Readings.{row_of_plain, decodes_from}
use Rattle.pcl_rows.proofs.decoding.decode.Goals as goal

pub returns-in-Plain : goal.returns-in-Plain
returns-in-Plain c =
    decodes_from c.args.method Plain c.args.seed.now c.args.bytes.now c.put_bytes.new.row {old = c.fill.new.self} c.in-Plain.is
    (rw c.put_bytes.ensures.row (row_of_plain c.args.bytes.now c.fill.new.self)) (rw c.requires (c.fill.ensures.after (λ y e. e)))

pub returns-in-Runs : goal.returns-in-Runs
returns-in-Runs c = decodes_from c.args.method Runs c.args.seed.now c.args.bytes.now c.put_runs.new.row c.in-Runs.is c.put_runs.ensures
    (rw c.requires (c.fill-in-Runs.ensures.after (λ y e. e)))

pub returns-in-Packed : goal.returns-in-Packed
returns-in-Packed c = decodes_from c.args.method Packed c.args.seed.now c.args.bytes.now c.treat.new.row c.in-Packed.is c.treat.ensures
    (rw c.requires (c.fill-in-Packed.ensures.after (λ y e. e)))

pub returns-in-Delta : goal.returns-in-Delta
returns-in-Delta c =
    decodes_from c.args.method Delta c.args.seed.now c.args.bytes.now c.treat-in-Delta.new.row c.in-Delta.is c.treat-in-Delta.ensures (cc)
