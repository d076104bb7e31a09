use Rattle.std.proofs.Common.{take, append_assoc, arith, length, ◌<◌}
use Rattle.pcl_cert.proofs.Names.{flat_more, front_stays, no_numbers, row_bytes, table_bytes}
use Rattle.pcl_cert.proofs.writing_certificates.append_table.Goals as goal

pub returns-in_err-append_row-clause-front : goal.returns-in_err-append_row-clause-front
returns-in_err-append_row-clause-front c =
    front_stays c.append_row.new.out.items (table_bytes (take c.loop-row.row c.args.table.now)) c.loop-row.invariant
    c.append_row.ensures.front

pub loop-row-preserved : goal.loop-row-preserved
loop-row-preserved c =
    let lt : c.loop-row.row < length c.args.table.now = omega (arith, c.loop-row-test.true, c.rows-row-end.ensures) in
    rw (c.in_ok-append_row.ensures.ok, c.loop-row.invariant, c.row.ensures, flat_more row_bytes c.args.table.now no_numbers lt)
    (append_assoc c.args.out.now.items (table_bytes (take c.loop-row.row c.args.table.now)) _)
