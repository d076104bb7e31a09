use Rattle.std.proofs.Common.{◌≡◌, length, arith}
use Rattle.pcl_same.proofs.KeptRows.{changes_written}
use Rattle.pcl_same.proofs.row_data.append_row.Goals as goal

pub returns-in-None : goal.returns-in-None
returns-in-None c =
    let begin : c.len-start.result ≡ length c.args.out.now.items = omega (arith, c.len-start.ensures) in
    changes_written c.in_ok-append_changes.ensures begin (rw c.deref.ensures.value at c.decode.ensures) c.in-None.ensures
