use Rattle.pcl_rows.proofs.Names.{length, leb-true, le-leb}
use Rattle.pcl_rows.proofs.Readings.{plain_is_whole}
use Rattle.pcl_rows.proofs.whole.is_whole.Goals as goal

pub returns-in-Plain : goal.returns-in-Plain
returns-in-Plain c =
    let bytes = c.args.bytes.now in
    let room = c.args.row_bytes in
    let whole = plain_is_whole bytes room in
    rw c.in-Plain.is (λ fits. whole.0 (leb-true (length bytes) room fits), λ w. le-leb (length bytes) room (whole.1 w))
