use Rattle.pcl_rows.proofs.Names.{arith}
use Rattle.pcl_rows.proofs.Beginnings.{front_read}
use Rattle.pcl_rows.proofs.front.Front.read.Goals as goal

pub returns-clause-front : goal.returns-clause-front
returns-clause-front c =
    let opens = c.read-opening.ensures.opens in
    let parts = front_read c.args.bytes.now opens.head c.requires opens.begins (omega (arith, opens.len_is))
    (omega (arith, opens.count_is)) opens.count_is c.split_at.ensures.back c.split_at-2.ensures.front c.split_at-2.ensures.back in
    record { head = opens.head; head_is = opens.head_is; offset_is = opens.offset_is; copies_is = opens.copies_is; parts = parts }
