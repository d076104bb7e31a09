use Rattle.std.proofs.Common.{◌≡◌, ◌+◌, ◌-◌, ◌*◌, arith}
use Rattle.pcl_bitmap.proofs.bitmap.Bitmap.row.Goals as goal

pub returns-clause-bytes : goal.returns-clause-bytes
returns-clause-bytes c =
    let start = c.args.y * c.row_bytes-len.result in
    let count : start + c.row_bytes-len.result - start ≡ c.row_bytes-len.result = omega arith in
    rw (← c.self.view_is, count, c.deref.ensures.value, c.row_bytes-len.ensures)
