-- Data has one reading.
use Rattle.std.proofs.Common.{◌≡◌, ℕ, List, length, arith}
use Rattle.pcl_rows.proofs.Names.{Method, RowFrom}
use Rattle.pcl_rows.proofs.Decoded.{treated_is}

pub one_row : (method : Method) (bytes old row other : List ℕ) → RowFrom method bytes old row → RowFrom method bytes old other → row ≡ other
one_row method bytes old row other f g =
    cc (f.4, g.4, treated_is (length bytes) f.0 old f.3 (omega arith), treated_is (length bytes) g.0 old g.3 (omega arith))
