use Rattle.std.proofs.Common.{◌≡◌, ◌+◌, length, min, replicate, flat_map, take}
use Rattle.pcl_rows.proofs.Names.{overlaid}
use Rattle.pcl_rows.proofs.decoding.put.Given as goal

abbrev pub invariant-loop-byte : goal.invariant-loop-byte
invariant-loop-byte l =
    let given = flat_map (λ byte. replicate l.copies byte) (take l.byte-index l.bytes) in
    record { row : l.row ≡ overlaid l.fn.row l.start given; place : l.place ≡ min (length l.fn.row) (l.start + length given) }
