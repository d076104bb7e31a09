use Rattle.std.proofs.Common.{◌≡◌, take, replicate}
use Rattle.pcl_rows.proofs.decoding.skipped_count.Given as goal

-- the bytes before are controls that give nothing
abbrev pub invariant-loop-count : goal.invariant-loop-count
invariant-loop-count l = take l.count l.bytes ≡ replicate l.count 128
