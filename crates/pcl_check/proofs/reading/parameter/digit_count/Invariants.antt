use Rattle.std.proofs.Common.{◌≡◌, ◌+◌, drop}
use Rattle.pcl_check.proofs.Names.{prefix_len, is_digit}
use Rattle.pcl_check.proofs.reading.parameter.digit_count.Given as goal

-- all so far are digits
abbrev pub invariant-loop-i : goal.invariant-loop-i
invariant-loop-i l = prefix_len is_digit l.bytes ≡ l.i + prefix_len is_digit (drop l.i l.bytes)
