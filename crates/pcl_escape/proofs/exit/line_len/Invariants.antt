use Rattle.std.proofs.Common.{◌≡◌, ◌+◌, drop}
use Rattle.pcl_escape.proofs.Names.{line_len}
use Rattle.pcl_escape.proofs.exit.line_len.Given as goal

-- no LF so far
abbrev pub invariant-loop-i : goal.invariant-loop-i
invariant-loop-i l = line_len l.bytes ≡ l.i + line_len (drop l.i l.bytes)
