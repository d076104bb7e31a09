use Rattle.std.proofs.Common.{◌≡◌, ◌+◌, drop}
use Rattle.pcl_escape.proofs.Names.{prefix_len, is_text}
use Rattle.pcl_escape.proofs.step.text_len.Given as goal

-- all so far are text
abbrev pub invariant-loop-i : goal.invariant-loop-i
invariant-loop-i l = prefix_len is_text l.bytes ≡ l.i + prefix_len is_text (drop l.i l.bytes)
