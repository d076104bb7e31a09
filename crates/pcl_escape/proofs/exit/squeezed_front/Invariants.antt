use Rattle.std.proofs.Common.{◌≡◌, take}
use Rattle.pcl_escape.proofs.Names.{squeezed}
use Rattle.pcl_escape.proofs.exit.squeezed_front.Given as goal

-- the front of what the line says so far
abbrev pub invariant-loop-byte : goal.invariant-loop-byte
invariant-loop-byte l = l.front.items ≡ take 22 (squeezed (take l.byte-index l.line))
