use Rattle.std.proofs.Common.{◌≡◌, ◌++◌, take}
use Rattle.pcl_cert.proofs.Names.{w16, to_be_bytes, flat_map}
use Rattle.pcl_cert.proofs.listing.append_numbers.Given as goal

abbrev pub invariant-loop-number : goal.invariant-loop-number
invariant-loop-number l = l.out.items ≡ l.fn.out.items ++ flat_map (to_be_bytes w16) (take l.number-index l.numbers)
