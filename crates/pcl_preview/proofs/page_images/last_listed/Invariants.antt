use Rattle.std.proofs.Common.{◌≡◌, take}
use Rattle.pcl_preview.proofs.Names.{last_listed}
use Rattle.pcl_preview.proofs.page_images.last_listed.Given as goal

abbrev pub invariant-loop-before : goal.invariant-loop-before
invariant-loop-before l = l.last ≡ last_listed (take l.before l.flags)
