use Rattle.std.proofs.Common.{sym, ap, ◌∙◌}
use Rattle.pcl_bitmap.proofs.Names.{is_black_ink}
use Rattle.pcl_bitmap.proofs.Bytes.{bit_of_byte-all}
use Rattle.pcl_bitmap.proofs.fills.eight_dots.Goals as goal

pub returns-in-Black : goal.returns-in-Black
returns-in-Black c k small = bit_of_byte-all small ∙ ap is_black_ink (sym c.in-Black.is)
