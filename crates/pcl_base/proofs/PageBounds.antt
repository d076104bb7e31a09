-- How large pages are at most: Legal is the highest, Letter and Legal are the widest, at 600 dots per inch.
use Rattle.std.proofs.Common.{◌<◌, ◌≤◌, arith}
use Rattle.pcl_base.proofs.Names.{Dpi, Size, page_width, page_height, page_row_bytes}

pub width_small : (size : Size) (dpi : Dpi) → page_width size dpi ≤ 4800
width_small size dpi = grind arith

pub height_small : (size : Size) (dpi : Dpi) → page_height size dpi ≤ 8400
height_small size dpi = grind arith

pub height_some : (size : Size) (dpi : Dpi) → 0 < page_height size dpi
height_some size dpi = grind arith

pub row_small : (size : Size) (dpi : Dpi) → page_row_bytes size dpi ≤ 600
row_small size dpi = omega (arith, width_small size dpi)
