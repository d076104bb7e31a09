-- Raw PBM images of pages.
use Rattle.std.specs.Prelude.{ℕ, List, ◌++◌, codes, decimal, Option, Result, Ok, Err}
use Rattle.std.specs.Io.KnownBytes.{Appends, Keeps}
use Rattle.pcl_base.specs.declared.dpi.Dpi.{Dpi}
use Rattle.pcl_base.specs.declared.size.Size.{Size}
use Rattle.pcl_base.specs.Size.{page_width, page_height}
use Rattle.pcl_bitmap.specs.Bitmap.{Picture}
use Rattle.pcl_streams.specs.declared.fault.Fault.{Fault}
use Rattle.pcl_streams.specs.declared.fault.Fault.TheVariants.{Refused, Memory, ReadFault, TooLong, WriteFault, NoSuchPage}
use Rattle.pcl_streams.specs.Transfer.{AppendsFront}

-- the form, the width and the height
abbrev pub header_of : Size → Dpi → List ℕ
header_of size dpi = codes "P4\n" ++ decimal (page_width size dpi) ++ codes " " ++ decimal (page_height size dpi) ++ codes "\n"

-- the header, and the rows one after the other: whole bytes, the left dot in the highest bit, 1 black
abbrev pub image_of : Picture → List ℕ
image_of picture = header_of picture.size picture.dpi ++ picture.bytes

-- the image is written; a prefix of it where a write fails, and nothing where memory runs out
abbrev pub IsImageWritten : Option (List ℕ) → Option (List ℕ) → Picture → Result (Unit {0}) Fault → Type 0
IsImageWritten old new picture (Ok unit) = Appends old new (image_of picture)
IsImageWritten old new picture (Err WriteFault) = AppendsFront old new (image_of picture)
IsImageWritten old new picture (Err Memory) = Keeps old new
IsImageWritten old new picture (Err fault) = ⊥
