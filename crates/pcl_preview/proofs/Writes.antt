-- What a writer holds of an image.
use Rattle.std.proofs.Common.{◌≡◌, ℕ, List, ◌++◌, Option, Result, Ok, Err, append_assoc}
use Rattle.pcl_preview.proofs.Names.{Appends, Appends-trans, Picture, Fault, WriteFault, IsWritten, Dpi, Size, header_of, IsImageWritten}

-- where a write fails nothing else is
pub stopped_in_header : (old new : Option (List ℕ)) (picture : Picture) {text : List ℕ} (fault : Fault)
    → text ≡ header_of picture.size picture.dpi → IsWritten old new text (Err fault) → IsImageWritten old new picture (Err fault)
stopped_in_header old new picture WriteFault e h = (h.0, h.1 ++ picture.bytes, rw (← append_assoc h.0 h.1 picture.bytes, ← h.2, e), h.3)
stopped_in_header old new picture fault e h = absurd h

-- the header was written, and then the rows or a prefix of them
pub rows_written : (old middle new : Option (List ℕ)) (picture : Picture) {text rows : List ℕ} (result : Result (Unit {0}) Fault)
    → text ≡ header_of picture.size picture.dpi → rows ≡ picture.bytes
    → Appends old middle text → IsWritten middle new rows result → IsImageWritten old new picture result
rows_written old middle new picture (Ok done) e f a h =
    Appends-trans old middle new (header_of picture.size picture.dpi) picture.bytes (rw e at a) (rw f at h)
rows_written old middle new picture {text} (Err WriteFault) e f a h =
    (text ++ h.0, h.1, rw (append_assoc text h.0 h.1, ← h.2, e, f), Appends-trans old middle new text h.0 a h.3)
rows_written old middle new picture result e f a h = absurd h

-- the bytes of a header
pub header_is : {text items : List ℕ} {size same_size : Size} {dpi same_dpi : Dpi} → text ≡ items → items ≡ header_of size dpi
    → size ≡ same_size → dpi ≡ same_dpi → text ≡ header_of same_size same_dpi
header_is t i s d = cc
