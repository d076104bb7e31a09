-- What a run leaves, where one of several ways left it.
use Rattle.std.specs.Prelude.{◌≡◌}

-- what holds of the files, the reader, the writer and the ending of that way holds of what they are called after it
pub left_so : {F R W E : Type 0} (Holds : F → R → W → E → Type 0) {files files_there : F} {reader reader_there : R} {out out_there : W}
    {ended ended_there : E} → files ≡ files_there → reader ≡ reader_there → out ≡ out_there → ended ≡ ended_there
    → Holds files_there reader_there out_there ended_there → Holds files reader out ended
left_so Holds p q r s h = rw (p, q, r, s) h
