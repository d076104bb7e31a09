-- The lines after a universal exit, from left to right.
use Rattle.std.specs.Prelude.{◌≡◌, ℕ, zero, suc, ◌+◌, ◌==◌, not, if◌then◌else◌, List, [], ◌∷◌, length, take, drop, Result, Ok, Err}
use Rattle.std.specs.Borrow.{Bor}
use Rattle.pcl_escape.specs.Exit.{is_job_line, names_language, names_pcl}

-- ---- the same from the left

-- how many bytes a line has
abbrev pub line_len : List ℕ → ℕ
line_len [] = 0
line_len (byte ∷ bytes) = if byte == 10 then 1 else suc (line_len bytes)

-- what stands after the lines, or where a line asks for another language; the bytes begin at a place
unfoldable pub lines_from : ℕ → ℕ → List ℕ → Result (List ℕ) ℕ
lines_from zero place bytes = Ok bytes
lines_from (suc more) place bytes =
    let line = take (line_len bytes) bytes in
    let after = drop (line_len bytes) bytes in
    if not (is_job_line bytes) then Ok bytes
    else (if not (names_language line) then lines_from more (place + line_len bytes) after
    else (if names_pcl line then Ok after else Err place))

-- each line has bytes
abbrev pub lines_at : ℕ → List ℕ → Result (List ℕ) ℕ
lines_at place bytes = lines_from (suc (length bytes)) place bytes

-- what a function returned is what stands after the lines
abbrev pub GivesRest : Result (Bor (List ℕ)) ℕ → Result (List ℕ) ℕ → Type 0
GivesRest (Ok rest) read = read ≡ Ok rest.now
GivesRest (Err place) read = read ≡ Err place
