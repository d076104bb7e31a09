-- The lines of the printer's job language after a universal exit.
use Rattle.std.specs.Prelude.{◌≡◌, ℕ, Bool, false, ◌==◌, ◌||◌, not, nat_eq, IsTrue, List, [], ◌∷◌, ◌++◌, map, filter, codes, ◌⊎◌}
use Rattle.std.specs.List.{starts_with, flat_map, AllByRecursion}
use Rattle.std.specs.Char.{to_ascii_uppercase}
use Rattle.std.specs.Str.{bytes_eq}

-- blanks, tabs, CR and LF say nothing in a line
abbrev pub is_white_space : ℕ → Bool
is_white_space byte = byte == 32 || byte == 9 || byte == 13 || byte == 10

-- a line without what says nothing, in upper case
abbrev pub squeezed : List ℕ → List ℕ
squeezed line = map to_ascii_uppercase (filter (λ byte. not (is_white_space byte)) line)

-- the bytes begin with a line of the job language
abbrev pub is_job_line : List ℕ → Bool
is_job_line bytes = starts_with nat_eq bytes (codes "@PJL")

-- the line asks for a language
abbrev pub names_language : List ℕ → Bool
names_language line = starts_with nat_eq (squeezed line) (codes "@PJLENTERLANGUAGE=")

-- the line asks for PCL
abbrev pub names_pcl : List ℕ → Bool
names_pcl line = bytes_eq (squeezed line) (codes "@PJLENTERLANGUAGE=PCL")

-- ---- lines as parts of a job

-- no LF is there
abbrev pub HasNoFeed : List ℕ → Type 0
HasNoFeed bytes = AllByRecursion (λ byte. (byte == 10) ≡ false) bytes

-- a line goes up to its LF, or to the end of the job
abbrev pub IsLine : List ℕ → List ℕ → Type 0
IsLine line after =
    IsTrue (is_job_line line)
    × (((text : List ℕ) × (line ≡ text ++ 10 ∷ []) × HasNoFeed text) ⊎ ((after ≡ []) × HasNoFeed line))

-- lines one after the other
abbrev pub joined : List (List ℕ) → List ℕ
joined lines = flat_map (λ line. line) lines

-- lines that ask for no language, before what stands after them
abbrev pub AreOtherLines : List (List ℕ) → List ℕ → Type 0
AreOtherLines [] after = Unit {0}
AreOtherLines (line ∷ lines) after = IsLine line (joined lines ++ after) × (names_language line ≡ false) × AreOtherLines lines after

-- All lines after a universal exit: lines that ask for no language, as far as they go; or such lines and one that asks for PCL, after
-- which nothing more is skipped.
pub data AreLines : List (List ℕ) → List ℕ → Type 0 where
  to_other_bytes : {after : List ℕ} (lines : List (List ℕ))
      → AreOtherLines lines after → is_job_line after ≡ false → AreLines lines after
  to_pcl : {after : List ℕ} (lines : List (List ℕ)) (line : List ℕ)
      → AreOtherLines lines (line ++ after) → IsLine line after → IsTrue (names_language line) → IsTrue (names_pcl line)
      → AreLines (lines ++ line ∷ []) after
