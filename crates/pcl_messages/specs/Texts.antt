-- Parts of lines.
use Rattle.std.specs.Prelude.{ℕ, List, ◌++◌, codes, decimal}

-- a label and a number
abbrev pub labelled_number : List ℕ → ℕ → List ℕ
labelled_number label number = label ++ decimal number

-- the page or the exit of a number, counted from 1, of which something is said
abbrev pub subject_text : List ℕ → ℕ → List ℕ
subject_text label number = label ++ decimal number ++ codes ": "
