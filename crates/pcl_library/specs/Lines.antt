-- Lines for C.
use Rattle.std.specs.Prelude.{◌≡◌, ℕ, List, [], ◌∷◌, ◌++◌, Result, Ok, Err}
use Rattle.std.specs.declared.alloc.AllocError.{AllocError}
use Rattle.std.specs.Global.{Vec}

-- a text as C has it: a zero byte ends it
abbrev pub c_string : List ℕ → List ℕ
c_string text = text ++ 0 ∷ []

-- the same of a line that was made
abbrev pub IsLineOf : Result (Vec ℕ) AllocError → List ℕ → Type 0
IsLineOf (Ok text) line = line ≡ c_string text.items
IsLineOf (Err e) line = ⊥
