-- The word after the program's name, as a slice of words has it.
use Rattle.std.proofs.Common.{◌≡◌, arith, ℕ, ◌≤◌, length, get_or, List, [], ◌∷◌, Some, ap, sym, map}
use Rattle.pcl_program.specs.Runs.{command_word}

pub second_word : {A : Type 0} (text : A → List ℕ) (words : List A) (word : A) → 2 ≤ length words → word ≡ get_or words 1 word
    → command_word (map text words) ≡ Some (text word)
second_word text [] word many e = absurd (omega (arith, many))
second_word text (program ∷ []) word many e = absurd (omega (arith, many))
second_word {A} text (program ∷ second ∷ words) word many e = ap (λ (one : A). Some (text one)) (sym e)
