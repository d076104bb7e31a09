-- Small jobs, unfolded by hand.
use Rattle.std.proofs.Common.{◌≡◌, ◌*◌, ℕ, List, [], ◌∷◌, refl}
use Rattle.pcl_unfolding.proofs.Names.{Dpi300, Stated, Name, Three, Absent, Said, performed, enter, return, now, flat_list}
use Rattle.pcl_base.specs.Operation.{operation_of}
use Rattle.pcl_env.specs.Outcome.{outcome}
use Rattle.pcl_page.specs.Situation.{after}

-- a command with a whole number, whose place in the job says nothing here
abbrev says : Name → ℕ → Said
says name n = record { at = 0; name = name; value = record { sign = Absent; parts = n * 10000 }; bytes = [] }

-- `&f5Y`; `&f0X`, `&f1X`, `&f2X` and `&f3X`; `&l2X`
abbrev macro_id : Said
macro_id = says (Three 38 102 89) 5

abbrev control : ℕ → Said
control n = says (Three 38 102 88) n

abbrev copies : Said
copies = says (Three 38 108 88) 2

-- macro 5 sets two copies, and is then run by a control
abbrev job : ℕ → List Said
job n = macro_id ∷ control 0 ∷ copies ∷ control 1 ∷ control n ∷ []

-- the command in the definition is on the list only where the macro runs
called : (flat_list Stated Dpi300 (job 3)).items
    ≡ return 1 ∷ performed 2 copies ∷ enter ∷ performed 4 (control 3) ∷ performed 3 (control 1) ∷ performed 1 (control 0)
    ∷ performed 0 macro_id ∷ []
unfolding after outcome operation_of
called = refl

-- a call's end puts the copies back
copies_put_back : (now Stated Dpi300 (flat_list Stated Dpi300 (job 3)).items).settings.copies ≡ 1
unfolding after outcome operation_of
copies_put_back = refl

-- an execution's end leaves what it set
copies_left : (now Stated Dpi300 (flat_list Stated Dpi300 (job 2)).items).settings.copies ≡ 2
unfolding after outcome operation_of
copies_left = refl

-- a macro that isn't there is not run
none_there : (flat_list Stated Dpi300 (control 3 ∷ [])).items ≡ performed 0 (control 3) ∷ []
unfolding after outcome operation_of
none_there = refl
