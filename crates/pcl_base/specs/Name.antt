-- Names of commands, as messages print them.
use Rattle.std.specs.Prelude.{ℕ, ◌==◌, if◌then◌else◌, List, [], ◌∷◌, codes}
use Rattle.pcl_base.specs.declared.name.Name.{Name}
use Rattle.pcl_base.specs.declared.name.Name.TheVariants.{Empty, One, Two, Three}

-- a name of one byte
abbrev pub code_text : ℕ → List ℕ
code_text code =
    if code == 8 then codes "BS"
    else (if code == 9 then codes "HT"
    else (if code == 10 then codes "LF"
    else (if code == 12 then codes "FF"
    else (if code == 13 then codes "CR"
    else (if code == 14 then codes "SO"
    else (if code == 15 then codes "SI"
    else (if code == 32 then codes "text" else code ∷ [])))))))

abbrev pub name_text : Name → List ℕ
name_text Empty = codes "-"
name_text (One code) = code_text code
name_text (Two first second) = first ∷ second ∷ []
name_text (Three first second third) = first ∷ second ∷ third ∷ []

-- how many bytes a name has
abbrev pub name_len : Name → ℕ
name_len Empty = 0
name_len (One first) = 1
name_len (Two first second) = 2
name_len (Three first second third) = 3

-- the bytes, and zeros past them
abbrev pub name_bytes : Name → List ℕ
name_bytes Empty = 0 ∷ 0 ∷ 0 ∷ []
name_bytes (One first) = first ∷ 0 ∷ 0 ∷ []
name_bytes (Two first second) = first ∷ second ∷ 0 ∷ []
name_bytes (Three first second third) = first ∷ second ∷ third ∷ []
