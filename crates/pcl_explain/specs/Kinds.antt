-- Names of kinds of refusal, and words that may be meant for one.
use Rattle.std.specs.Prelude.{◌≡◌, ◌<◌, ◌≤◌, ℕ, nat_le, nat_eq, Bool, ◌&&◌, IsTrue, List, length, map, Option, Some, None}
use Rattle.std.specs.Char.{to_ascii_lowercase, is_ascii_alphabetic}
use Rattle.std.specs.List.{list_all}
use Rattle.strsim.specs.Edits.{levenshtein_row}
use Rattle.pcl_base.specs.declared.kind.Kind.{Kind}
use Rattle.pcl_base.specs.Kind.{kind_name}

-- a name is that of a kind, in capitals or not
abbrev pub IsKindName : List ℕ → Kind → Type 0
IsKindName name kind = map to_ascii_lowercase (kind_name kind) ≡ map to_ascii_lowercase name

-- how many letters are wrong, missing or too many in a word that was meant for the name of a kind, in capitals or not
abbrev pub edits_to : Kind → (word : List ℕ) → ℕ
edits_to kind word =
    let lower = map to_ascii_lowercase word in levenshtein_row nat_eq (map to_ascii_lowercase (kind_name kind)) lower (length lower)

-- a word has letters alone, and no more than any name of a kind could
abbrev pub may_be_kind : List ℕ → Bool
may_be_kind word = nat_le (length word) 24 && list_all is_ascii_alphabetic word

-- the kind that a word may be meant for: fewer than four letters differ, and no other kind is nearer
abbrev pub IsNearestKind : List ℕ → Option Kind → Type 0
IsNearestKind word None = IsTrue (may_be_kind word) → (kind : Kind) → 4 ≤ edits_to kind word
IsNearestKind word (Some kind) =
    IsTrue (may_be_kind word) × (edits_to kind word < 4) × ((other : Kind) → edits_to kind word ≤ edits_to other word)
