-- The bytes of a job by their places, and names.
use Rattle.std.specs.Prelude.{ℕ, ◌-◌, Bool, ◌==◌, ◌&&◌, ◌||◌, not, is_some, nat_le, if◌then◌else◌, List, [], ◌∷◌, Option, Some, None}
use Rattle.pcl_base.specs.declared.name.Name.{Name}
use Rattle.pcl_base.specs.declared.name.Name.TheVariants.{One, Two, Three}
use Rattle.pcl_escape.specs.declared.step.Prefix.{Prefix}

-- bytes that say nothing
abbrev pub is_silent : ℕ → Bool
is_silent byte = byte == 0 || byte == 7 || byte == 11

-- control codes; 11 is silent
abbrev pub is_control : ℕ → Bool
is_control byte = nat_le 8 byte && nat_le byte 15

-- all others but ESC are text
abbrev pub is_text : ℕ → Bool
is_text byte = not (is_silent byte || is_control byte || byte == 27)

-- the second byte of a two-character sequence
abbrev pub is_two_character : ℕ → Bool
is_two_character byte = nat_le 48 byte && nat_le byte 126

-- the second byte of a combined sequence
abbrev pub is_parameterized : ℕ → Bool
is_parameterized byte = nat_le 33 byte && nat_le byte 47

-- of these, the ones that may stand without a group character: ( ) %
abbrev pub is_ungrouped : ℕ → Bool
is_ungrouped byte = byte == 40 || byte == 41 || byte == 37

-- the third byte of a combined sequence
abbrev pub is_group : ℕ → Bool
is_group byte = nat_le 96 byte && nat_le byte 126

-- a parameter byte after which the sequence goes on
abbrev pub goes_on : ℕ → Bool
goes_on byte = nat_le 96 byte && nat_le byte 126

-- a parameter byte that ends the sequence
abbrev pub is_last : ℕ → Bool
is_last byte = nat_le 64 byte && nat_le byte 94

-- a sequence without a group character has one parameter
abbrev pub may_go_on : Prefix → ℕ → Bool
may_go_on prefix byte = is_some prefix.group && goes_on byte

-- a byte that ends a parameter
abbrev pub is_letter : Prefix → ℕ → Bool
is_letter prefix byte = is_last byte || may_go_on prefix byte

-- a name from a prefix
abbrev pub name_with_group : ℕ → Option ℕ → Name
name_with_group parameterized None = One parameterized
name_with_group parameterized (Some group) = Two parameterized group

-- the same with the byte of a parameter
abbrev pub name_with_letter : ℕ → Option ℕ → ℕ → Name
name_with_letter parameterized None letter = Two parameterized letter
name_with_letter parameterized (Some group) letter = Three parameterized group letter

-- the name of a sequence of which no parameter was read
abbrev pub prefix_name : Prefix → Name
prefix_name prefix = name_with_group prefix.parameterized prefix.group

-- the parameter byte stands in a name as an upper-case byte
abbrev pub parameter_name : Prefix → ℕ → Name
parameter_name prefix byte = name_with_letter prefix.parameterized prefix.group (if goes_on byte then byte - 32 else byte)

-- how a prefix is spelled, after ESC
abbrev pub group_bytes : Option ℕ → List ℕ
group_bytes None = []
group_bytes (Some group) = group ∷ []

-- the parameterized character and the group character
abbrev pub prefix_bytes : Prefix → List ℕ
prefix_bytes prefix = prefix.parameterized ∷ group_bytes prefix.group
