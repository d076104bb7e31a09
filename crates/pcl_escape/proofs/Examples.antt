-- Examples worked out by hand from docs/LANGUAGE.md, which the definitions compute.
use Rattle.std.proofs.Common.{◌≡◌, ℕ, List, [], ◌∷◌, ◌++◌, refl, codes}
use Rattle.pcl_escape.proofs.Names.{Stated, Drivers, NotPcl, Name, Sign, Absent, Plus, Minus, zero_value, field_value, Said, IsReading, IsFault}
use Rattle.pcl_base.specs.declared.kind.Kind.TheVariants.{Truncated, BadSequence, ValueRange, UnsupportedCommand}
use Rattle.pcl_base.specs.declared.name.Name.TheVariants.{Empty, One, Two, Three}
use Rattle.pcl_base.specs.Operation.{operation_of}
use Rattle.pcl_base.specs.Refusal.{refusal}
use Rattle.pcl_escape.specs.inner.Fields.{field_at}
use Rattle.pcl_escape.specs.inner.Scan.{named_at, text_at, parameter_at, ungrouped_at, prefix_at, sequence_at, start_at, read_outcome}
use Rattle.pcl_escape.specs.Checks.{parameter_checks}
use Rattle.pcl_escape.specs.inner.Lines.{lines_from}
use Rattle.pcl_escape.proofs.Again.{reading_of, fault_of}

abbrev said : ℕ → Name → Sign → ℕ → List ℕ → Said
said at name sign parts bytes = record { at = at; name = name; value = record { sign = sign; parts = parts }; bytes = bytes }

abbrev escape : List ℕ → List ℕ
escape bytes = 27 ∷ bytes

-- all that reading computes with
unfoldable reading : Unit {0}
unfolding field_at read_outcome start_at named_at operation_of sequence_at prefix_at parameter_at parameter_checks ungrouped_at lines_from
    text_at
reading = tt

-- ---- value fields

-- four decimals are kept, and a fifth one is dropped
five_decimals : field_value (field_at (codes "-1.23456")).0 ≡ record { sign = Minus; parts = 12345 }
five_decimals = unfold reading in refl

-- digits may be missing on both sides of the point
point_alone : field_value (field_at (codes "+.5X")).0 ≡ record { sign = Plus; parts = 5000 }
point_alone = unfold reading in refl

-- ---- readings

-- no byte, no command
nothing : IsReading Stated [] []
nothing = unfold reading in reading_of refl

-- a silent byte, and a form feed
silent_and_feed : IsReading Stated (7 ∷ 12 ∷ []) (record { at = 1; name = One 12; value = zero_value; bytes = [] } ∷ [])
silent_and_feed = unfold reading in reading_of refl

-- the first parameter of a sequence stands at ESC, the second right after the first one's letter
two_moves : IsReading Stated (escape (codes "*p0x0Y")) (said 0 (Three 42 112 88) Absent 0 [] ∷ said 5 (Three 42 112 89) Absent 0 [] ∷ [])
two_moves = unfold reading in reading_of refl

-- two bytes of data, the first of which would begin a sequence
row_of_escape : IsReading Stated (escape (codes "*b2W") ++ 27 ∷ 12 ∷ []) (said 0 (Three 42 98 87) Absent 20000 (27 ∷ 12 ∷ []) ∷ [])
row_of_escape = unfold reading in reading_of refl

-- a sequence without a group character: its name has two bytes
symbol_set : IsReading Stated (escape (codes "(8U")) (said 0 (Two 40 85) Absent 80000 [] ∷ [])
symbol_set = unfold reading in reading_of refl

-- the letter 96 is an upper-case 64
clipping : IsReading Stated (escape (codes "&d`0@")) (said 0 (Three 38 100 64) Absent 0 [] ∷ said 4 (Three 38 100 64) Absent 0 [] ∷ [])
clipping = unfold reading in reading_of refl

-- after a universal exit a line is its own up to its LF, and then one that asks for PCL; what is after that is read
leaving : IsReading Stated (escape (codes "%-12345X@PJL x") ++ 10 ∷ (codes "@PJL Enter Language=P C L" ++ 13 ∷ 10 ∷ 12 ∷ []))
    (said 0 (Two 37 88) Minus 123450000 (codes "@PJL x" ++ 10 ∷ (codes "@PJL Enter Language=P C L" ++ 13 ∷ 10 ∷ []))
    ∷ said 43 (One 12) Absent 0 [] ∷ [])
leaving = unfold reading in reading_of refl

-- a line without LF goes to the end, whatever it holds
last_line : IsReading Stated (escape (codes "%-12345X@PJL") ++ 27 ∷ 7 ∷ [])
    (said 0 (Two 37 88) Minus 123450000 (codes "@PJL" ++ 27 ∷ 7 ∷ []) ∷ [])
last_line = unfold reading in reading_of refl

-- another value of that name skips nothing
staying : IsReading Stated (escape (codes "%-12344X") ++ 12 ∷ []) (said 0 (Two 37 88) Minus 123440000 [] ∷ said 9 (One 12) Absent 0 [] ∷ [])
staying = unfold reading in reading_of refl

-- a run of text goes on up to a byte that is none, and silent bytes are none
two_runs : IsReading Stated (codes "A " ++ 7 ∷ codes "B")
    (said 0 (One 32) Absent 0 (codes "A ") ∷ said 3 (One 32) Absent 0 (codes "B") ∷ [])
two_runs = unfold reading in reading_of refl

-- a line in lower case is text
lower_case_line : IsReading Stated (escape (codes "%-12345X@pjl"))
    (said 0 (Two 37 88) Minus 123450000 [] ∷ said 9 (One 32) Absent 0 (codes "@pjl") ∷ [])
lower_case_line = unfold reading in reading_of refl

-- ---- first faults

short_row : IsFault Stated (escape (codes "*b5W") ++ 1 ∷ 2 ∷ 3 ∷ 4 ∷ []) (refusal Truncated 0 (Three 42 98 87))
short_row = unfold reading in fault_of (escape (codes "*b5W") ++ 1 ∷ 2 ∷ 3 ∷ 4 ∷ []) (refusal Truncated 0 (Three 42 98 87)) refl

row_in_the_middle : IsFault Stated (escape (codes "*b1w") ++ 128 ∷ []) (refusal BadSequence 0 (Three 42 98 87))
row_in_the_middle = unfold reading in fault_of (escape (codes "*b1w") ++ 128 ∷ []) (refusal BadSequence 0 (Three 42 98 87)) refl

far_move : IsFault Stated (escape (codes "*p70000X")) (refusal ValueRange 0 (Three 42 112 88))
far_move = unfold reading in fault_of (escape (codes "*p70000X")) (refusal ValueRange 0 (Three 42 112 88)) refl

unknown_two : IsFault Stated (escape (codes "Y")) (refusal UnsupportedCommand 0 (One 89))
unknown_two = unfold reading in fault_of (escape (codes "Y")) (refusal UnsupportedCommand 0 (One 89)) refl

no_sequence : IsFault Stated (27 ∷ 7 ∷ []) (refusal BadSequence 0 Empty)
no_sequence = unfold reading in fault_of (27 ∷ 7 ∷ []) (refusal BadSequence 0 Empty) refl

no_group : IsFault Stated (escape (codes "*")) (refusal Truncated 0 (One 42))
no_group = unfold reading in fault_of (escape (codes "*")) (refusal Truncated 0 (One 42)) refl

-- the second parameter isn't there
no_second_move : IsFault Stated (escape (codes "*p0x")) (refusal Truncated 5 (Two 42 112))
no_second_move = unfold reading in fault_of (escape (codes "*p0x")) (refusal Truncated 5 (Two 42 112)) refl

backspace : IsFault Stated (8 ∷ []) (refusal UnsupportedCommand 0 (One 8))
backspace = unfold reading in fault_of (8 ∷ []) (refusal UnsupportedCommand 0 (One 8)) refl

-- the second line asks for another language
other_language : IsFault Stated (escape (codes "%-12345X@PJL") ++ 10 ∷ codes "@PJL ENTER LANGUAGE=XL") (refusal NotPcl 14 (Two 37 88))
other_language = unfold reading in
    fault_of (escape (codes "%-12345X@PJL") ++ 10 ∷ codes "@PJL ENTER LANGUAGE=XL") (refusal NotPcl 14 (Two 37 88)) refl

-- a sequence without a group character has one parameter
second_parameter : IsFault Stated (escape (codes "(0s")) (refusal BadSequence 0 (One 40))
second_parameter = unfold reading in fault_of (escape (codes "(0s")) (refusal BadSequence 0 (One 40)) refl

cut_percent : IsFault Stated (escape (codes "%")) (refusal Truncated 0 (One 37))
cut_percent = unfold reading in fault_of (escape (codes "%")) (refusal Truncated 0 (One 37)) refl

percent_in_group : IsFault Stated (escape (codes "%a0X")) (refusal UnsupportedCommand 0 (Three 37 97 88))
percent_in_group = unfold reading in fault_of (escape (codes "%a0X")) (refusal UnsupportedCommand 0 (Three 37 97 88)) refl

-- the drivers' profile has commands that the stated one doesn't
print_quality : IsReading Drivers (escape (codes "*o0M")) (said 0 (Three 42 111 77) Absent 0 [] ∷ [])
print_quality = unfold reading in reading_of refl

no_print_quality : IsFault Stated (escape (codes "*o0M")) (refusal UnsupportedCommand 0 (Three 42 111 77))
no_print_quality = unfold reading in fault_of (escape (codes "*o0M")) (refusal UnsupportedCommand 0 (Three 42 111 77)) refl

-- and neither has others
no_vertical_path : IsFault Drivers (escape (codes "&c1T")) (refusal UnsupportedCommand 0 (Three 38 99 84))
no_vertical_path = unfold reading in fault_of (escape (codes "&c1T")) (refusal UnsupportedCommand 0 (Three 38 99 84)) refl
