-- What the stated profile reads is read by the drivers' profile too, as the same commands.
use Rattle.std.proofs.Common.{◌≡◌, ℕ, List, [], ◌∷◌, ◌++◌, length, Option, Some, None, inl, inr, Ok, arith}
use Rattle.pcl_escape.proofs.Names.{Stated, Drivers, cases_Bool, flat_map, AllByRecursion, Name, Operation, Value, operation_of, in_range, exit_name, field_value, operation_checks, Prefix, parameter_name, Parameter, Piece, silent, control, text, two_character, combined, exit, IsMiddle, IsEnd, IsPiece, ArePieces, IsReading, Said, spelling}
use Rattle.pcl_escape.specs.Checks.{parameter_checks}

operation_by_drivers : (operation : Option Operation) (letter : ℕ) (value : Value) (left : ℕ) {len : ℕ}
    → operation_checks Stated operation letter value left ≡ Ok len → operation_checks Drivers operation letter value left ≡ Ok len
operation_by_drivers None letter value left e = absurd cc
operation_by_drivers (Some operation) letter value left e = grind arith

checks_by_drivers : (name : Name) (letter : ℕ) (value : Value) (left : ℕ) {len : ℕ}
    → parameter_checks Stated name letter value left ≡ Ok len → parameter_checks Drivers name letter value left ≡ Ok len
unfolding parameter_checks
checks_by_drivers name letter value left e = elim (cases_Bool (in_range value)) [
  | inl r ↦ rw r (operation_by_drivers (operation_of name) letter value left (rw r at e))
  | inr r ↦ absurd (let none = rw r at e in cc)
]

middle_by_drivers : (prefix : Prefix) (middle : List Parameter) → AllByRecursion (IsMiddle Stated prefix) middle
    → AllByRecursion (IsMiddle Drivers prefix) middle
middle_by_drivers prefix [] each = tt
middle_by_drivers prefix (parameter ∷ middle) each =
    let letter = parameter.letter in
    let one : IsMiddle Drivers prefix parameter = record {
      field = each.0.field;
      letter = each.0.letter;
      checks = checks_by_drivers (parameter_name prefix letter) letter (field_value parameter.field) 0 each.0.checks;
    } in
    (one, middle_by_drivers prefix middle each.1)

end_by_drivers : (prefix : Prefix) (end : Parameter) (bytes : List ℕ) → IsEnd Stated prefix end bytes → IsEnd Drivers prefix end bytes
end_by_drivers prefix end bytes is = record {
  field = is.field;
  letter = is.letter;
  checks = checks_by_drivers (parameter_name prefix end.letter) end.letter (field_value end.field) (length bytes) is.checks;
  stays = is.stays;
}

piece_by_drivers : (piece : Piece) (after : List ℕ) → IsPiece Stated piece after → IsPiece Drivers piece after
piece_by_drivers (silent byte) after is = is
piece_by_drivers (control code) after is = is
piece_by_drivers (text bytes) after is = is
piece_by_drivers (two_character byte) after is = is
piece_by_drivers (combined prefix middle end bytes) after is =
    (is.0, middle_by_drivers prefix middle is.1, end_by_drivers prefix end bytes is.2)
piece_by_drivers (exit field lines) after is = record {
  field_is = is.field_is;
  leaves = is.leaves;
  checks = checks_by_drivers exit_name 88 (field_value field) 0 is.checks;
  lines_are = is.lines_are;
}

pieces_by_drivers : (pieces : List Piece) (after : List ℕ) → ArePieces Stated pieces after → ArePieces Drivers pieces after
pieces_by_drivers [] after each = tt
pieces_by_drivers (piece ∷ pieces) after each =
    (piece_by_drivers piece (flat_map spelling pieces ++ after) each.0, pieces_by_drivers pieces after each.1)

pub reading_by_drivers : {job : List ℕ} {commands : List Said} → IsReading Stated job commands → IsReading Drivers job commands
reading_by_drivers r =
    record { pieces = r.pieces; each = pieces_by_drivers r.pieces [] r.each; spelled = r.spelled; said = r.said }
