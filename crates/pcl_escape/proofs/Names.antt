-- What proofs of this crate name of std, of the crates below, and of its own definitions; those above take these from here too.
pub use Rattle.std.specs.List.{flat_map}
pub use Rattle.pcl_base.proofs.{Fronts.Pass, Fronts.StopsAt, Fronts.front_again, Fronts.front_split, Fronts.front_yes, Lists.full_front, Lists.longer_front}
pub use Rattle.pcl_base.proofs.Names.{AllByRecursion, AreDigits, Bor, IfSome, ap, arith, bytes_eq, cases_Bool, cast_signed, cast_unsigned, codes, drop_min, eqb-true, filter-append, flat_map-append, is_absent, is_below_zero, is_digit, is_minus, is_none, le-ltb, lt-ltb, mag, map-append, name_bytes, nat_tests, ne_eqb, nil_from_length, number_of, operation_of, prefix_len, refl, refusal, rules, signed_whole, starts_with, subst, sym, take_at_read, take_min, takes_data, then_some, to_ascii_uppercase, to_z-of_z, unwrap_or, w32, whole_of, with_sign, zero_value}
pub use Rattle.pcl_base.specs.declared.{fault.JobFault.JobFault, fault.JobFault.TheVariants.Memory, fault.JobFault.TheVariants.Refused, kind.Kind.Kind, kind.Kind.TheVariants.BadSequence, kind.Kind.TheVariants.NotPcl, kind.Kind.TheVariants.Truncated, kind.Kind.TheVariants.UnsupportedCommand, name.Name.Name, name.Name.TheVariants.One, operation.Operation.Operation, profile.Profile.Profile, profile.Profile.TheVariants.Drivers, profile.Profile.TheVariants.Stated, refusal.Refusal.Refusal, value.Sign.Sign, value.Sign.TheVariants.Absent, value.Sign.TheVariants.Minus, value.Sign.TheVariants.Plus, value.Value.Value}
pub use Rattle.pcl_escape.specs.{Checks.data_checks, Checks.exit_name, Checks.is_exit, Checks.operation_checks, Checks.parameter_checks, Exit.AreLines, Exit.AreOtherLines, Exit.HasNoFeed, Exit.IsLine, Exit.is_job_line, Exit.is_white_space, Exit.joined, Exit.names_language, Exit.names_pcl, Exit.squeezed, Exit.to_other_bytes, Exit.to_pcl, Faults.Fails, Faults.FailsParameter, Faults.IsFault, Faults.IsFaultOf, Faults.IsUngrouped, Faults.bad_group, Faults.check, Faults.cut, Faults.extends, Faults.in_line, Faults.in_parameter, Faults.is_bare, Faults.is_empty, Faults.lone_escape, Faults.no_group, Faults.no_letter, Faults.no_sequence, Faults.place_after, Faults.unknown_control, Faults.unknown_two, Field.Spelled, Field.digits_of, Field.field_bytes, Field.field_value, Field.fraction_bytes, Field.fraction_parts, Field.greatest_parts, Field.in_range, Field.sign_bytes, Field.spelled, Field.ten_thousandths, Items.name_with, Letter.goes_on, Letter.is_control, Letter.is_group, Letter.is_last, Letter.is_letter, Letter.is_parameterized, Letter.is_silent, Letter.is_text, Letter.is_two_character, Letter.is_ungrouped, Letter.may_go_on, Letter.name_with_letter, Letter.parameter_name, Letter.prefix_bytes, Letter.prefix_name, Pieces.ArePieces, Pieces.IsEnd, Pieces.IsField, Pieces.IsMiddle, Pieces.IsNoText, Pieces.IsPiece, Pieces.IsPrefix, Pieces.IsReading, Pieces.IsRun, Pieces.Parameter, Pieces.PassesChecks, Pieces.Piece, Pieces.bare_command, Pieces.combined, Pieces.command_of, Pieces.commands_from, Pieces.commands_of, Pieces.control, Pieces.exit, Pieces.first_place, Pieces.parameter_bytes, Pieces.parameter_commands, Pieces.silent, Pieces.spelling, Pieces.text, Pieces.two_character, Said.Said, Said.view}
pub use Rattle.pcl_escape.specs.declared.{step.Prefix.Prefix}
pub use Rattle.pcl_escape.specs.inner.{Fields.digits_at, Fields.field_at, Fields.fraction_at, Fields.sign_at, Lines.line_len, Lines.lines_at, Scan.IsPlaced, Scan.Reads, Scan.Yields, Scan.and_then, Scan.before_rest, Scan.checked_at, Scan.commands_said, Scan.leaves, Scan.letter_at, Scan.named_by, Scan.scan_outcome, Scan.parameter_at, Scan.refuse, Scan.said_of, Scan.skipped_by, Scan.step_at, Scan.step_view, Scan.with_front, Scan.with_lines}
