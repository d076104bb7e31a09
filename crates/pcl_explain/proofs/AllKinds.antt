-- What holds of each kind of refusal.
use Rattle.std.proofs.Common.{◌∷◌, [], List, All, arith}
use Rattle.pcl_base.specs.declared.kind.Kind.{Kind}
use Rattle.pcl_base.specs.declared.kind.Kind.TheVariants.{
  Truncated,
  BadSequence,
  ValueRange,
  UnsupportedCommand,
  UnsupportedValue,
  FontHeader,
  CharacterData,
  NoFont,
  MacroOpen,
  MacroControl,
  MacroDepth,
  TooManyCommands,
  TooManyPages,
  NotPcl,
}

-- all kinds, in the order of their numbers
abbrev pub kinds : List Kind
kinds = Truncated ∷ BadSequence ∷ ValueRange ∷ UnsupportedCommand ∷ UnsupportedValue ∷ FontHeader ∷ CharacterData ∷ NoFont ∷ MacroOpen
    ∷ MacroControl ∷ MacroDepth ∷ TooManyCommands ∷ TooManyPages ∷ NotPcl ∷ []

-- these are all kinds
pub of_each : (P : Kind → Type 0) → All P kinds → (kind : Kind) → P kind
of_each P all Truncated = all 0 Truncated (omega arith)
of_each P all BadSequence = all 1 Truncated (omega arith)
of_each P all ValueRange = all 2 Truncated (omega arith)
of_each P all UnsupportedCommand = all 3 Truncated (omega arith)
of_each P all UnsupportedValue = all 4 Truncated (omega arith)
of_each P all FontHeader = all 5 Truncated (omega arith)
of_each P all CharacterData = all 6 Truncated (omega arith)
of_each P all NoFont = all 7 Truncated (omega arith)
of_each P all MacroOpen = all 8 Truncated (omega arith)
of_each P all MacroControl = all 9 Truncated (omega arith)
of_each P all MacroDepth = all 10 Truncated (omega arith)
of_each P all TooManyCommands = all 11 Truncated (omega arith)
of_each P all TooManyPages = all 12 Truncated (omega arith)
of_each P all NotPcl = all 13 Truncated (omega arith)
