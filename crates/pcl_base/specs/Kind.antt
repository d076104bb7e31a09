-- Kinds of refusal, by number and by name.
use Rattle.std.specs.Prelude.{ℕ, List, codes}
use Rattle.pcl_base.specs.declared.kind.Kind.{Kind}
use Rattle.pcl_base.specs.declared.kind.Kind.TheVariants.{Truncated, BadSequence, ValueRange, UnsupportedCommand, UnsupportedValue, FontHeader, CharacterData, NoFont, MacroOpen, MacroControl, MacroDepth, TooManyCommands, TooManyPages, NotPcl}

abbrev pub kind_number : Kind → ℕ
kind_number Truncated = 1
kind_number BadSequence = 2
kind_number ValueRange = 3
kind_number UnsupportedCommand = 4
kind_number UnsupportedValue = 5
kind_number FontHeader = 6
kind_number CharacterData = 7
kind_number NoFont = 8
kind_number MacroOpen = 9
kind_number MacroControl = 10
kind_number MacroDepth = 11
kind_number TooManyCommands = 12
kind_number TooManyPages = 13
kind_number NotPcl = 14

abbrev pub kind_name : Kind → List ℕ
kind_name Truncated = codes "Truncated"
kind_name BadSequence = codes "BadSequence"
kind_name ValueRange = codes "ValueRange"
kind_name UnsupportedCommand = codes "UnsupportedCommand"
kind_name UnsupportedValue = codes "UnsupportedValue"
kind_name FontHeader = codes "FontHeader"
kind_name CharacterData = codes "CharacterData"
kind_name NoFont = codes "NoFont"
kind_name MacroOpen = codes "MacroOpen"
kind_name MacroControl = codes "MacroControl"
kind_name MacroDepth = codes "MacroDepth"
kind_name TooManyCommands = codes "TooManyCommands"
kind_name TooManyPages = codes "TooManyPages"
kind_name NotPcl = codes "NotPcl"
