-- How the defect of a fault is printed.
use Rattle.std.specs.Prelude.{ℕ, codes, List}
use Rattle.metric_catalogue.specs.declared.fault.CatalogueDefect.{CatalogueDefect}
use Rattle.metric_catalogue.specs.declared.fault.CatalogueDefect.TheVariants.{
  MissingField,
  WrongKind,
  UnknownField,
  BadName,
  BadUnit,
  DuplicateMeter,
  DuplicateInstrument,
  DuplicateKey,
  DuplicateValue,
  ReservedKey,
  BadRange,
  BadBoundaries,
  UnknownInstrument,
  DuplicateRecorder,
  DuplicateBudget,
  TooMany,
  BadCombination,
  DuplicateCombination,
  UnknownKey,
  AmbiguousInstrument,
}

-- # printed defect (profile)
-- Its number among the faults, and its name.
abbrev pub defect_text : CatalogueDefect → List ℕ
defect_text MissingField = codes "2 MissingField"
defect_text WrongKind = codes "3 WrongKind"
defect_text UnknownField = codes "4 UnknownField"
defect_text BadName = codes "5 BadName"
defect_text BadUnit = codes "6 BadUnit"
defect_text DuplicateMeter = codes "7 DuplicateMeter"
defect_text DuplicateInstrument = codes "8 DuplicateInstrument"
defect_text DuplicateKey = codes "9 DuplicateKey"
defect_text DuplicateValue = codes "10 DuplicateValue"
defect_text ReservedKey = codes "11 ReservedKey"
defect_text BadRange = codes "12 BadRange"
defect_text BadBoundaries = codes "13 BadBoundaries"
defect_text UnknownInstrument = codes "14 UnknownInstrument"
defect_text DuplicateRecorder = codes "15 DuplicateRecorder"
defect_text DuplicateBudget = codes "16 DuplicateBudget"
defect_text TooMany = codes "17 TooMany"
defect_text BadCombination = codes "19 BadCombination"
defect_text DuplicateCombination = codes "20 DuplicateCombination"
defect_text UnknownKey = codes "21 UnknownKey"
defect_text AmbiguousInstrument = codes "22 AmbiguousInstrument"
