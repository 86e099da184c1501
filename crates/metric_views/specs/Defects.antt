-- How a defect is printed.
use Rattle.std.specs.Prelude.{ℕ, List, codes}
use Rattle.metric_views.specs.declared.fault.ViewDefect.{ViewDefect}
use Rattle.metric_views.specs.declared.fault.ViewDefect.TheVariants.{
  MissingField,
  WrongKind,
  UnknownField,
  BadPattern,
  BadName,
  BadBoundaries,
  BadLimit,
  DuplicateReader,
  TooMany,
}

-- # printed defect (profile)
-- Its number among the faults, and its name.
abbrev pub defect_text : ViewDefect → List ℕ
defect_text MissingField = codes "2 MissingField"
defect_text WrongKind = codes "3 WrongKind"
defect_text UnknownField = codes "4 UnknownField"
defect_text BadPattern = codes "5 BadPattern"
defect_text BadName = codes "6 BadName"
defect_text BadBoundaries = codes "7 BadBoundaries"
defect_text BadLimit = codes "8 BadLimit"
defect_text DuplicateReader = codes "9 DuplicateReader"
defect_text TooMany = codes "10 TooMany"
