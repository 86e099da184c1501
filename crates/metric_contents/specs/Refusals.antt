-- The number and the name of each refusal in printed texts.
use Rattle.std.specs.Prelude.{ℕ, List, codes, ◌++◌}
use Rattle.std.specs.Fmt.{decimal}
use Rattle.metric_contents.specs.declared.refusal.Refusal.{Refusal}
use Rattle.metric_contents.specs.declared.refusal.Refusal.TheVariants.{
  Stranger,
  UnknownInstrument,
  UnknownRecorder,
  UnknownReader,
  DuplicateKey,
  UnknownKey,
  UnknownValue,
  MissingKey,
  Combination,
  ValueRange,
  Closed,
  Budget,
  NoSpare,
  SumRange,
  Memory,
}

abbrev pub number_of : Refusal → ℕ
number_of UnknownInstrument = 1
number_of UnknownRecorder = 2
number_of UnknownReader = 2
number_of DuplicateKey = 3
number_of UnknownKey = 4
number_of UnknownValue = 5
number_of MissingKey = 6
number_of ValueRange = 7
number_of Closed = 8
number_of Budget = 9
number_of NoSpare = 14
number_of SumRange = 10
number_of Memory = 11
number_of Stranger = 12
number_of Combination = 13

abbrev pub name_of : Refusal → List ℕ
name_of UnknownInstrument = codes "UnknownInstrument"
name_of UnknownRecorder = codes "UnknownRecorder"
name_of UnknownReader = codes "UnknownReader"
name_of DuplicateKey = codes "DuplicateKey"
name_of UnknownKey = codes "UnknownKey"
name_of UnknownValue = codes "UnknownValue"
name_of MissingKey = codes "MissingKey"
name_of Combination = codes "Combination"
name_of ValueRange = codes "ValueRange"
name_of Closed = codes "Closed"
name_of Budget = codes "Budget"
name_of NoSpare = codes "NoSpare"
name_of SumRange = codes "SumRange"
name_of Memory = codes "Memory"
name_of Stranger = codes "Stranger"

-- both, as the refusal is printed
abbrev pub refusal_text : Refusal → List ℕ
refusal_text refusal = decimal (number_of refusal) ++ (codes " " ++ name_of refusal)

-- # refusal (profile) [Refusal, refusal_text]
-- Why an event is refused, with its printed number and name.
