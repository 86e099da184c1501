-- How a fault of planning is printed.
use Rattle.std.specs.Prelude.{ℕ, List, ◌∷◌, ◌++◌, codes}
use Rattle.std.specs.Fmt.{decimal}
use Rattle.metric_plan.specs.declared.fault.CheckFault.{CheckFault}
use Rattle.metric_plan.specs.declared.fault.CheckFault.TheVariants.{
  PairMissing,
  BadTakes,
  BadRows,
  BadMiss,
  StreamMissing,
  StreamStrange,
  BadOrder,
  BadSets,
  LimitExceeded,
  SumLow,
  SumHigh,
  CountRange,
  AmountRange,
  Memory,
}

abbrev pub number_of : CheckFault → ℕ
number_of PairMissing = 1
number_of BadTakes = 2
number_of BadRows = 3
number_of BadMiss = 4
number_of StreamMissing = 5
number_of StreamStrange = 6
number_of BadOrder = 7
number_of BadSets = 8
number_of LimitExceeded = 9
number_of SumLow = 10
number_of SumHigh = 11
number_of CountRange = 12
number_of AmountRange = 13
number_of Memory = 14

abbrev pub name_of : CheckFault → List ℕ
name_of PairMissing = codes "PairMissing"
name_of BadTakes = codes "BadTakes"
name_of BadRows = codes "BadRows"
name_of BadMiss = codes "BadMiss"
name_of StreamMissing = codes "StreamMissing"
name_of StreamStrange = codes "StreamStrange"
name_of BadOrder = codes "BadOrder"
name_of BadSets = codes "BadSets"
name_of LimitExceeded = codes "LimitExceeded"
name_of SumLow = codes "SumLow"
name_of SumHigh = codes "SumHigh"
name_of CountRange = codes "CountRange"
name_of AmountRange = codes "AmountRange"
name_of Memory = codes "Memory"

-- its number, a space, its name
abbrev pub check_fault_text : CheckFault → List ℕ
check_fault_text fault = decimal (number_of fault) ++ 32 ∷ name_of fault
