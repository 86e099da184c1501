-- How a fault of an exporter is printed.
use Rattle.std.specs.Prelude.{ℕ, List, ◌∷◌, ◌++◌, codes}
use Rattle.std.specs.Fmt.{decimal}
use Rattle.metric_export.specs.declared.fault.ExportFault.{ExportFault}
use Rattle.metric_export.specs.declared.fault.ExportFault.TheVariants.{Write, ShutDown, Memory, Kept}
use Rattle.metric_export.specs.declared.fault.ExportFault.TheVariants.{OtherPlan, OtherReader}

abbrev pub number_of : ExportFault → ℕ
number_of Write = 1
number_of ShutDown = 2
number_of Memory = 3
number_of Kept = 4
number_of OtherPlan = 5
number_of OtherReader = 6

abbrev pub name_of : ExportFault → List ℕ
name_of Write = codes "Write"
name_of ShutDown = codes "ShutDown"
name_of Memory = codes "Memory"
name_of Kept = codes "Kept"
name_of OtherPlan = codes "OtherPlan"
name_of OtherReader = codes "OtherReader"

-- its number, a space, its name
abbrev pub export_fault_text : ExportFault → List ℕ
export_fault_text fault = decimal (number_of fault) ++ 32 ∷ name_of fault
