-- How the faults of a roll-over are printed.
use Rattle.std.specs.Prelude.{ℕ, List, ◌++◌, codes}
use Rattle.std.specs.Fmt.{decimal}
use Rattle.metric_provider.specs.declared.fault.RollFault.{RollFault}
use Rattle.metric_provider.specs.declared.fault.RollFault.TheVariants.{SameRun, Early}
use Rattle.metric_provider.specs.declared.fault.RollFault.TheVariants.{Finish}
use Rattle.metric_seat.specs.Faults.{finish_fault_text}

abbrev pub roll_fault_text : RollFault → List ℕ
roll_fault_text SameRun = codes "the next run has the number of this one"
roll_fault_text (Early time) =
    codes "the next run starts before " ++ decimal time ++ codes ", the last time of this one"
roll_fault_text (Finish fault) = finish_fault_text fault
