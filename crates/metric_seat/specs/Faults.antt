-- How faults are printed.
use Rattle.std.specs.Prelude.{ℕ, List, ◌∷◌, ◌++◌, codes}
use Rattle.std.specs.Fmt.{decimal}
use Rattle.metric_contents.specs.declared.refusal.Refusal.{Refusal}
use Rattle.metric_contents.specs.Refusals.{refusal_text}
use Rattle.metric_seat.specs.declared.fault.FinishFault.{FinishFault}
use Rattle.metric_seat.specs.declared.fault.FinishFault.TheVariants.{RecorderMissing, Stranger}
use Rattle.metric_seat.specs.declared.fault.FinishFault.TheVariants.{AuditMismatch, Memory}

abbrev pub number_of : FinishFault → ℕ
number_of RecorderMissing = 1
number_of Stranger = 2
number_of AuditMismatch = 3
number_of Memory = 4

abbrev pub name_of : FinishFault → List ℕ
name_of RecorderMissing = codes "RecorderMissing"
name_of Stranger = codes "Stranger"
name_of AuditMismatch = codes "AuditMismatch"
name_of Memory = codes "Memory"

-- its number, a space, its name
abbrev pub finish_fault_text : FinishFault → List ℕ
finish_fault_text fault = decimal (number_of fault) ++ 32 ∷ name_of fault

-- what was refused, its number, a colon, why
abbrev pub refused_text : List ℕ → ℕ → Refusal → List ℕ
refused_text what number refusal = what ++ decimal number ++ codes ": " ++ refusal_text refusal
