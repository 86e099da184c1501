-- When a table is not written whole.
use Rattle.std.specs.Prelude.{ℕ}
use Rattle.metric_io.specs.Counts.{HasFailed}
use Rattle.metric_sheet.specs.declared.fault.SheetFault.{SheetFault}
use Rattle.metric_sheet.specs.declared.fault.SheetFault.TheVariants.{Write, Memory}

-- Only where the sink failed in between, or memory ran out.
abbrev pub IsSheetFault : ℕ → ℕ → SheetFault → Type 0
IsSheetFault old new Write = HasFailed old new
IsSheetFault old new Memory = Unit {0}
