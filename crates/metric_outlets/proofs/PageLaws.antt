-- A shutdown is a flush, after which no call is taken.
use Rattle.std.proofs.Common.{◌≡◌, ◌⊎◌, inl, inr, ap, refl, Result}
use Rattle.metric_export.specs.declared.fault.ExportFault.{ExportFault}
use Rattle.metric_export.specs.declared.fault.ExportFault.TheVariants as fault
use Rattle.metric_export.specs.declared.state.ExporterState.TheVariants.{ShutDown}
use Rattle.metric_outlets.specs.PageCalls.{FlushesPage, HandsOnPage, PageExporterValue, Replacing, ShutsPageDown}

-- the exporter, after which no call is taken
abbrev closed : {P : Type 0} → PageExporterValue P → PageExporterValue P
closed e = record e { state = ShutDown }

pub shut_down : {P : Type 0} (replaces : Replacing P) (old new : PageExporterValue P) (answer : Result (Unit {0}) ExportFault)
    → FlushesPage replaces old new answer → ShutsPageDown replaces old (record new { state = ShutDown }) answer
shut_down replaces old new answer flushes = record {
  kept = record { served = flushes.kept.served; dialect = flushes.kept.dialect; target = flushes.kept.target; lines = flushes.kept.lines };
  state = refl;
  handed = λ was_open. elim (flushes.handed was_open) [
    | inl handed ↦ inl (record { told = handed.told; call = handed.call; passed = handed.passed; counted = handed.counted })
    | inr refused ↦ inr (refused.0, ap closed refused.1)
  ];
  unhanded = λ was_closed. ap closed (flushes.unhanded was_closed);
}
