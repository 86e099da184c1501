-- the reasons for the instruments so far
use Rattle.std.proofs.Common.{◌≡◌, ◌++◌, List}
use Rattle.std.specs.List.{AllZip, range_with_len}
use Rattle.metric_cert.specs.declared.reason.SelectionReason.{SelectionReason}
use Rattle.metric_make.specs.Making.{IsReasonFor}
use Rattle.metric_make.proofs.reasons.add_view.Given as goal

abbrev pub invariant-loop-instrument : goal.invariant-loop-instrument
invariant-loop-instrument l = (added : List SelectionReason) × (l.reasons ≡ l.fn.reasons ++ added) × AllZip (IsReasonFor l.catalogue l.number l.view) (range_with_len 0 l.instrument) added
