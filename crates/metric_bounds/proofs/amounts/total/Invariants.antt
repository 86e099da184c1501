use Rattle.std.proofs.Common.{◌≡◌, ◌≤◌, ◌+◌, ◌*◌, ◌^◌, take}
use Rattle.std.specs.Prelude.{sum_by}
use Rattle.metric_contents.specs.Budgets.{amount_of, spare_at}
use Rattle.metric_bounds.proofs.amounts.total.Given as goal

abbrev pub invariant-loop-recorder : goal.invariant-loop-recorder
invariant-loop-recorder l = record {
  done : l.total ≡ sum_by (λ recorder. amount_of recorder l.instrument) (take l.recorder-index l.recorder-items)
      + spare_at l.catalogue.instruments l.instrument;
  bounded : l.total ≤ 2 ^ 64 * (l.recorder-index + 1);
}
