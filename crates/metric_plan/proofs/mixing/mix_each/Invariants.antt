-- the values that are left are mixed into what there is
use Rattle.std.proofs.Common.{◌≡◌, drop, fold}
use Rattle.metric_plan.proofs.mixing.mix_each.Given as goal

abbrev pub invariant-loop-value : goal.invariant-loop-value
invariant-loop-value g l =
    fold g.T.Mixed.mixed l.print (drop l.value-index l.values) ≡ fold g.T.Mixed.mixed l.initial.print l.values
