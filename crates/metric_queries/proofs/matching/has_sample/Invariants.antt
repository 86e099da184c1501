-- no sample so far is asked for
use Rattle.std.proofs.Common.{◌≡◌, false, take}
use Rattle.std.specs.List.{list_any}
use Rattle.metric_queries.specs.ByKeys.{is_sample_asked}
use Rattle.metric_queries.proofs.matching.has_sample.Given as goal

abbrev pub invariant-loop-sample : goal.invariant-loop-sample
invariant-loop-sample l =
    list_any (is_sample_asked l.served.kind l.asked) (take l.sample-index l.samples) ≡ false
