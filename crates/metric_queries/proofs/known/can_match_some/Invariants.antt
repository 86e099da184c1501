-- no stream so far fulfils what is asked
use Rattle.std.proofs.Common.{◌≡◌, false, take}
use Rattle.std.specs.List.{list_any}
use Rattle.metric_queries.specs.ByKeys.{served_matches}
use Rattle.metric_queries.specs.declared.served.Served.{Served}
use Rattle.metric_queries.proofs.known.can_match_some.Given as goal

abbrev pub invariant-loop-served : goal.invariant-loop-served
invariant-loop-served l =
    list_any (λ (served : Served). served_matches l.added served l.asked)
    (take l.served-index l.streams) ≡ false
