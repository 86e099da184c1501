-- no name so far is asked for
use Rattle.std.proofs.Common.{◌≡◌, ℕ, List, Bor, false, take}
use Rattle.std.specs.List.{list_any}
use Rattle.metric_queries.specs.ByKeys.{takes_at}
use Rattle.metric_queries.specs.Matching.{name_label}
use Rattle.metric_queries.proofs.known.takes_some.Given as goal

abbrev pub invariant-loop-name : goal.invariant-loop-name
invariant-loop-name l =
    list_any (λ (name : Bor (List ℕ)). takes_at name_label name.now l.asked) (take l.name-index l.names) ≡ false
