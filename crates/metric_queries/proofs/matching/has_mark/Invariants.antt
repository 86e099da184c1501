-- no boundary so far is asked for
use Rattle.std.proofs.Common.{◌≡◌, false, take}
use Rattle.std.specs.Prelude.{ℕ, List, codes}
use Rattle.std.specs.List.{list_any}
use Rattle.metric_queries.specs.ByKeys.{takes_at}
use Rattle.metric_queries.proofs.matching.has_mark.Given as goal

abbrev pub invariant-loop-mark : goal.invariant-loop-mark
invariant-loop-mark l =
    list_any (λ (mark : List ℕ). takes_at (codes "le") mark l.asked) (take l.mark-index l.marks)
    ≡ false
