-- one name more
use Rattle.std.proofs.Common.{ℕ, List, ◌++◌, ◌∷◌, [], map, take_all, ap, ◌∙◌, arith}
use Rattle.std.specs.BTreeMap.{get_by_text}
use Rattle.std.specs.List.{enumerate_from}
use Rattle.metric_diff.specs.Changes.{repeated}
use Rattle.metric_diff.proofs.Lists.{mapped_turn}
use Rattle.metric_diff.proofs.names.repeated_names.Goals as goal

pub loop-number-preserved : goal.loop-number-preserved
loop-number-preserved c =
    let n = c.loop-number.number in
    let before = c.loop-number.names in
    mapped_turn (repeated (get_by_text c.args.places.now)) c.args.streams.now n c.index-streams-number.result before c.push.new.self (omega arith) c.index-streams-number.is
    c.loop-number.invariant
    (c.in_ok-push.ensures.ok ∙ ap (λ (t : List ℕ). before ++ t ∷ []) c.in_ok-repeated.ensures)

pub returns : goal.returns
returns c =
    let streams = c.args.streams.now in
    c.loop-number.invariant ∙ ap (λ ns. map (repeated (get_by_text c.args.places.now)) (enumerate_from 0 ns)) (take_all c.loop-number.number streams (omega arith))
