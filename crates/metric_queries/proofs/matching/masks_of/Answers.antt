use Rattle.std.proofs.Common.{ℕ, Bool, List, ap, ◌∙◌, length, map, rules, take}
use Rattle.std.specs.List.{zip}
use Rattle.metric_contents.specs.declared.contents.Key.{Key}
use Rattle.metric_queries.specs.ByKeys.{mask_at}
use Rattle.metric_queries.proofs.Pairs.{mapped_more, pairs_end, pairs_turn}
use Rattle.metric_queries.proofs.matching.masks_of.Goals as goal

pub loop-key-preserved : goal.loop-key-preserved
loop-key-preserved c =
    let keys = c.args.served.now.instrument.now.keys in
    let kept = c.args.served.now.stream.now.kept in
    let key : Key × Bool = (c.in-Some.key.now, c.in-Some.keep.now) in
    let pairs = pairs_turn keys kept c.loop-key.yielded c.into_iter-key-iterator.result c.loop-key.key-iterator c.next.new.self c.next.result (first_of (cc, search rules)) (first_of (cc, search rules)) c.loop-key.yielded_by (c.in-Some.key, c.in-Some.keep) c.in-Some.is c.next.ensures.steps in
    mapped_more (mask_at c.args.added.now c.args.served.now.kept_labels c.args.asked.now) (take (length c.loop-key.yielded) (zip keys kept)) _ key _ _ _ pairs c.loop-key.invariant c.in_ok-push.ensures.ok
    (c.in_ok-mask_at.ensures ∙ ap (λ (labels : List (List ℕ)). mask_at c.args.added.now labels c.args.asked.now key) c.as_slice-labels.ensures)

pub returns : goal.returns
returns c =
    let pairs = pairs_end c.args.served.now.instrument.now.keys c.args.served.now.stream.now.kept c.loop-key.yielded c.into_iter-key-iterator.result c.loop-key.key-iterator c.next.new.self c.next.result (first_of (cc, search rules)) (first_of (cc, search rules)) c.loop-key.yielded_by c.in-None.is c.next.ensures.steps in
    c.loop-key.invariant ∙ ap (map (mask_at c.args.added.now c.args.served.now.kept_labels c.args.asked.now)) pairs
