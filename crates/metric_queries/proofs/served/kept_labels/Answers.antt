use Rattle.std.proofs.Common.{ap, ◌∙◌, length, rules, take}
use Rattle.std.specs.List.{zip}
use Rattle.metric_family.specs.Labels.{label_of}
use Rattle.metric_queries.proofs.Pairs.{labels_more, labels_of, labels_same, pairs_end, pairs_turn}
use Rattle.metric_queries.proofs.served.kept_labels.Goals as goal

pub loop-key-preserved-in-Continue-branch-2 : goal.loop-key-preserved-in-Continue-branch-2
loop-key-preserved-in-Continue-branch-2 c =
    let before = take (length c.loop-key.yielded) (zip c.args.keys.now c.args.kept.now) in
    let pairs = pairs_turn c.args.keys.now c.args.kept.now c.loop-key.yielded c.into_iter-key-iterator.result c.loop-key.key-iterator c.next.new.self c.next.result (first_of (cc, search rules)) (first_of (cc, search rules)) c.loop-key.yielded_by (c.in-Some.key, c.in-Some.keep) c.in-Some.is c.next.ensures.steps in
    labels_more before _ c.in-Some.key.now c.in-Some.keep.now _ _ _ pairs c.if-keep.true c.loop-key.invariant c.in_ok-push.ensures.ok (c.in_ok-label.ensures ∙ ap label_of c.as_str.ensures)

pub loop-key-preserved : goal.loop-key-preserved
loop-key-preserved c =
    let before = take (length c.loop-key.yielded) (zip c.args.keys.now c.args.kept.now) in
    let pairs = pairs_turn c.args.keys.now c.args.kept.now c.loop-key.yielded c.into_iter-key-iterator.result c.loop-key.key-iterator c.next.new.self c.next.result (first_of (cc, search rules)) (first_of (cc, search rules)) c.loop-key.yielded_by (c.in-Some.key, c.in-Some.keep) c.in-Some.is c.next.ensures.steps in
    labels_same before _ c.in-Some.key.now c.in-Some.keep.now _ pairs c.if-keep.false c.loop-key.invariant

pub returns : goal.returns
returns c =
    let pairs = pairs_end c.args.keys.now c.args.kept.now c.loop-key.yielded c.into_iter-key-iterator.result c.loop-key.key-iterator c.next.new.self c.next.result (first_of (cc, search rules)) (first_of (cc, search rules)) c.loop-key.yielded_by c.in-None.is c.next.ensures.steps in
    c.loop-key.invariant ∙ ap labels_of pairs
