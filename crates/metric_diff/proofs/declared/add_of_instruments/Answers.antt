-- parts, keys, combinations and budgets, one after the other
use Rattle.std.proofs.Common.{◌++◌, ◌∙◌}
use Rattle.std.specs.List.{enumerate_from, flat_map}
use Rattle.std.proofs.lemmas.Result.{on_ok_weaker}
use Rattle.metric_diff.specs.Combined.{combination_changes}
use Rattle.metric_diff.specs.Instruments.{all_declared_parts, budget, declared_keys, declared_parts}
use Rattle.metric_diff.proofs.Lists.{four}
use Rattle.metric_diff.proofs.declared.add_of_instruments.Goals as goal

pub returns : goal.returns
returns c =
    let old = c.args.of.old in
    let new = c.args.of.new in
    let one = c.args.one.now in
    let other = c.args.other.now in
    let contents = c.args.catalogues.0.now in
    let others = c.args.catalogues.1.now in
    let parted = c.add_declared_parts.new.changes in
    let keyed = c.add_declared_keys.new.changes in
    let combined = c.add_combinations.new.changes in
    on_ok_weaker c.tell_each.result
    (λ last. four c.args.changes.now parted keyed combined c.tell_each.new.changes
    (declared_parts old new one other all_declared_parts) (declared_keys old new one.keys other.keys) (combination_changes contents others old new one other)
    (flat_map (budget old new others.recorders) (enumerate_from 0 contents.recorders))
    c.in_ok-add_declared_parts.ensures
    (c.in_ok-add_declared_keys.ensures ∙ (λ i. parted ++ declared_keys old new (c.as_slice.ensures.items i) (c.as_slice-2.ensures.items i)))
    c.in_ok-add_combinations.ensures
    (last ∙ (λ i. combined ++ flat_map (budget old new (c.recorders-others.ensures.recorders i)) (enumerate_from 0 (c.recorders.ensures.recorders i)))))
    c.tell_each.ensures
