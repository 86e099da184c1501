-- one name more
use Rattle.std.proofs.Common.{ℕ, ◌++◌, List, Option, take_all, ap, ◌∙◌, arith}
use Rattle.std.specs.BTreeMap.{get_by_text}
use Rattle.std.specs.List.{enumerate_from, flat_map}
use Rattle.metric_diff.specs.Changes.{change, change_by, plan_of}
use Rattle.metric_diff.proofs.Lists.{numbered_turn}
use Rattle.metric_diff.proofs.named.add_old.Goals as goal

pub loop-number-preserved : goal.loop-number-preserved
loop-number-preserved c =
    let old = (plan_of c.args.old) in
    let new = (plan_of c.args.new) in
    let find = get_by_text c.args.places.now in
    let n = c.loop-number.number in
    let before = c.loop-number.changes in
    numbered_turn (change_by c.args.sort find old new) c.args.names.now n c.index-names-number.result c.args.changes.now before c.add_change.new.changes (omega arith) c.index-names-number.is
    c.loop-number.invariant
    (c.in_ok-add_change.ensures
    ∙ ap (λ (o : Option ℕ). before ++ change c.args.sort old new n o) c.place_in-found.ensures
    ∙ ap (λ (t : List ℕ). before ++ change c.args.sort old new n (find t)) c.as_str.ensures)

pub returns : goal.returns
returns c =
    let names = c.args.names.now in
    c.loop-number.invariant
    ∙ ap (λ (ns : List (List ℕ)). c.args.changes.now ++ flat_map (change_by c.args.sort (get_by_text c.args.places.now) (plan_of c.args.old) (plan_of c.args.new)) (enumerate_from 0 ns)) (take_all c.loop-number.number names (omega arith))
