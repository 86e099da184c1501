-- one name more
use Rattle.std.proofs.Common.{ℕ, Bool, ◌++◌, List, Option, is_some, not, take_all, ap, ◌∙◌, arith}
use Rattle.std.specs.BTreeMap.{get_by_text}
use Rattle.std.specs.List.{enumerate_from, flat_map}
use Rattle.metric_diff.specs.declared.change.Change.{Change}
use Rattle.metric_diff.specs.Changes.{coming, new_by}
use Rattle.metric_diff.specs.Parts.{when}
use Rattle.metric_diff.proofs.Lists.{numbered_turn}
use Rattle.metric_diff.proofs.named.add_new.Goals as goal

pub loop-number-preserved : goal.loop-number-preserved
loop-number-preserved c =
    let find = get_by_text c.args.places.now in
    let n = c.loop-number.number in
    let before = c.loop-number.changes in
    numbered_turn (new_by c.args.sort find) c.args.names.now n c.index-names-number.result c.args.changes.now before c.add_when.new.changes (omega arith) c.index-names-number.is
    c.loop-number.invariant
    (c.in_ok-add_when.ensures
    ∙ ap (λ (k : Change). before ++ when (not c.is_some-is_known.result) k) c.coming.ensures
    ∙ ap (λ (b : Bool). before ++ when (not b) (coming c.args.sort n)) c.is_some-is_known.ensures
    ∙ ap (λ (o : Option ℕ). before ++ when (not (is_some o)) (coming c.args.sort n)) c.place_in.ensures
    ∙ ap (λ (t : List ℕ). before ++ when (not (is_some (find t))) (coming c.args.sort n)) c.as_str.ensures)

pub returns : goal.returns
returns c =
    let names = c.args.names.now in
    c.loop-number.invariant
    ∙ ap (λ (ns : List (List ℕ)). c.args.changes.now ++ flat_map (new_by c.args.sort (get_by_text c.args.places.now)) (enumerate_from 0 ns)) (take_all c.loop-number.number names (omega arith))
