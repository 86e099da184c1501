-- one key more
use Rattle.std.proofs.Common.{ℕ, Bool, ◌++◌, List, not, take_all, ap, ◌∙◌, arith}
use Rattle.std.specs.List.{enumerate_from, flat_map}
use Rattle.metric_lint.specs.declared.remark.Remark.TheVariants.{UnknownKey}
use Rattle.metric_lint.specs.Remarks.{is_declared_by, key_remark}
use Rattle.metric_lint.specs.When.{when}
use Rattle.metric_lint.proofs.Lists.{numbered_turn}
use Rattle.metric_lint.proofs.linting.add_keys.Goals as goal

pub loop-place-preserved : goal.loop-place-preserved
loop-place-preserved c =
    let contents = c.args.catalogue.now in
    let selected = c.args.selected.now in
    let of = c.args.of in
    let n = c.loop-place.place in
    let key = c.index-keys-place.result in
    let before = c.loop-place.remarks in
    numbered_turn (key_remark contents selected of.view of.list) c.args.keys.now n key c.args.remarks.now before c.add_when.new.remarks (omega arith) c.index-keys-place.is
    c.loop-place.invariant
    (c.in_ok-add_when.ensures
    ∙ ap (λ (b : Bool). before ++ when (not b) (UnknownKey of.view of.list n))
    (c.is_declared_by-is_declared.ensures ∙ ap (λ (name : List ℕ). is_declared_by contents selected name) c.as_str.ensures))

pub returns : goal.returns
returns c =
    let keys = c.args.keys.now in
    c.loop-place.invariant
    ∙ ap (λ (ks : List (List ℕ)). c.args.remarks.now ++ flat_map (key_remark c.args.catalogue.now c.args.selected.now c.args.of.view c.args.of.list) (enumerate_from 0 ks))
    (take_all c.loop-place.place keys (omega arith))
