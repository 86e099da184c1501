-- one change more
use Rattle.std.proofs.Common.{◌++◌, List, take_all, ap, ◌∙◌, arith}
use Rattle.std.proofs.lemmas.List.{get_or_default}
use Rattle.metric_diff.specs.declared.change.Change.{Change}
use Rattle.metric_diff.proofs.Lists.{numbered_turn}
use Rattle.wormweekly_commands.specs.Concerns.{still_open, unless_accepted}
use Rattle.wormweekly_commands.proofs.concerns.add_open.Goals as goal

pub loop-place-preserved : goal.loop-place-preserved
loop-place-preserved c =
    numbered_turn (unless_accepted c.args.accepted.now) c.args.changes.now c.loop-place.place _ c.args.left.now c.loop-place.left c.add_unless_accepted.new.left (omega arith)
    (get_or_default c.args.changes.now c.loop-place.place _ _ (omega arith)) c.loop-place.invariant c.in_ok-add_unless_accepted.ensures

pub returns : goal.returns
returns c =
    let changes = c.args.changes.now in
    c.loop-place.invariant
    ∙ ap (λ (xs : List Change). c.args.left.now ++ still_open c.args.accepted.now xs) (take_all c.loop-place.place changes (omega arith))
