use Rattle.std.proofs.Common.{sym, ◌∙◌}
use Rattle.metric_glob.proofs.SpellLemmas.{spelled_goes, spelled_stops, spelled_ends, both_empty, first_left}
use Rattle.metric_glob.proofs.confirming.is_spelled.Goals as goal

pub returns-in_default : goal.returns-in_default
returns-in_default c =
    sym (sym c.loop-character.invariant
    ∙ spelled_stops c.args.pattern.now c.loop-character.left.0.now c.loop-character.left.1.now c.loop-character.character-index c.loop-character-test.true c.in_default.ensures)

pub loop-character-preserved : goal.loop-character-preserved
loop-character-preserved c =
    sym (spelled_goes c.args.pattern.now c.loop-character.left.0.now c.loop-character.left.1.now c.in-Some.after.0.now c.in-Some.after.1.now c.loop-character.character-index c.loop-character-test.true c.in-Some.ensures)
    ∙ c.loop-character.invariant

pub returns-then-is_empty : goal.returns-then-is_empty
returns-then-is_empty c =
    both_empty _ _ c.is_empty.result c.is_empty-then-is_empty.result _ c.is_empty.ensures c.if-is_empty.true c.is_empty-then-is_empty.ensures
    (sym c.loop-character.invariant ∙ spelled_ends c.args.pattern.now c.loop-character.left.0.now c.loop-character.left.1.now c.loop-character.character-index c.loop-character-test.false)

pub returns-else-is_empty : goal.returns-else-is_empty
returns-else-is_empty c =
    first_left _ _ c.is_empty.result _ c.is_empty.ensures c.if-is_empty.false
    (sym c.loop-character.invariant ∙ spelled_ends c.args.pattern.now c.loop-character.left.0.now c.loop-character.left.1.now c.loop-character.character-index c.loop-character-test.false)
