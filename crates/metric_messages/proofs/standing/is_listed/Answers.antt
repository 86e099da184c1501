-- one byte later
use Rattle.std.proofs.Common.{◌∙◌, sym, ap, arith}
use Rattle.metric_messages.specs.Standing.{has_word}
use Rattle.metric_messages.proofs.StandingLaws.{listed_later}
use Rattle.metric_messages.proofs.standing.is_listed.Goals as goal

pub loop-place-preserved : goal.loop-place-preserved
loop-place-preserved c =
    listed_later c.args.name.now c.args.number c.args.before.now c.loop-place.place c.loop-place-test.true
    (ap (has_word c.args.name.now) (sym c.split_at.ensures.back) ∙ sym c.has_word.ensures ∙ c.if-has_word.false)
    ∙ c.loop-place.invariant
