-- one recording more
use Rattle.std.proofs.Common.{refl, sym, ◌∙◌}
use Rattle.metric_provider.proofs.GainLaws.{gained_as, gained_end, gained_more, gained_none, told_end, told_step}
use Rattle.metric_provider.proofs.held.record_each.Goals as goal

pub record_one-answer-requires-clause-own : goal.record_one-answer-requires-clause-own
record_one-answer-requires-clause-own g c =
    (λ own. c.loop-place.invariant.facts ∙ c.is_of-is_own.ensures.0 own, λ same. c.is_of-is_own.ensures.1 (sym c.loop-place.invariant.facts ∙ same))

pub record_one-answer-requires-clause-one : goal.record_one-answer-requires-clause-one
record_one-answer-requires-clause-one g c = c.requires.each c.loop-place.place _ c.loop-place-test.true

pub loop-place-init : goal.loop-place-init
loop-place-init g c = record { told = refl; facts = refl; gained = gained_none g.B.Book.stands c.args.slot.now c.args.recorder }

pub loop-place-preserved : goal.loop-place-preserved
loop-place-preserved g c = record {
  told = told_step c.args.told.now c.loop-place.told c.record_one-answer.new.told c.args.facts.now.lo c.loop-place.place c.args.all.now _ c.loop-place-test.true c.loop-place.invariant.told
      c.in-Ok.ensures.told;
  facts = c.record_one-answer.ensures.facts ∙ c.loop-place.invariant.facts;
  gained = gained_more g.B.Book.stands c.args.slot.now c.loop-place.slot c.record_one-answer.new.slot c.args.recorder c.loop-place.place c.args.all.now _ c.loop-place-test.true
      c.loop-place.invariant.gained c.in-Ok.ensures.gains;
}

pub returns-in-Err-clause-gains : goal.returns-in-Err-clause-gains
returns-in-Err-clause-gains g c =
    gained_as g.B.Book.stands c.args.slot.now c.loop-place.slot c.record_one-answer.new.slot c.args.recorder _ c.in-Err.ensures.err c.loop-place.invariant.gained

pub returns-clause-told : goal.returns-clause-told
returns-clause-told g c =
    told_end c.args.told.now c.loop-place.told c.args.facts.now.lo c.loop-place.place c.args.all.now c.loop-place-test.false c.loop-place.invariant.told

pub returns-clause-gains : goal.returns-clause-gains
returns-clause-gains g c =
    gained_end g.B.Book.stands c.args.slot.now c.loop-place.slot c.args.recorder c.loop-place.place c.args.all.now c.loop-place-test.false c.loop-place.invariant.gained
