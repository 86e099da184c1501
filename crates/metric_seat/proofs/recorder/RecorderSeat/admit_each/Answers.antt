-- one more that the seat may make, and the first that it may not
use Rattle.std.proofs.Common.{◌≡◌, ◌<◌, ◌≤◌, length, false, sym, ◌∙◌, arith}
use Rattle.std.proofs.lemmas.Bool.Decides.{nat_tests}
use Rattle.metric_seat.specs.Seats.{ProviderValue, is_recorder_of, provider_of}
use Rattle.metric_seat.proofs.KeyLaws.{admitted_end, admitted_more, none_unadmitted, unadmitted, unadmitted_stranger, unadmitted_unknown}
use Rattle.metric_seat.proofs.recorder.RecorderSeat.admit_each.Goals as goal

pub returns-then-is_empty-clause-admitted : goal.returns-then-is_empty-clause-admitted
returns-then-is_empty-clause-admitted c =
    let none : length c.args.all.now ≡ 0 = grind (arith, nat_tests) in
    none_unadmitted (provider_of c.args.plan.now c.args.run) c.args.self.now c.args.instrument c.args.all.now none

pub loop-place-preserved : goal.loop-place-preserved
loop-place-preserved c =
    let p : ProviderValue = provider_of c.args.plan.now c.args.run in
    admitted_more p c.args.self.now c.args.instrument c.facts-facts.result.now c.loop-place.place c.args.all.now _ _ (sym c.is_of.ensures ∙ c.if-not-is_of.false) c.facts-facts.ensures.facts
    c.loop-place-test.true (sym c.in-Ok.ensures) c.loop-place.invariant

pub returns-then-not-is_of-clause-refused : goal.returns-then-not-is_of-clause-refused
returns-then-not-is_of-clause-refused c =
    let some : 0 < length c.args.all.now = grind (arith, nat_tests) in
    let other : is_recorder_of (provider_of c.args.plan.now c.args.run) c.args.self.now ≡ false = sym c.is_of.ensures ∙ c.if-not-is_of.true in
    unadmitted_stranger (provider_of c.args.plan.now c.args.run) c.args.self.now c.args.instrument c.args.all.now some other

pub returns-then-instrument-all_facts-clause-refused : goal.returns-then-instrument-all_facts-clause-refused
returns-then-instrument-all_facts-clause-refused c =
    let some : 0 < length c.args.all.now = grind (arith, nat_tests) in
    let past : length c.args.plan.now.facts.instruments ≤ c.args.instrument = grind (arith, nat_tests) in
    unadmitted_unknown (provider_of c.args.plan.now c.args.run) c.args.self.now c.args.instrument c.args.all.now some (sym c.is_of.ensures ∙ c.if-not-is_of.false) past

pub returns-in-Err-clause-refused : goal.returns-in-Err-clause-refused
returns-in-Err-clause-refused c =
    let p : ProviderValue = provider_of c.args.plan.now c.args.run in
    unadmitted p c.args.self.now c.args.instrument c.facts-facts.result.now c.loop-place.place c.args.all.now _ c.in-Err.refusal (sym c.is_of.ensures ∙ c.if-not-is_of.false)
    c.facts-facts.ensures.facts c.loop-place-test.true (sym c.in-Err.ensures) c.loop-place.invariant

pub returns-clause-admitted : goal.returns-clause-admitted
returns-clause-admitted c =
    let p : ProviderValue = provider_of c.args.plan.now c.args.run in
    admitted_end p c.args.self.now c.args.instrument c.loop-place.place c.args.all.now c.loop-place-test.false c.loop-place.invariant
