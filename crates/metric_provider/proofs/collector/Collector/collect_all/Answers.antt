-- one collection more, and the first that is refused
use Rattle.std.proofs.Common.{◌≡◌, ◌<◌, inl, false, List, Err, length, rules, sym, ap, subst, ◌∙◌, arith}
use Rattle.std.proofs.lemmas.List.{length_push}
use Rattle.metric_history.specs.declared.batch.Batch.{Batch}
use Rattle.metric_seat.specs.Collections.{AnswersEach}
use Rattle.metric_seat.specs.Seats.{ProviderValue, is_collector_of, provider_of}
use Rattle.metric_provider.proofs.CollectLaws.{as_first, one_more, stranger}
use Rattle.metric_provider.proofs.collector.Collector.collect_all.Goals as goal

pub returns-in-Err-clause-refused : goal.returns-in-Err-clause-refused
returns-in-Err-clause-refused g c =
    let known : c.loop-instrument.instrument < length c.args.provider.now.plan.facts.instruments = search rules in
    record {
      before = c.loop-instrument.invariant.count;
      each = c.loop-instrument.invariant.each;
      why = inl (record {
        known = λ own. known;
        answer = as_first c.args.provider.now c.args.self.now c.loop-instrument.self c.args.now c.loop-instrument.done.items c.loop-instrument.instrument (Err c.in-Err.refusal)
            c.loop-instrument.invariant.count c.loop-instrument.invariant.seen known c.loop-instrument.invariant.each c.in-Err.ensures.answer;
      });
    }

pub loop-instrument-preserved : goal.loop-instrument-preserved
loop-instrument-preserved g c =
    let known : c.loop-instrument.instrument < length c.args.provider.now.plan.facts.instruments = search rules in
    let more = one_more c.args.provider.now c.args.self.now c.loop-instrument.self c.collect.new.self c.args.now c.loop-instrument.done.items c.push_reserved.new.self.items c.in-Ok-collect.batch
    c.loop-instrument.instrument c.loop-instrument.invariant.count c.loop-instrument.invariant.seen c.loop-instrument.invariant.each c.push_reserved.ensures.items known
    c.in-Ok-collect.ensures.answer c.in-Ok-collect.ensures.seen in
    record {
      count = omega (arith, ap length c.push_reserved.ensures.items, length_push c.loop-instrument.done.items c.in-Ok-collect.batch, c.loop-instrument.invariant.count);
      room = omega (arith, c.push_reserved.ensures.capacity, c.loop-instrument.invariant.room);
      each = more.each;
      seen = more.seen;
    }

pub loop-instrument-init : goal.loop-instrument-init
loop-instrument-init g c = search rules

pub returns-then-not-is_own-clause-refused : goal.returns-then-not-is_own-clause-refused
returns-then-not-is_own-clause-refused g c =
    let p : ProviderValue = c.args.provider.now in
    let same : provider_of c.plan.result.now c.run.result ≡ p = λ i. record { plan = c.plan.ensures i; run = c.run.ensures i } in
    let other : is_collector_of p c.args.self.now ≡ false =
    sym (ap (λ (q : ProviderValue). is_collector_of q c.args.self.now) same) ∙ sym c.is_of-is_own.ensures ∙ c.if-not-is_own.true in
    record {
      before = ap length c.new.ensures.items;
      each = subst (λ (all : List Batch). AnswersEach p c.args.self.now c.args.now all) (sym c.new.ensures.items) (λ i batch found. absurd cc);
      why = inl (stranger p c.args.self.now c.args.now other);
    }
