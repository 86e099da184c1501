-- the batches so far
use Rattle.std.proofs.Common.{◌≡◌, ◌≤◌, length, vec_capacity}
use Rattle.metric_seat.specs.Collections.{AnswersEach, with_all_seen}
use Rattle.metric_provider.proofs.collector.Collector.collect_all.Given as goal

abbrev pub invariant-loop-instrument : goal.invariant-loop-instrument
invariant-loop-instrument g l = record {
  count : length l.done.items ≡ l.instrument;
  room : length l.provider.plan.facts.instruments ≤ vec_capacity l.done;
  each : AnswersEach l.provider l.fn.self l.fn.now l.done.items;
  seen : l.self ≡ with_all_seen l.fn.self l.done.items;
}
