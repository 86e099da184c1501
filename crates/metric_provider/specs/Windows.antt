-- How the windows of a reader meet.
use Rattle.std.specs.Prelude.{◌≡◌, ◌≤◌, ℕ, Ok, Some, if◌then◌else◌, slice_get}
use Rattle.metric_facts.specs.declared.facts.Facts.{Facts}
use Rattle.metric_facts.specs.Facts.{is_delta}
use Rattle.metric_history.specs.declared.batch.Batch.{Batch}
use Rattle.metric_seat.specs.Collections.{AnswersCollector, collectable, with_seen}
use Rattle.metric_seat.specs.Seats.{CollectorValue, ProviderValue}

-- # windows that meet (SDK, temporality) [Meets, WindowsMeet]
-- A reader's batch begins where and when its batch before that ended (delta), or where and when the
-- run did (cumulative); it counts no fewer recordings and is of no earlier time.
pub record Meets (own : Facts) (began reader : ℕ) (before after : Batch) : Type 0 where
  pub from : after.from ≡ (if is_delta own reader then before.mark else 0)
  pub start : after.start ≡ (if is_delta own reader then before.time else began)
  pub mark : before.mark ≤ after.mark
  pub time : before.time ≤ after.time

-- each two batches of an instrument that a seat is told one after the other
abbrev pub WindowsMeet : Type 0
WindowsMeet =
    (p : ProviderValue) (seat : CollectorValue) (instrument first later : ℕ) (own : Facts)
    (before after : Batch)
    → slice_get p.plan.facts.instruments instrument ≡ Some own
    → (let asked = collectable p seat instrument in
    AnswersCollector asked seat instrument first (Ok before))
    → (let seen = with_seen seat instrument before in
    let asked = collectable p seen instrument in
    AnswersCollector asked seen instrument later (Ok after))
    → Meets own seat.run.start seat.number before after
