-- The windows of a reader meet.
use Rattle.std.proofs.Common.{◌≡◌, ◌<◌, ℕ, Ok, Some, length, sym, subst, ◌∙◌, arith}
use Rattle.std.specs.Prelude.{slice_get}
use Rattle.std.proofs.lemmas.List.{get_or-set_same}
use Rattle.std.proofs.lemmas.Option.{same_Some, slice_get_within}
use Rattle.metric_facts.specs.declared.facts.Facts.{Facts}
use Rattle.metric_history.specs.declared.batch.Batch.{Batch}
use Rattle.metric_seat.specs.Collections.{AnswersCollector, IsNextBatch, collectable, with_seen}
use Rattle.metric_seat.specs.Seats.{CollectorValue, ProviderValue, seen_at}
use Rattle.metric_slot.specs.declared.seen.Seen.{Seen}
use Rattle.metric_slot.specs.Sightings.{nothing_seen, seen_of}
use Rattle.metric_provider.proofs.CollectLaws.{collected}
use Rattle.metric_provider.specs.Windows.{Meets}

of_next : (own : Facts) (start reader : ℕ) (first later : ℕ) (seen : Seen) (before after : Batch)
    → IsNextBatch own start reader seen first before → IsNextBatch own start reader (seen_of before) later after → Meets own start reader before after
of_next own start reader first later seen before after a b =
    record { from = b.continues.from; start = b.continues.start; mark = b.continues.mark; time = omega (arith, b.time) }

pub meets : (p : ProviderValue) (seat : CollectorValue) (instrument first later : ℕ) (own : Facts) (before after : Batch)
    → slice_get p.plan.facts.instruments instrument ≡ Some own
    → AnswersCollector (collectable p seat instrument) seat instrument first (Ok before)
    → AnswersCollector (collectable p (with_seen seat instrument before) instrument) (with_seen seat instrument before) instrument later (Ok after)
    → Meets own seat.run.start seat.number before after
meets p seat instrument first later own before after found told then =
    let seen : CollectorValue = with_seen seat instrument before in
    let a = collected p seat instrument first before told in
    let b = collected p seen instrument later after then in
    let below : instrument < length seat.seen = omega (arith, a.long, slice_get_within p.plan.facts.instruments instrument own found) in
    let last : seen_at seen instrument ≡ seen_of before = get_or-set_same seat.seen instrument (seen_of before) (nothing_seen seat.run.start) below in
    let first_own : a.own ≡ own = same_Some a.own own (sym a.found ∙ found) in
    let later_own : b.own ≡ own = same_Some b.own own (sym b.found ∙ found) in
    of_next own seat.run.start seat.number first later (seen_at seat instrument) before after
    (subst (λ (f : Facts). IsNextBatch f seat.run.start seat.number (seen_at seat instrument) first before) first_own a.next)
    (subst (λ (s : Seen). IsNextBatch own seat.run.start seat.number s later after) last
    (subst (λ (f : Facts). IsNextBatch f seat.run.start seat.number (seen_at seen instrument) later after) later_own b.next))
