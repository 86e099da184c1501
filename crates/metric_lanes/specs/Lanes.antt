-- When one past of an instrument is that of two lanes, and what a batch then is.
use Rattle.std.specs.Prelude.{◌≡◌, ◌+◌, ◌≤◌, ℕ, IsTrue, drop, length, take}
use Rattle.metric_facts.specs.declared.facts.FactsFields.{FactsFields as Facts}
use Rattle.metric_history.specs.Aggregations.{stream_aggregation}
use Rattle.metric_history.specs.Answers.{Past, batch, covered}
use Rattle.metric_history.specs.Points.{points}
use Rattle.metric_views.specs.declared.stream.Stream.{Stream}
use Rattle.metric_lanes.specs.Joined.{Interleaves, joins}
use Rattle.metric_lanes.specs.Together.{ArePutTogether, IsHeld}

-- # lanes (profile) [AreLanes, IsTogether]
-- The recordings of two lanes in one order, in which the reader's last batch stands between those
-- that it covered of either lane and the others; and each lane has that batch's time.
pub record AreLanes (reader : ℕ) (a b all : Past) : Type 0 where
  pub before : Interleaves (take (a.mark reader) a.accepted) (take (b.mark reader) b.accepted)
      (take (all.mark reader) all.accepted)
  pub after : Interleaves (drop (a.mark reader) a.accepted) (drop (b.mark reader) b.accepted)
      (drop (all.mark reader) all.accepted)
  pub past_a : a.mark reader ≤ length a.accepted
  pub past_b : b.mark reader ≤ length b.accepted
  pub past : all.mark reader ≤ length all.accepted
  pub time : a.previous reader ≡ all.previous reader

-- A batch of all recordings is the batches of the lanes, put together: marks are added, times are
-- those of the first lane, and each stream that joins reports of each series what both do.
pub record IsTogether (facts : Facts) (since : ℕ) (a b all : Past) (reader now : ℕ) : Type 0 where
  pub from : (batch facts since all reader now).from
      ≡ (batch facts since a reader now).from + (batch facts since b reader now).from
  pub mark : (batch facts since all reader now).mark
      ≡ (batch facts since a reader now).mark + (batch facts since b reader now).mark
  pub start : (batch facts since all reader now).start ≡ (batch facts since a reader now).start
  pub time : (batch facts since all reader now).time ≡ (batch facts since a reader now).time
  pub points : (s : Stream) → IsTrue (joins (stream_aggregation s))
      → IsHeld s (covered facts a reader) → IsHeld s (covered facts b reader)
      → IsHeld s (covered facts all reader)
      → ArePutTogether (points s (covered facts a reader)) (points s (covered facts b reader))
      (points s (covered facts all reader))

-- whatever the order in which the lanes' recordings were made
abbrev pub BatchesTogether : Type 0
BatchesTogether =
    (facts : Facts) (start : ℕ) (a b all : Past) (reader now : ℕ) → AreLanes reader a b all
    → IsTogether facts start a b all reader now
