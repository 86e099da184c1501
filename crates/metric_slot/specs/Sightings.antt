-- What a reader has seen.
use Rattle.std.specs.Prelude.{ℕ}
use Rattle.metric_history.specs.declared.batch.Batch.{Batch}
use Rattle.metric_slot.specs.declared.seen.Seen.{Seen}

-- # seen (SDK, collect) [nothing_seen, seen_of]
-- No recordings, up to the start of the run; those that a batch counted, up to its time.
abbrev pub nothing_seen : ℕ → Seen
nothing_seen start = record { mark = 0; time = start }

-- that of a batch
abbrev pub seen_of : Batch → Seen
seen_of batch = record { mark = batch.mark; time = batch.time }
