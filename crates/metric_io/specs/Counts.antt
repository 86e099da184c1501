-- The counts by which a device tells its reads and its failures.
use Rattle.std.specs.Prelude.{◌≡◌, ℕ, ◌+◌, ◌-◌, ◌^◌, ◌<◌, ◌≤◌, min, List, length, Result, Ok, Err}
use Rattle.std.specs.Prelude.{MatchResult}
use Rattle.metric_io.specs.declared.counts.ReadCounts.{ReadCounts}
use Rattle.metric_io.specs.declared.devices.SourceFault.{SourceFault}
use Rattle.metric_io.specs.declared.devices.SourceFault.TheVariants.{Interrupted, Broken}

-- a count that is so much higher, or at its top
abbrev pub higher_count : ℕ → ℕ → ℕ
higher_count n by = min (n + by) (2 ^ 64 - 1)

-- # counts of a source (profile) [next_count, counts_after]
-- How often it was asked, interrupted, and failed, told by the source alone; each count stops at
-- 2^64 - 1.
abbrev pub next_count : ℕ → ℕ
next_count n = higher_count n 1

-- # has failed (profile)
-- Between two moments the count of failures rose, or stands at its top.
abbrev pub HasFailed : ℕ → ℕ → Type 0
HasFailed old new = next_count old ≤ new

-- the counts of a source that was not read yet
abbrev pub no_reads : ReadCounts
no_reads = record { reads = 0; interruptions = 0; failures = 0 }

-- the counts after a read that gave this answer: an interrupted read is no failure
abbrev pub counts_after : ReadCounts → Result ℕ SourceFault → ReadCounts
counts_after old (Ok given) = record old { reads = next_count old.reads }
counts_after old (Err Interrupted) =
    record old { reads = next_count old.reads; interruptions = next_count old.interruptions }
counts_after old (Err Broken) =
    record old { reads = next_count old.reads; failures = next_count old.failures }

-- # failure of a write, a flush (profile) [CountsWrite, CountsFlush]
-- A write that answers an error, or takes nothing of something; a flush that answers an error.
abbrev pub CountsWrite : {E : Type 0} → ℕ → ℕ → Result ℕ E → List ℕ → Type 0
CountsWrite old new r buf = MatchResult r
    (λ n. (0 < n → new ≡ old) × (length buf ≡ 0 → new ≡ old)
    × (n ≡ 0 → 0 < length buf → new ≡ next_count old))
    (λ _. new ≡ next_count old)

-- a flush that answers an error is a failure, and no other
abbrev pub CountsFlush : {T E : Type 0} → ℕ → ℕ → Result T E → Type 0
CountsFlush old new r = MatchResult r (λ _. new ≡ old) (λ _. new ≡ next_count old)

-- # source, sink (profile) [Source]
-- What bytes are read from and written to, in the shapes of std's `Read` and `Write`; a read may
-- also tell an interruption.
