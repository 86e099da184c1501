-- When a whole input is not read.
use Rattle.std.specs.Prelude.{ℕ, ◌+◌, ◌<◌, ◌≤◌, ◌⊎◌, List, length, Option, IfSome}
use Rattle.metric_io.specs.Counts.{HasFailed, higher_count}
use Rattle.metric_io.specs.declared.counts.ReadCounts.{ReadCounts}

-- the most bytes that an input may have
abbrev pub most_bytes : ℕ
most_bytes = 67108864

-- how often a source is asked at most for an input
abbrev pub most_reads : ℕ
most_reads = 4194304

-- The source was read as often as it may be, and each of these reads
-- gave a byte or was interrupted.
pub record ReachesReadLimit (old new : ReadCounts) (input : Option (List ℕ)) : Type 0 where
  pub reads : higher_count old.reads most_reads ≤ new.reads
  pub gave : IfSome input
      (λ xs. higher_count old.interruptions most_reads ≤ new.interruptions + length xs)

-- # read fault (profile) [IsReadFault, ReachesReadLimit]
-- The source failed, or had more than 67,108,864 bytes, or was asked 4,194,304 times and each time
-- gave a byte or was interrupted.
abbrev pub IsReadFault : ReadCounts → ReadCounts → Option (List ℕ) → Type 0
IsReadFault old new input =
    HasFailed old.failures new.failures
    ⊎ (IfSome input (λ xs. most_bytes < length xs) ⊎ ReachesReadLimit old new input)
