-- What a source and a sink over memory do, call by call.
use Rattle.std.specs.Prelude.{ℕ, Bool, false, ◌-◌, ◌==◌, nat_le, if◌then◌else◌, ◌&&◌, min, List}
use Rattle.std.specs.Prelude.{◌++◌, length, take, drop, Option, None, Some, Result, Ok, Err}
use Rattle.std.specs.Result.{result_unwrap_or}
use Rattle.metric_io.specs.Counts.{counts_after, next_count}
use Rattle.metric_io.specs.declared.counts.ReadCounts.{ReadCounts}
use Rattle.metric_io.specs.declared.devices.SourceFault.{SourceFault}
use Rattle.metric_io.specs.declared.devices.SourceFault.TheVariants.{Interrupted, Broken}

-- # state of a cut device (profile) [SourceState, SinkState]
-- What is left or held, the place of failure, the most of one call, the counts.
pub record SourceState : Type 0 where
  pub rest : List ℕ
  pub most : ℕ
  pub interrupt_at : Option ℕ
  pub fail_at : Option ℕ
  pub counts : ReadCounts

-- the read of this number fails: it is the first that does, or a later one
abbrev pub fails_from : Option ℕ → ℕ → Bool
fails_from None number = false
fails_from (Some first) number = nat_le first number

-- the read of this number is the one that a signal interrupts
abbrev pub is_interrupted : Option ℕ → ℕ → Bool
is_interrupted None number = false
is_interrupted (Some place) number = place == number

-- what the next read into a buffer of this length answers
abbrev pub answer_of : SourceState → ℕ → Result ℕ SourceFault
answer_of s room =
    if fails_from s.fail_at (next_count s.counts.reads) then Err Broken else (
    if is_interrupted s.interrupt_at (next_count s.counts.reads) then Err Interrupted else
    Ok (min room (min s.most (length s.rest))))

-- how many bytes the next read puts into a buffer of this length
abbrev pub given_count : SourceState → ℕ → ℕ
given_count s room = result_unwrap_or (answer_of s room) 0

-- the source after a read into a buffer of this length
abbrev pub after_read : SourceState → ℕ → SourceState
after_read s room = record s {
  rest = drop (given_count s room) s.rest;
  counts = counts_after s.counts (answer_of s room);
}

-- the buffer after a read into it
abbrev pub after_filled : SourceState → List ℕ → List ℕ
after_filled s buf = let given = given_count s (length buf) in take given s.rest ++ drop given buf

-- A sink over memory: the bytes that it holds, how many more it has room for, the most that one
-- write takes, whether a flush succeeds, and how often it failed.
pub record SinkState : Type 0 where
  pub held : List ℕ
  pub room : ℕ
  pub most : ℕ
  pub flushes : Bool
  pub failures : ℕ

-- how many bytes of this many the next write takes
abbrev pub taken_count : SinkState → ℕ → ℕ
taken_count s offered = min offered (min s.most s.room)

-- the sink after a write that took so many of the offered bytes
abbrev pub after_taken : SinkState → List ℕ → SinkState
after_taken s buf = let n = taken_count s (length buf) in record {
  held = s.held ++ take n buf;
  room = s.room - n;
  most = s.most;
  flushes = s.flushes;
  failures = if (n == 0) && (nat_le 1 (length buf)) then next_count s.failures else s.failures;
}

-- the sink after a call that failed
abbrev pub after_failure : SinkState → SinkState
after_failure s = record s { failures = next_count s.failures }
