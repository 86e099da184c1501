-- When the streams of a config can overflow neither a limit nor a number, whatever is recorded
-- within the budgets and spare budgets. The parts stand in the order in which they are tried.
use Rattle.std.specs.Prelude.{◌≡◌, ◌≢◌, ℕ, ◌<◌, ◌≤◌, ◌^◌, pos, ◌<ℤ◌, IsTrue, All, AllPairs, min}
use Rattle.std.specs.Prelude.{List, Some, slice_get, FitsSigned}
use Rattle.std.specs.Int.{w64}
use Rattle.metric_contents.specs.declared.contents.Contents.{Contents}
use Rattle.metric_contents.specs.declared.contents.Instrument.{Instrument}
use Rattle.metric_views.specs.declared.config.Config.{Config}
use Rattle.metric_views.specs.declared.stream.Stream.{Stream}
use Rattle.metric_resolve.specs.Collisions.{identity_of}
use Rattle.metric_resolve.specs.Resolved.{streams_of}
use Rattle.metric_bounds.specs.Amounts.{total_of, amount_with, low_with, high_with}
use Rattle.metric_bounds.specs.Sets.{sets_of}
use Rattle.metric_bounds.specs.Sums.{is_summed}

-- No two streams have one identity.
abbrev pub AreDistinct : Contents → List Stream → Type 0
AreDistinct contents streams =
    AllPairs (λ stream other. identity_of contents stream ≢ identity_of contents other) streams

-- The instrument may be recorded less than 2^64 times.
abbrev pub CountsFit : ℕ → Type 0
CountsFit total = total < 2 ^ 64

-- No two sums of its values are 2^64 or more apart.
abbrev pub AmountsFit : ℕ → Instrument → Type 0
AmountsFit total instrument = amount_with total instrument.lo instrument.hi <ℤ pos (2 ^ 64)

-- No sum of its values is below the least 64-bit number.
abbrev pub LowFits : ℕ → Instrument → Type 0
LowFits total instrument = FitsSigned w64 (low_with total instrument.lo)

-- No sum of its values is above the greatest 64-bit number.
abbrev pub HighFits : ℕ → Instrument → Type 0
HighFits total instrument = FitsSigned w64 (high_with total instrument.hi)

-- The counts of an instrument fit, and so do its sums where a stream keeps them.
pub record IsSafeInstrument (total : ℕ) (instrument : Instrument) (summed : Type 0) : Type 0 where
  pub counts : CountsFit total
  pub amounts : AmountsFit total instrument
  pub low : summed → LowFits total instrument
  pub high : summed → HighFits total instrument

abbrev pub AreSafeInstruments : Contents → List Stream → Type 0
AreSafeInstruments contents streams =
    (number : ℕ) (instrument : Instrument) → slice_get contents.instruments number ≡ Some instrument
    → IsSafeInstrument (total_of contents number) instrument (IsTrue (is_summed streams number))

-- As many series as a stream can have are within its limit.
abbrev pub SetsFit : Contents → Stream → Type 0
SetsFit contents stream =
    min (sets_of contents stream) (total_of contents stream.instrument) ≤ stream.limit

-- what holds of a catalogue and the streams of a config that are safe
pub record AreSafe (contents : Contents) (streams : List Stream) : Type 0 where
  pub identities : AreDistinct contents streams
  pub instruments : AreSafeInstruments contents streams
  pub sets : All (SetsFit contents) streams

-- # safe (profile)
-- Identities are distinct; total and amount are u64; where a sum is kept low and high are i64; no
-- stream can have more series than its limit.
abbrev pub IsSafe : Contents → Config → Type 0
IsSafe contents config = AreSafe contents (streams_of contents config)
