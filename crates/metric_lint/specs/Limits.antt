-- What is found of an instrument that is recorded so often. The questions stand in
-- the order in which they are asked.
use Rattle.std.specs.Prelude.{◌≡◌, ℕ, ◌≤◌, min, IsTrue, List, Option, slice_get}
use Rattle.std.specs.List.{enumerate_from}
use Rattle.metric_contents.specs.declared.contents.Contents.{Contents}
use Rattle.metric_contents.specs.declared.contents.Instrument.{Instrument}
use Rattle.metric_views.specs.declared.stream.Stream.{Stream}
use Rattle.metric_bounds.specs.Finding.{WhereThere}
use Rattle.metric_bounds.specs.First.{Asks, Each, Then}
use Rattle.metric_bounds.specs.Safe.{AmountsFit, CountsFit, HighFits, LowFits}
use Rattle.metric_bounds.specs.Sets.{sets_of}
use Rattle.metric_bounds.specs.Sums.{is_summed}
use Rattle.metric_lint.specs.declared.limit.Limit.{Limit}
use Rattle.metric_lint.specs.declared.limit.Limit.TheVariants.{Count, Amount, SumLow, SumHigh}
use Rattle.metric_lint.specs.declared.limit.Limit.TheVariants.{Series}

-- # what is found at so many recordings (profile) [OwnFinds, TotalFinds]
-- Of an instrument first whether its counts, the amount of its values, its least and its greatest
-- sum fit, then of each of its streams whether its series are within the limit: the first that
-- fails.
abbrev pub OwnFinds : ℕ → Type 0 → Instrument → Option Limit → Type 0
OwnFinds total summed instrument =
    Then (Asks (CountsFit total) Count)
    (Then (Asks (AmountsFit total instrument) Amount)
    (Then (Asks (summed → LowFits total instrument) SumLow)
    (Asks (summed → HighFits total instrument) SumHigh)))

-- Where the stream is of the instrument of this number, which is recorded so often,
-- its series are within its limit.
abbrev pub SeriesFit : Contents → ℕ → ℕ → Stream → Type 0
SeriesFit contents instrument total stream =
    stream.instrument ≡ instrument → min (sets_of contents stream) total ≤ stream.limit

-- what is found of a stream with its number
abbrev pub StreamFinds : Contents → ℕ → ℕ → ℕ × Stream → Option Limit → Type 0
StreamFinds contents instrument total stream =
    Asks (SeriesFit contents instrument total stream.1) (Series stream.0)

abbrev pub OwnFindsAt : Contents → List Stream → ℕ → ℕ → Option Limit → Type 0
OwnFindsAt contents streams instrument total =
    WhereThere (OwnFinds total (IsTrue (is_summed streams instrument)))
    (slice_get contents.instruments instrument)

-- what is found of the instrument of a number that is recorded so often: of its own
-- numbers, and then of its streams
abbrev pub TotalFinds : Contents → List Stream → ℕ → ℕ → Option Limit → Type 0
TotalFinds contents streams instrument total =
    Then (OwnFindsAt contents streams instrument total)
    (Each (StreamFinds contents instrument total) (enumerate_from 0 streams))
