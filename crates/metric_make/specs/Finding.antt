-- Which part of safety fails first, with what it is about. The parts are asked in this order: no two
-- streams have one identity; then of each instrument its counts, the amount of its values, its
-- least and its greatest sum; then of each stream how many series it can have.
use Rattle.std.specs.Prelude.{◌≡◌, ℕ, IsTrue, List, Option, Some, None, slice_get}
use Rattle.std.specs.List.{enumerate_from, filter_map}
use Rattle.metric_contents.specs.declared.contents.Contents.{Contents}
use Rattle.metric_contents.specs.declared.contents.Instrument.{Instrument}
use Rattle.metric_views.specs.declared.config.Config.{Config}
use Rattle.metric_views.specs.declared.stream.Stream.{Stream}
use Rattle.metric_resolve.specs.declared.warning.Warning.{Warning}
use Rattle.metric_resolve.specs.declared.warning.Warning.TheVariants as warnings
use Rattle.metric_resolve.specs.Applying.{all_instruments}
use Rattle.metric_resolve.specs.Resolved.{streams_of}
use Rattle.metric_resolve.specs.Warnings.{warnings_of}
use Rattle.metric_bounds.specs.Amounts.{total_of}
use Rattle.metric_bounds.specs.Finding.{WhereThere}
use Rattle.metric_bounds.specs.First.{Asks, Each, Then}
use Rattle.metric_bounds.specs.Safe.{AmountsFit, AreDistinct, CountsFit, HighFits, LowFits, SetsFit}
use Rattle.metric_bounds.specs.Sums.{is_summed}
use Rattle.metric_make.specs.declared.fault.MakeFault.{MakeFault}
use Rattle.metric_make.specs.declared.fault.MakeFault.TheVariants as faults

-- the streams of a collision
abbrev pub collision_in : Warning → Option MakeFault
collision_in (warnings.Collision a b) = Some (faults.Collision a b)
collision_in (warnings.Unfit view instrument) = None

-- the first collision of which there is a warning
abbrev pub first_collision : List Warning → Option MakeFault
first_collision warned = slice_get (filter_map collision_in warned) 0

-- no two streams have one identity, or else two have that are warned of first
abbrev pub CollisionFinds : Contents → List Stream → List Warning → Option MakeFault → Type 0
CollisionFinds contents streams warned None = AreDistinct contents streams
CollisionFinds contents streams warned (Some fault) =
    (¬ AreDistinct contents streams) × (first_collision warned ≡ Some fault)

-- what is found at the instrument of a number, of so many recordings, of which a stream keeps a sum
-- or none does
abbrev pub OwnFinds : ℕ → ℕ → Type 0 → Instrument → Option MakeFault → Type 0
OwnFinds number total summed instrument =
    Then (Asks (CountsFit total) (faults.CountRange number))
    (Then (Asks (AmountsFit total instrument) (faults.AmountRange number))
    (Then (Asks (summed → LowFits total instrument) (faults.SumLow number))
    (Asks (summed → HighFits total instrument) (faults.SumHigh number))))

-- the same where there is such an instrument
abbrev pub NumberFinds : Contents → List Stream → ℕ → Option MakeFault → Type 0
NumberFinds contents streams number =
    WhereThere
    (OwnFinds number (total_of contents number) (IsTrue (is_summed streams number)))
    (slice_get contents.instruments number)

-- what is found at all instruments
abbrev pub InstrumentsFind : Contents → List Stream → Option MakeFault → Type 0
InstrumentsFind contents streams = Each (NumberFinds contents streams) (all_instruments contents)

-- the fault of a stream of a number
abbrev pub limit_exceeded : ℕ → Stream → MakeFault
limit_exceeded number stream = faults.LimitExceeded number stream.reader stream.instrument

-- what is found at a stream with its number
abbrev pub StreamFinds : Contents → ℕ × Stream → Option MakeFault → Type 0
StreamFinds contents numbered =
    Asks (SetsFit contents numbered.1) (limit_exceeded numbered.0 numbered.1)

-- what is found at all streams
abbrev pub LimitsFind : Contents → List Stream → Option MakeFault → Type 0
LimitsFind contents streams = Each (StreamFinds contents) (enumerate_from 0 streams)

-- # first part of safety that fails, with its numbers (SDK, cardinality limits; data model, identity)
-- Two streams of one identity, of which the first warning is; else the first instrument whose
-- counts, amount, least or greatest sum does not fit, and which of these; else the first stream
-- that may have more series than its limit.
abbrev pub UnsafeFinds : Contents → Config → Option MakeFault → Type 0
UnsafeFinds contents config =
    Then (CollisionFinds contents (streams_of contents config) (warnings_of contents config))
    (Then (InstrumentsFind contents (streams_of contents config))
    (LimitsFind contents (streams_of contents config)))
