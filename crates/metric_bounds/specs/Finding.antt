-- Which part of safety fails first, where one does. The parts are asked in this order: no two
-- streams have one identity; then of each instrument its counts, the amount of its values, its
-- least and its greatest sum; then of each stream how many series it can have.
use Rattle.std.specs.Prelude.{◌≡◌, ℕ, IsTrue, List, Option, Some, None, slice_get}
use Rattle.metric_contents.specs.declared.contents.Contents.{Contents}
use Rattle.metric_contents.specs.declared.contents.Instrument.{Instrument}
use Rattle.metric_views.specs.declared.stream.Stream.{Stream}
use Rattle.metric_resolve.specs.Applying.{all_instruments}
use Rattle.metric_bounds.specs.Amounts.{total_of}
use Rattle.metric_bounds.specs.First.{Asks, Each, Then}
use Rattle.metric_bounds.specs.Safe.{AmountsFit, AreDistinct, CountsFit, HighFits, LowFits, SetsFit}
use Rattle.metric_bounds.specs.Sums.{is_summed}

-- the faults that name the parts
pub record SafetyFaults (F : Type 0) : Type 0 where
  pub collision : F
  pub limit_exceeded : F
  pub sum_low : F
  pub sum_high : F
  pub count_range : F
  pub amount_range : F

-- what is found at an instrument of so many recordings, of which a stream keeps a sum or none does
abbrev pub InstrumentFinds : {F : Type 0} → SafetyFaults F → ℕ → Type 0 → Instrument
    → Option F → Type 0
InstrumentFinds faults total summed instrument =
    Then (Asks (CountsFit total) faults.count_range)
    (Then (Asks (AmountsFit total instrument) faults.amount_range)
    (Then (Asks (summed → LowFits total instrument) faults.sum_low)
    (Asks (summed → HighFits total instrument) faults.sum_high)))

abbrev pub WhereThere : {F : Type 0} → (Instrument → Option F → Type 0) → Option Instrument
    → Option F → Type 0
WhereThere Finds None found = found ≡ None
WhereThere Finds (Some instrument) found = Finds instrument found

-- the same at the instrument of a number
abbrev pub NumberFinds : {F : Type 0} → SafetyFaults F → Contents → List Stream → ℕ
    → Option F → Type 0
NumberFinds faults contents streams number =
    WhereThere
    (InstrumentFinds faults (total_of contents number) (IsTrue (is_summed streams number)))
    (slice_get contents.instruments number)

-- what is found at all instruments
abbrev pub InstrumentsFind : {F : Type 0} → SafetyFaults F → Contents → List Stream
    → Option F → Type 0
InstrumentsFind faults contents streams =
    Each (NumberFinds faults contents streams) (all_instruments contents)

-- what is found at all streams
abbrev pub LimitsFind : {F : Type 0} → SafetyFaults F → Contents → List Stream → Option F → Type 0
LimitsFind faults contents streams =
    Each (λ stream. Asks (SetsFit contents stream) faults.limit_exceeded) streams

-- # first part of safety that fails (SDK, cardinality limits; data model, identity)
-- Identities; then of each instrument its counts, amount, least and greatest sum; then of each
-- stream its series.
abbrev pub SafetyFinds : {F : Type 0} → SafetyFaults F → Contents → List Stream → Option F → Type 0
SafetyFinds faults contents streams =
    Then (Asks (AreDistinct contents streams) faults.collision)
    (Then (InstrumentsFind faults contents streams) (LimitsFind faults contents streams))
