-- What the check of a certificate finds: the first fault of the first step that fails, with the
-- entry that it is of. Each step says what it asks, and which fault is found where that fails; it is
-- asked only where the steps before it have found nothing.
use Rattle.std.specs.Prelude.{◌≡◌, ◌≢◌, ℕ, pos, ◌≤◌, IsTrue, List, Option, Some, None, slice_get}
use Rattle.std.specs.List.{AllZip}
use Rattle.std.specs.Option.{option_cmp}
use Rattle.std.specs.Ordering.{nat_cmp, ordering_then}
use Rattle.std.specs.declared.cmp.Ordering.{Ordering}
use Rattle.std.specs.declared.cmp.Ordering.TheVariants.{Less, Greater}
use Rattle.metric_glob.specs.Reasons.{Confirms}
use Rattle.metric_glob.specs.declared.reason.Reason.TheVariants.{Takes, Rows}
use Rattle.metric_contents.specs.declared.contents.Contents.{Contents}
use Rattle.metric_contents.specs.declared.contents.Instrument.{Instrument}
use Rattle.metric_contents.specs.declared.contents.Meter.{Meter}
use Rattle.metric_views.specs.declared.config.Config.{Config}
use Rattle.metric_views.specs.declared.config.Criteria.{Criteria}
use Rattle.metric_views.specs.declared.config.View.{View}
use Rattle.metric_views.specs.declared.stream.Stream.{Stream}
use Rattle.metric_resolve.specs.Applying.{all_instruments, all_readers, meter_at}
use Rattle.metric_resolve.specs.Resolved.{streams_of}
use Rattle.metric_bounds.specs.Amounts.{amount_with, high_with, low_with, total_of}
use Rattle.metric_bounds.specs.First.{Asks, Then}
use Rattle.metric_bounds.specs.Safe.{AmountsFit, CountsFit, HighFits, LowFits}
use Rattle.metric_bounds.specs.Sums.{is_summed}
use Rattle.metric_cert.specs.declared.bound.InstrumentBound.{InstrumentBound}
use Rattle.metric_cert.specs.declared.claims.Claims.{Claims}
use Rattle.metric_cert.specs.declared.order.ReaderOrder.{ReaderOrder}
use Rattle.metric_cert.specs.declared.reason.Criterion.{Criterion}
use Rattle.metric_cert.specs.declared.reason.Evidence.{Evidence}
use Rattle.metric_cert.specs.declared.reason.Evidence.TheVariants.{Name, Miss}
use Rattle.metric_cert.specs.declared.reason.SelectionReason.{SelectionReason}
use Rattle.metric_cert.specs.declared.stream.StreamSets.{StreamSets}
use Rattle.metric_cert.specs.Valid.{Holds, IsListed, IsOrderOf, all_pairs, bound_by, pattern_for}
use Rattle.metric_plan.specs.declared.fault.CheckFault.{CheckFault}
use Rattle.metric_plan.specs.declared.fault.CheckFault.TheVariants.{
  PairMissing,
  BadTakes,
  BadRows,
  BadMiss,
  StreamMissing,
  StreamStrange,
  BadOrder,
  BadSets,
  LimitExceeded,
  SumLow,
  SumHigh,
  CountRange,
  AmountRange,
}
use Rattle.metric_check.specs.declared.fault.ClaimFault.{ClaimFault}
use Rattle.metric_check.specs.declared.fault.ClaimPlace.TheVariants as place
use Rattle.metric_check.specs.Paired.{EachPaired}

-- Places

-- a fault of the reason of a number
abbrev pub of_reason : ℕ → CheckFault → ClaimFault
of_reason number fault = record { fault = fault; place = place.Reason number }

-- a fault of the stream of a number
abbrev pub of_stream : ℕ → CheckFault → ClaimFault
of_stream number fault = record { fault = fault; place = place.Stream number }

-- a fault of the orders
abbrev pub of_orders : CheckFault → ClaimFault
of_orders fault = record { fault = fault; place = place.Orders }

-- a fault of the bound of a number
abbrev pub of_bound : ℕ → CheckFault → ClaimFault
of_bound number fault = record { fault = fault; place = place.Bound number }

-- a fault of no entry
abbrev pub of_none : CheckFault → ClaimFault
of_none fault = record { fault = fault; place = place.Nowhere }

-- Reasons

-- The reason is of this pair of a view and an instrument.
abbrev pub IsOfPair : ℕ × ℕ → SelectionReason → Type 0
IsOfPair pair reason = (reason.view ≡ pair.0) × (reason.instrument ≡ pair.1)

-- Each criterion beside the name holds, or is not given.
abbrev pub AllHold : Criteria → Meter → Instrument → Type 0
AllHold criteria meter instrument =
    (criterion : Criterion) → Holds criterion criteria meter instrument

-- takes that spell the name, then all other criteria; rows that shut the name out;
-- or a given criterion that fails
abbrev pub EvidenceFinds : Evidence → Criteria → Meter → Instrument → Option CheckFault → Type 0
EvidenceFinds (Name (Takes takes)) criteria meter instrument =
    Then (Asks (Confirms (pattern_for criteria) instrument.name (Takes takes)) BadTakes)
    (Asks (AllHold criteria meter instrument) BadMiss)
EvidenceFinds (Name (Rows rows)) criteria meter instrument =
    Asks (Confirms (pattern_for criteria) instrument.name (Rows rows)) BadRows
EvidenceFinds (Miss criterion) criteria meter instrument =
    Asks (¬ Holds criterion criteria meter instrument) BadMiss

-- the same where there are such a view, meter and instrument
abbrev pub EvidenceFindsAt : Evidence → Option View → Option Meter → Option Instrument
    → Option CheckFault → Type 0
EvidenceFindsAt evidence (Some view) (Some meter) (Some instrument) =
    EvidenceFinds evidence view.criteria meter instrument
EvidenceFindsAt evidence _ _ _ = Asks ⊥ PairMissing

-- of the pair that is due, and true
abbrev pub ReasonFinds : Contents → Config → ℕ × ℕ → SelectionReason → Option CheckFault → Type 0
ReasonFinds contents config pair reason =
    Then (Asks (IsOfPair pair reason) PairMissing)
    (EvidenceFindsAt reason.evidence (slice_get config.views reason.view)
    (meter_at contents reason.instrument) (slice_get contents.instruments reason.instrument))

-- a reason for each pair, by view, then instrument
abbrev pub ReasonsFind : Contents → Config → List SelectionReason → Option ClaimFault → Type 0
ReasonsFind contents config reasons =
    EachPaired of_reason (ReasonFinds contents config) PairMissing PairMissing 0
    (all_pairs contents config) reasons

-- Streams

-- how an entry and a stream stand: by reader, instrument and view, of which the default is the
-- first
abbrev pub entry_order : StreamSets → Stream → Ordering
entry_order entry stream =
    ordering_then (nat_cmp entry.reader stream.reader)
    (ordering_then (nat_cmp entry.instrument stream.instrument)
    (option_cmp nat_cmp entry.view stream.view))

-- an entry that comes before the stream that is due is of none; where it comes after
-- that, the stream's own is missing
abbrev pub EntryFinds : Stream → StreamSets → Option CheckFault → Type 0
EntryFinds stream entry =
    Then (Asks (entry_order entry stream ≢ Less) StreamStrange)
    (Asks (entry_order entry stream ≢ Greater) StreamMissing)

-- an entry for each stream, in order
abbrev pub EntriesFind : List Stream → List StreamSets → Option ClaimFault → Type 0
EntriesFind streams entries =
    EachPaired of_stream EntryFinds StreamMissing StreamStrange 0 streams entries

-- Orders

-- an order for each reader
abbrev pub OrdersFind : Contents → Config → List Stream → List ReaderOrder
    → Option ClaimFault → Type 0
OrdersFind contents config streams orders =
    Asks (AllZip (IsOrderOf contents streams) (all_readers config) orders) (of_orders BadOrder)

-- Bounds

-- The bound is in its place, with the sum of the budgets and the spare, which is a u64.
abbrev pub IsCountOf : ℕ → ℕ → InstrumentBound → Type 0
IsCountOf number total bound = (bound.instrument ≡ number) × (bound.total ≡ total) × CountsFit total

-- The bound has how far apart sums may be, which is a u64.
abbrev pub IsAmountOf : ℕ → Instrument → InstrumentBound → Type 0
IsAmountOf total instrument bound =
    (pos bound.amount ≡ amount_with total instrument.lo instrument.hi) × AmountsFit total instrument

-- The bound has the least sum, which is an i64 where a stream keeps a sum.
abbrev pub IsLowOf : ℕ → Instrument → Type 0 → InstrumentBound → Type 0
IsLowOf total instrument Summed bound =
    (bound.low ≡ low_with total instrument.lo) × (Summed → LowFits total instrument)

-- The bound has the greatest sum, which is an i64 where a stream keeps a sum.
abbrev pub IsHighOf : ℕ → Instrument → Type 0 → InstrumentBound → Type 0
IsHighOf total instrument Summed bound =
    (bound.high ≡ high_with total instrument.hi) × (Summed → HighFits total instrument)

abbrev pub NumbersFind : ℕ → ℕ → Instrument → Type 0 → InstrumentBound → Option CheckFault → Type 0
NumbersFind number total instrument Summed bound =
    Then (Asks (IsCountOf number total bound) CountRange)
    (Then (Asks (IsAmountOf total instrument bound) AmountRange)
    (Then (Asks (IsLowOf total instrument Summed bound) SumLow)
    (Asks (IsHighOf total instrument Summed bound) SumHigh)))

abbrev pub NumbersFindAt : Contents → List Stream → ℕ → Option Instrument → InstrumentBound
    → Option CheckFault → Type 0
NumbersFindAt contents streams number (Some instrument) bound =
    NumbersFind number (total_of contents number) instrument
    (IsTrue (is_summed streams number)) bound
NumbersFindAt contents streams number None bound = Asks ⊥ CountRange

-- the bound of the instrument of a number
abbrev pub BoundFinds : Contents → List Stream → ℕ → InstrumentBound → Option CheckFault → Type 0
BoundFinds contents streams number bound =
    NumbersFindAt contents streams number (slice_get contents.instruments number) bound

-- a bound for each instrument, in order
abbrev pub BoundsFind : Contents → List Stream → List InstrumentBound → Option ClaimFault → Type 0
BoundsFind contents streams bounds =
    EachPaired of_bound (BoundFinds contents streams) CountRange CountRange 0
    (all_instruments contents) bounds

-- Sets

-- The entry has the number that it names, and the list of the stream where it is by list.
abbrev pub HasBound : Contents → Stream → StreamSets → Type 0
HasBound contents stream entry =
    IsListed contents stream entry.by × (entry.sets ≡ bound_by contents stream entry.by)

-- the number that the entry names, within the limit of its stream
abbrev pub LimitFinds : Contents → Stream → StreamSets → Option CheckFault → Type 0
LimitFinds contents stream entry =
    Then (Asks (HasBound contents stream entry) BadSets)
    (Asks (entry.sets ≤ stream.limit) LimitExceeded)

abbrev pub SetsFind : Contents → List Stream → List StreamSets → Option ClaimFault → Type 0
SetsFind contents streams entries =
    EachPaired of_stream (LimitFinds contents) BadSets BadSets 0 streams entries

-- All steps

-- what the steps after the reasons find, where these are the streams
abbrev pub StreamsFind : Contents → Config → Claims → List Stream → Option ClaimFault → Type 0
StreamsFind contents config certificate streams =
    Then (EntriesFind streams certificate.streams)
    (Then (OrdersFind contents config streams certificate.orders)
    (Then (BoundsFind contents streams certificate.bounds)
    (SetsFind contents streams certificate.streams)))

-- # what the check finds (profile) [CheckFinds, of_reason, of_stream, of_orders, of_bound]
-- The first fault of reasons, streams, orders, bounds and sets, each asked only where those before
-- it found nothing. It is told with the entry that it is of: the first of its list that is wrong,
-- or the number at which one is due and missing, or at which there are more.
abbrev pub CheckFinds : Contents → Config → Claims → Option ClaimFault → Type 0
CheckFinds contents config certificate =
    Then (ReasonsFind contents config certificate.reasons)
    (StreamsFind contents config certificate (streams_of contents config))
