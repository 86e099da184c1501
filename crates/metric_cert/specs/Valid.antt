-- When a certificate shows that a catalogue and a config are safe. It is said of the certificate
-- alone, apart from how one is made or checked.
use Rattle.std.specs.Prelude.{◌≡◌, ℕ, pos, ◌≤◌, IsTrue, All, AllPairs, Contains, IfSome, IsSomeAnd}
use Rattle.std.specs.Prelude.{List, [], ◌∷◌, map, Option, Some, unwrap_or}
use Rattle.std.specs.Prelude.{slice_get}
use Rattle.std.specs.List.{AllZip, flat_map}
use Rattle.std.specs.declared.cmp.Ordering.TheVariants.{Less}
use Rattle.metric_glob.specs.Reasons.{Confirms}
use Rattle.metric_glob.specs.Matching.{any_text}
use Rattle.metric_contents.specs.declared.contents.Contents.{Contents}
use Rattle.metric_contents.specs.declared.contents.Instrument.{Instrument}
use Rattle.metric_contents.specs.declared.contents.Meter.{Meter}
use Rattle.metric_views.specs.declared.config.Config.{Config}
use Rattle.metric_views.specs.declared.config.Criteria.{Criteria}
use Rattle.metric_views.specs.declared.config.View.{View}
use Rattle.metric_views.specs.declared.stream.Stream.{Stream}
use Rattle.metric_resolve.specs.Applying.{all_instruments, all_readers, all_views, meter_at}
use Rattle.metric_resolve.specs.Collisions.{Identity}
use Rattle.metric_resolve.specs.Identities.{identity_order}
use Rattle.metric_resolve.specs.Laws.{identity_at}
use Rattle.metric_resolve.specs.Resolved.{streams_of}
use Rattle.metric_bounds.specs.Amounts.{amount_with, high_with, low_with, total_of}
use Rattle.metric_bounds.specs.Safe.{IsSafeInstrument}
use Rattle.metric_bounds.specs.Sets.{listed_of, product_of, sets_of}
use Rattle.metric_bounds.specs.Sums.{is_summed}
use Rattle.metric_glob.specs.declared.reason.Reason.TheVariants.{Takes, Rows}
use Rattle.metric_cert.specs.declared.bound.InstrumentBound.{InstrumentBound}
use Rattle.metric_cert.specs.declared.claims.Claims.{Claims}
use Rattle.metric_cert.specs.declared.order.ReaderOrder.{ReaderOrder}
use Rattle.metric_cert.specs.declared.reason.Criterion.{Criterion}
use Rattle.metric_cert.specs.declared.reason.Criterion.TheVariants.{InstrumentType, InstrumentUnit}
use Rattle.metric_cert.specs.declared.reason.Criterion.TheVariants.{MeterName, MeterVersion}
use Rattle.metric_cert.specs.declared.reason.Criterion.TheVariants.{MeterSchemaUrl}
use Rattle.metric_cert.specs.declared.reason.Evidence.{Evidence}
use Rattle.metric_cert.specs.declared.reason.Evidence.TheVariants.{Name, Miss}
use Rattle.metric_cert.specs.declared.reason.SelectionReason.{SelectionReason}
use Rattle.metric_cert.specs.declared.stream.By.{By}
use Rattle.metric_cert.specs.declared.stream.By.TheVariants as by
use Rattle.metric_cert.specs.declared.stream.StreamSets.{StreamSets}

-- Reasons

-- the pattern of names that a view gives, or `*` where it gives none
abbrev pub pattern_for : Criteria → List ℕ
pattern_for criteria = unwrap_or criteria.instrument_name (any_text ∷ [])

-- The criterion holds, or is not given.
abbrev pub Holds : Criterion → Criteria → Meter → Instrument → Type 0
Holds InstrumentType criteria meter instrument =
    IfSome criteria.instrument_type (λ kind. kind ≡ instrument.kind)
Holds InstrumentUnit criteria meter instrument =
    IfSome criteria.instrument_unit (λ unit. unit ≡ instrument.unit)
Holds MeterName criteria meter instrument = IfSome criteria.meter_name (λ name. name ≡ meter.name)
Holds MeterVersion criteria meter instrument =
    IfSome criteria.meter_version (λ version. version ≡ meter.version)
Holds MeterSchemaUrl criteria meter instrument =
    IfSome criteria.meter_schema_url (λ url. url ≡ meter.schema_url)

-- The evidence is true of a view's criteria and an instrument of a meter: takes that spell the name
-- while all other criteria hold, rows that shut it out, or a given criterion that fails.
abbrev pub IsTrueEvidence : Evidence → Criteria → Meter → Instrument → Type 0
IsTrueEvidence (Name (Takes takes)) criteria meter instrument =
    Confirms (pattern_for criteria) instrument.name (Takes takes)
    × ((criterion : Criterion) → Holds criterion criteria meter instrument)
IsTrueEvidence (Name (Rows rows)) criteria meter instrument =
    Confirms (pattern_for criteria) instrument.name (Rows rows)
IsTrueEvidence (Miss criterion) criteria meter instrument =
    ¬ Holds criterion criteria meter instrument

abbrev pub IsTrueOf : Evidence → Option View → Option Meter → Option Instrument → Type 0
IsTrueOf evidence (Some view) (Some meter) (Some instrument) =
    IsTrueEvidence evidence view.criteria meter instrument
IsTrueOf evidence _ _ _ = ⊥

-- all pairs of view and instrument, by view, then instrument
abbrev pub all_pairs : Contents → Config → List (ℕ × ℕ)
all_pairs contents config =
    flat_map (λ view. map (λ instrument. (view, instrument)) (all_instruments contents))
    (all_views config)

-- The reason is of this pair, and true.
pub record IsReasonOf (contents : Contents) (config : Config) (pair : ℕ × ℕ)
    (reason : SelectionReason) : Type 0 where
  pub view : reason.view ≡ pair.0
  pub instrument : reason.instrument ≡ pair.1
  pub evidence : IsTrueOf reason.evidence (slice_get config.views reason.view)
      (meter_at contents reason.instrument) (slice_get contents.instruments reason.instrument)

-- Streams

-- the number that bounds how many series a stream can have
abbrev pub bound_by : Contents → Stream → By → ℕ
bound_by contents stream by.Product = product_of contents stream
bound_by contents stream (by.List list) = sets_of contents stream
bound_by contents stream by.Budget = total_of contents stream.instrument

-- A list is that of the sets of the kept keys that the allowed combinations
-- of the stream's instrument leave.
abbrev pub IsListed : Contents → Stream → By → Type 0
IsListed contents stream by.Product = Unit {0}
IsListed contents stream (by.List list) = listed_of contents stream ≡ Some list
IsListed contents stream by.Budget = Unit {0}

-- The entry is of this stream, its list is the stream's where it has one, and its number is the one
-- that it names, and within the limit.
pub record IsEntryOf (contents : Contents) (stream : Stream) (entry : StreamSets) : Type 0 where
  pub reader : entry.reader ≡ stream.reader
  pub instrument : entry.instrument ≡ stream.instrument
  pub view : entry.view ≡ stream.view
  pub listed : IsListed contents stream entry.by
  pub sets : entry.sets ≡ bound_by contents stream entry.by
  pub limited : entry.sets ≤ stream.limit

-- Bounds

-- The bounds are those of the instrument of a number, and it is safe.
pub record IsBoundOf (contents : Contents) (streams : List Stream) (number : ℕ)
    (instrument : Instrument) (bound : InstrumentBound) : Type 0 where
  pub numbered : bound.instrument ≡ number
  pub total : bound.total ≡ total_of contents number
  pub amount : pos bound.amount ≡ amount_with (total_of contents number) instrument.lo instrument.hi
  pub low : bound.low ≡ low_with (total_of contents number) instrument.lo
  pub high : bound.high ≡ high_with (total_of contents number) instrument.hi
  pub safe : IsSafeInstrument (total_of contents number) instrument
      (IsTrue (is_summed streams number))

abbrev pub IsBoundAt : Contents → List Stream → ℕ → InstrumentBound → Type 0
IsBoundAt contents streams number bound =
    IsSomeAnd (slice_get contents.instruments number)
    (λ instrument. IsBoundOf contents streams number instrument bound)

-- Orders

-- Both are there, and the first is below the second: of one reader, by meter name, version, schema
-- URL, then name without ASCII case.
abbrev pub IsBelow : Option Identity → Option Identity → Type 0
IsBelow (Some x) (Some y) = identity_order x y ≡ Less
IsBelow _ _ = ⊥

-- The number is that of a stream of the reader.
abbrev pub IsStreamOf : List Stream → ℕ → ℕ → Type 0
IsStreamOf streams reader number =
    IsSomeAnd (slice_get streams number) (λ stream. stream.reader ≡ reader)

-- The order names the streams of a reader, all of them and no others, so that
-- their identities rise strictly.
pub record IsOrderOf (contents : Contents) (streams : List Stream) (reader : ℕ)
    (order : ReaderOrder) : Type 0 where
  pub numbered : order.reader ≡ reader
  pub own : All (IsStreamOf streams reader) order.streams
  pub all : (number : ℕ) → IsStreamOf streams reader number → Contains order.streams number
  pub rising : AllPairs (λ a b. IsBelow (identity_at contents streams a)
      (identity_at contents streams b)) order.streams

-- # valid certificate (profile)
-- One true reason for each pair of view and instrument, the streams of the definition, an order for
-- each reader that rises by identity, a bound for each instrument, each number true and in range,
-- and each list that of its stream.
pub record IsValid (contents : Contents) (config : Config) (certificate : Claims) : Type 0 where
  pub reasons : AllZip (IsReasonOf contents config) (all_pairs contents config) certificate.reasons
  pub streams : AllZip (IsEntryOf contents) (streams_of contents config) certificate.streams
  pub bounds : AllZip (IsBoundAt contents (streams_of contents config))
      (all_instruments contents) certificate.bounds
  pub orders : AllZip (IsOrderOf contents (streams_of contents config))
      (all_readers config) certificate.orders
