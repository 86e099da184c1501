-- How a certificate is made: which evidence, which numbers and which faults the maker chooses.
use Rattle.std.specs.Prelude.{◌≡◌, ◌<◌, ℕ, pos, Bool, length, if◌then◌else◌, List}
use Rattle.std.specs.Prelude.{◌++◌, map, nat_le, Option, Some, None, slice_get, unwrap_or}
use Rattle.std.specs.List.{AllZip}
use Rattle.metric_glob.specs.Reasons.{Confirms}
use Rattle.metric_glob.specs.declared.reason.Reason.{Reason}
use Rattle.metric_contents.specs.declared.contents.Contents.{Contents}
use Rattle.metric_contents.specs.declared.contents.Instrument.{Instrument}
use Rattle.metric_contents.specs.declared.contents.Meter.{Meter}
use Rattle.metric_views.specs.declared.config.Config.{Config}
use Rattle.metric_views.specs.declared.config.Criteria.{Criteria}
use Rattle.metric_views.specs.declared.config.View.{View}
use Rattle.metric_views.specs.declared.stream.Stream.{Stream}
use Rattle.metric_cert.specs.Criteria.{holds}
use Rattle.metric_resolve.specs.Applying.{all_instruments, all_readers, meter_at}
use Rattle.metric_resolve.specs.Collisions.{Identity, identity_of}
use Rattle.metric_resolve.specs.Resolved.{streams_of}
use Rattle.metric_bounds.specs.Amounts.{amount_with, high_with, low_with, total_of}
use Rattle.metric_bounds.specs.Sets.{FlagsKeys, listed_of, product_of}
use Rattle.metric_cert.specs.Valid.{IsBoundAt, IsOrderOf, all_pairs, pattern_for}
use Rattle.metric_cert.specs.declared.bound.InstrumentBound.{InstrumentBound}
use Rattle.metric_cert.specs.declared.claims.Claims.{Claims}
use Rattle.metric_cert.specs.declared.reason.Criterion.{Criterion}
use Rattle.metric_cert.specs.declared.reason.Criterion.TheVariants.{InstrumentType, InstrumentUnit}
use Rattle.metric_cert.specs.declared.reason.Criterion.TheVariants.{MeterName, MeterVersion}
use Rattle.metric_cert.specs.declared.reason.Criterion.TheVariants.{MeterSchemaUrl}
use Rattle.metric_cert.specs.declared.reason.Evidence.{Evidence}
use Rattle.metric_cert.specs.declared.reason.Evidence.TheVariants.{Name, Miss}
use Rattle.metric_cert.specs.declared.reason.SelectionReason.{SelectionReason}
use Rattle.metric_cert.specs.declared.stream.By.{By}
use Rattle.metric_cert.specs.declared.stream.By.TheVariants as by
use Rattle.metric_cert.specs.declared.stream.StreamSets.{StreamSets}

abbrev pub or_else : Bool → Criterion → Option Criterion → Option Criterion
or_else held criterion next = if held then next else Some criterion

-- The bounds of an instrument of this number that may be recorded so often.
pub record HasNumbers (number count : ℕ) (instrument : Instrument) (bound : InstrumentBound)
    : Type 0 where
  pub numbered : bound.instrument ≡ number
  pub total : bound.total ≡ count
  pub amount : pos bound.amount ≡ amount_with count instrument.lo instrument.hi
  pub low : bound.low ≡ low_with count instrument.lo
  pub high : bound.high ≡ high_with count instrument.hi

-- the first criterion that is given and fails
unfoldable pub first_miss : Criteria → Meter → Instrument → Option Criterion
first_miss criteria meter instrument =
    or_else (holds InstrumentType criteria meter instrument) InstrumentType
    (or_else (holds InstrumentUnit criteria meter instrument) InstrumentUnit
    (or_else (holds MeterName criteria meter instrument) MeterName
    (or_else (holds MeterVersion criteria meter instrument) MeterVersion
    (or_else (holds MeterSchemaUrl criteria meter instrument) MeterSchemaUrl None))))

-- a reason that is true of the pattern of a view and the name of an instrument
pub record IsByName (criteria : Criteria) (instrument : Instrument) (evidence : Evidence)
    : Type 0 where
  pub reason : Reason
  pub named : evidence ≡ Name reason
  pub confirmed : Confirms (pattern_for criteria) instrument.name reason

-- The evidence is the criterion that was found to fail, or where there is none, by the name.
abbrev pub IsEvidenceBy : Option Criterion → Criteria → Instrument → Evidence → Type 0
IsEvidenceBy (Some criterion) criteria instrument evidence = evidence ≡ Miss criterion
IsEvidenceBy None criteria instrument evidence = IsByName criteria instrument evidence

-- The evidence is the one that the maker gives.
abbrev pub IsMadeEvidence : Criteria → Meter → Instrument → Evidence → Type 0
IsMadeEvidence criteria meter instrument evidence =
    IsEvidenceBy (first_miss criteria meter instrument) criteria instrument evidence

abbrev pub IsMadeWith : Criteria → Option Meter → Option Instrument → Evidence → Type 0
IsMadeWith criteria (Some meter) (Some instrument) evidence =
    IsMadeEvidence criteria meter instrument evidence
IsMadeWith criteria _ _ evidence = ⊥

-- the same for the instrument of a number
abbrev pub IsEvidenceAt : Contents → Criteria → ℕ → Evidence → Type 0
IsEvidenceAt contents criteria number evidence =
    IsMadeWith criteria (meter_at contents number) (slice_get contents.instruments number) evidence

abbrev pub IsMadeBy : Option View → Contents → ℕ → Evidence → Type 0
IsMadeBy None contents number evidence = ⊥
IsMadeBy (Some view) contents number evidence = IsEvidenceAt contents view.criteria number evidence

-- The reason is the one that the maker gives for this pair.
pub record IsMadeReason (contents : Contents) (config : Config) (pair : ℕ × ℕ)
    (reason : SelectionReason) : Type 0 where
  pub view : reason.view ≡ pair.0
  pub instrument : reason.instrument ≡ pair.1
  pub evidence : IsMadeBy (slice_get config.views pair.0) contents pair.1 reason.evidence

abbrev pub entry_with : Stream → By → ℕ → StreamSets
entry_with stream by sets = record {
  reader = stream.reader;
  instrument = stream.instrument;
  view = stream.view;
  by = by;
  sets = sets;
}

-- The reason is the one for a view of this number and the instrument of that number.
pub record IsReasonFor (contents : Contents) (number : ℕ) (view : View) (instrument : ℕ)
    (reason : SelectionReason) : Type 0 where
  pub of_view : reason.view ≡ number
  pub of_instrument : reason.instrument ≡ instrument
  pub evidence : IsEvidenceAt contents view.criteria instrument reason.evidence

-- The reasons of a view for all instruments stand after others.
pub record AddsReasons (contents : Contents) (number : ℕ) (view : View)
    (before after : List SelectionReason) : Type 0 where
  pub added : List SelectionReason
  pub is : after ≡ before ++ added
  pub each : AllZip (IsReasonFor contents number view) (all_instruments contents) added

-- a stream by its list, where there is one within its limit
abbrev pub entry_by_list : Stream → Option (List (List ℕ)) → Option StreamSets
entry_by_list stream None = None
entry_by_list stream (Some list) =
    if nat_le (length list) stream.limit
    then Some (entry_with stream (by.List list) (length list)) else None

-- a stream whose product is past its limit: by its list, or else by the budgets
abbrev pub entry_past : Contents → Stream → StreamSets
entry_past contents stream =
    unwrap_or (entry_by_list stream (listed_of contents stream))
    (entry_with stream by.Budget (total_of contents stream.instrument))

-- a stream with what bounds its series: the product where that is within its limit,
-- then the list, then the budgets
abbrev pub entry_of : Contents → Stream → StreamSets
entry_of contents stream =
    if nat_le (product_of contents stream) stream.limit
    then entry_with stream by.Product (product_of contents stream) else entry_past contents stream

-- what the maker gives for these streams
pub record IsMadeFor (contents : Contents) (config : Config) (streams : List Stream)
    (certificate : Claims) : Type 0 where
  pub format : certificate.format ≡ contents.format
  pub reasons : AllZip (IsMadeReason contents config)
      (all_pairs contents config) certificate.reasons
  pub entries : certificate.streams ≡ map (entry_of contents) streams
  pub bounds : AllZip (IsBoundAt contents streams) (all_instruments contents) certificate.bounds
  pub orders : AllZip (IsOrderOf contents streams) (all_readers config) certificate.orders

-- # what the maker gives (SDK, instrument selection criteria; profile)
-- The first criterion that is given and fails, else a confirmed reason by the name; by product
-- where that is within the limit, else by list where there is one within it, else by budget; the
-- catalogue's format.
abbrev pub IsMade : Contents → Config → Claims → Type 0
IsMade contents config = IsMadeFor contents config (streams_of contents config)

-- The stream has an identity, since its instrument is one of the catalogue's, and says of each
-- of its keys whether it is kept.
pub record IsNamed (contents : Contents) (stream : Stream) : Type 0 where
  pub known : stream.instrument < length contents.instruments
  pub flags : FlagsKeys contents stream
  pub own : Identity
  pub is : identity_of contents stream ≡ Some own
