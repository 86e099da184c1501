-- What the maker gives for what is safe is valid.
use Rattle.std.proofs.Common.{◌≡◌, ◌≢◌, ℕ, Bool, true, false, List, Option, Some, None, Result, Ok, Err, inr, refl, sym, subst, ◌∙◌}
use Rattle.std.specs.List.{AllZip}
use Rattle.std.specs.Prelude.{IfOk, IsOkUnless, slice_get}
use Rattle.std.proofs.lemmas.List.Elements.{All-weaker}
use Rattle.metric_glob.specs.Reasons.{Confirms}
use Rattle.metric_glob.specs.declared.reason.Reason.{Reason}
use Rattle.metric_glob.specs.declared.reason.Reason.TheVariants.{Takes, Rows}
use Rattle.metric_contents.specs.declared.contents.Contents.{Contents}
use Rattle.metric_contents.specs.declared.contents.Instrument.{Instrument}
use Rattle.metric_contents.specs.declared.contents.Meter.{Meter}
use Rattle.metric_views.specs.declared.config.Config.{Config}
use Rattle.metric_views.specs.declared.config.Criteria.{Criteria}
use Rattle.metric_views.specs.declared.config.View.{View}
use Rattle.metric_views.specs.declared.stream.Stream.{Stream}
use Rattle.metric_resolve.specs.Applying.{meter_at}
use Rattle.metric_resolve.specs.Resolved.{streams_of}
use Rattle.metric_bounds.specs.FindingLaws.{SafetyFinds-IsSingle, none_from_safe, safe_from_none}
use Rattle.metric_bounds.specs.First.{Reports, Then}
use Rattle.metric_bounds.specs.Safe.{AreDistinct, IsSafe, SetsFit}
use Rattle.metric_cert.specs.declared.claims.Claims.{Claims}
use Rattle.metric_make.specs.declared.fault.MakeFault.{MakeFault}
use Rattle.metric_make.specs.declared.fault.MakeFault.TheVariants.{Collision, LimitExceeded, SumLow, SumHigh, CountRange, AmountRange, Memory}
use Rattle.metric_cert.specs.declared.reason.Criterion.{Criterion}
use Rattle.metric_cert.specs.declared.reason.Criterion.TheVariants.{InstrumentType, InstrumentUnit, MeterName, MeterVersion, MeterSchemaUrl}
use Rattle.metric_cert.specs.declared.reason.Evidence.{Evidence}
use Rattle.metric_cert.specs.declared.reason.Evidence.TheVariants.{Name}
use Rattle.metric_cert.specs.declared.reason.SelectionReason.{SelectionReason}
use Rattle.metric_cert.specs.declared.stream.StreamSets.{StreamSets}
use Rattle.metric_make.specs.Finding.{InstrumentsFind, LimitsFind, UnsafeFinds}
use Rattle.metric_make.specs.Making.{IsEvidenceBy, IsMade, IsMadeBy, IsMadeEvidence, IsMadeFor, IsMadeReason, IsMadeWith, entry_of, first_miss, or_else}
use Rattle.metric_cert.specs.Criteria.{holds}
use Rattle.metric_cert.specs.Valid.{Holds, IsEntryOf, IsReasonOf, IsTrueEvidence, IsTrueOf, IsValid, all_pairs, pattern_for}
use Rattle.metric_make.proofs.Entries.{true_entry}
use Rattle.metric_make.proofs.Forgotten.{forgotten, same_faults}
use Rattle.metric_cert.specs.CriteriaLaws.{holds-Decides}
use Rattle.metric_make.proofs.Pairs.{AllZip-mapped, AllZip-weaker}

-- the first criterion that fails
missed : {P : Type 0} (held : Bool) (criterion : Criterion) (next : Option Criterion) (c : Criterion) → or_else held criterion next ≡ Some c
    → (held ≡ false → criterion ≡ c → P) → (next ≡ Some c → P) → P
missed true criterion next c e here later = later e
missed false criterion next c e here later = let same : criterion ≡ c = cc in here refl same

none_missed : (held : Bool) (criterion : Criterion) (next : Option Criterion) → or_else held criterion next ≡ None → (held ≡ true) × (next ≡ None)
none_missed true criterion next e = (refl, e)
none_missed false criterion next e = absurd cc

first_fails : (criteria : Criteria) (meter : Meter) (instrument : Instrument) (c : Criterion) → first_miss criteria meter instrument ≡ Some c → holds c criteria meter instrument ≡ false
unfolding first_miss
first_fails criteria meter instrument c e =
    let fails = λ (d : Criterion) (f : holds d criteria meter instrument ≡ false) (same : d ≡ c). subst (λ (x : Criterion). holds x criteria meter instrument ≡ false) same f in
    missed _ InstrumentType _ c e (fails InstrumentType)
    (λ e. missed _ InstrumentUnit _ c e (fails InstrumentUnit)
    (λ e. missed _ MeterName _ c e (fails MeterName)
    (λ e. missed _ MeterVersion _ c e (fails MeterVersion)
    (λ e. missed _ MeterSchemaUrl _ c e (fails MeterSchemaUrl) (λ e. absurd cc)))))

all_hold : (criteria : Criteria) (meter : Meter) (instrument : Instrument) → first_miss criteria meter instrument ≡ None → (criterion : Criterion) → Holds criterion criteria meter instrument
unfolding first_miss
all_hold criteria meter instrument e criterion =
    let one = none_missed _ InstrumentType _ e in
    let two = none_missed _ InstrumentUnit _ one.1 in
    let three = none_missed _ MeterName _ two.1 in
    let four = none_missed _ MeterVersion _ three.1 in
    let five = none_missed _ MeterSchemaUrl _ four.1 in
    by criterion one.0 two.0 three.0 four.0 five.0
  where
    by : (criterion : Criterion) → holds InstrumentType criteria meter instrument ≡ true → holds InstrumentUnit criteria meter instrument ≡ true
        → holds MeterName criteria meter instrument ≡ true → holds MeterVersion criteria meter instrument ≡ true → holds MeterSchemaUrl criteria meter instrument ≡ true
        → Holds criterion criteria meter instrument
    by InstrumentType a b c d f = (holds-Decides InstrumentType criteria meter instrument).0 a
    by InstrumentUnit a b c d f = (holds-Decides InstrumentUnit criteria meter instrument).0 b
    by MeterName a b c d f = (holds-Decides MeterName criteria meter instrument).0 c
    by MeterVersion a b c d f = (holds-Decides MeterVersion criteria meter instrument).0 d
    by MeterSchemaUrl a b c d f = (holds-Decides MeterSchemaUrl criteria meter instrument).0 f

-- the evidence of the maker is true
true_evidence : (criteria : Criteria) (meter : Meter) (instrument : Instrument) (evidence : Evidence) → IsMadeEvidence criteria meter instrument evidence
    → IsTrueEvidence evidence criteria meter instrument
true_evidence criteria meter instrument evidence made = by (first_miss criteria meter instrument) refl made
  where
    named : (reason : Reason) → Confirms (pattern_for criteria) instrument.name reason → ((criterion : Criterion) → Holds criterion criteria meter instrument)
        → IsTrueEvidence (Name reason) criteria meter instrument
    named (Takes takes) confirmed held = (confirmed, held)
    named (Rows rows) confirmed held = confirmed

    by : (o : Option Criterion) → first_miss criteria meter instrument ≡ o → IsEvidenceBy o criteria instrument evidence → IsTrueEvidence evidence criteria meter instrument
    by (Some c) e is =
        subst (λ (v : Evidence). IsTrueEvidence v criteria meter instrument) (sym is)
        (λ held. contrary (sym ((holds-Decides c criteria meter instrument).1 held) ∙ first_fails criteria meter instrument c e))
      where
        contrary : true ≡ false → ⊥
        contrary e = cc
    by None e own =
        subst (λ (v : Evidence). IsTrueEvidence v criteria meter instrument) (sym own.named) (named own.reason own.confirmed (all_hold criteria meter instrument e))

true_of : (evidence : Evidence) (v : Option View) (contents : Contents) (number : ℕ) → IsMadeBy v contents number evidence
    → IsTrueOf evidence v (meter_at contents number) (slice_get contents.instruments number)
true_of evidence None contents number made = absurd made
true_of evidence (Some view) contents number made = by (meter_at contents number) (slice_get contents.instruments number) made
  where
    by : (m : Option Meter) (i : Option Instrument) → IsMadeWith view.criteria m i evidence → IsTrueOf evidence (Some view) m i
    by (Some m) (Some i) made = true_evidence view.criteria m i evidence made
    by (Some m) None made = absurd made
    by None i made = absurd made

true_reason : (contents : Contents) (config : Config) (pair : ℕ × ℕ) (reason : SelectionReason) → IsMadeReason contents config pair reason → IsReasonOf contents config pair reason
true_reason contents config pair reason made = record {
  view = made.view;
  instrument = made.instrument;
  evidence =
      subst (λ (v : ℕ). IsTrueOf reason.evidence (slice_get config.views v) (meter_at contents reason.instrument) (slice_get contents.instruments reason.instrument)) (sym made.view)
      (subst (λ (i : ℕ). IsTrueOf reason.evidence (slice_get config.views pair.0) (meter_at contents i) (slice_get contents.instruments i)) (sym made.instrument)
      (true_of reason.evidence (slice_get config.views pair.0) contents pair.1 made.evidence));
}

pub valid_of : (contents : Contents) (config : Config) (certificate : Claims) → IsSafe contents config → IsMade contents config certificate → IsValid contents config certificate
valid_of contents config certificate safe made = record {
  reasons = AllZip-weaker (IsMadeReason contents config) (IsReasonOf contents config) (true_reason contents config) (all_pairs contents config) certificate.reasons made.reasons;
  streams =
      subst (λ (es : List StreamSets). AllZip (IsEntryOf contents) (streams_of contents config) es) (sym made.entries)
      (AllZip-mapped (entry_of contents) (IsEntryOf contents) (streams_of contents config)
      (All-weaker (SetsFit contents) (λ s. IsEntryOf contents s (entry_of contents s)) (true_entry contents) (streams_of contents config) safe.sets));
  bounds = made.bounds;
  orders = made.orders;
}

-- what an answer of the maker says of safety
pub record Answered (contents : Contents) (config : Config) (r : Result Claims MakeFault) : Type 0 where
  pub valid : IfOk r (IsValid contents config)
  pub safe : IfOk r (λ _. IsSafe contents config)
  pub accepts : IsSafe contents config → IsOkUnless r Memory

pub answered : (contents : Contents) (config : Config) (r : Result Claims MakeFault) → IfOk r (IsMade contents config)
    → Reports Memory (UnsafeFinds contents config) r → Answered contents config r
answered contents config (Ok certificate) made found =
    let safe = safe_from_none same_faults contents (streams_of contents config) (forgotten contents config None found) in
    record { valid = valid_of contents config certificate safe made; safe = safe; accepts = λ s. tt }
answered contents config (Err fault) made found = record { valid = tt; safe = tt; accepts = λ safe. by fault (refused safe fault found) }
  where
    refused : IsSafe contents config → (fault : MakeFault) → (fault ≢ Memory → UnsafeFinds contents config (Some fault)) → (fault ≢ Memory) → ⊥
    refused safe fault found other =
        (SafetyFinds-IsSingle same_faults contents (streams_of contents config)).alone true (none_from_safe same_faults contents (streams_of contents config) safe)
        (forgotten contents config (Some fault) (found other))

    by : (fault : MakeFault) → (fault ≢ Memory → ⊥) → fault ≡ Memory
    by (Collision first later) h = absurd (h (λ e. absurd cc))
    by (LimitExceeded stream reader instrument) h = absurd (h (λ e. absurd cc))
    by (SumLow instrument) h = absurd (h (λ e. absurd cc))
    by (SumHigh instrument) h = absurd (h (λ e. absurd cc))
    by (CountRange instrument) h = absurd (h (λ e. absurd cc))
    by (AmountRange instrument) h = absurd (h (λ e. absurd cc))
    by Memory h = refl

-- the same of the certificate for streams of distinct identities
pub concluded : (contents : Contents) (config : Config) (streams : List Stream) (r : Result Claims MakeFault) → streams ≡ streams_of contents config → AreDistinct contents streams
    → IfOk r (IsMadeFor contents config streams) → Reports Memory (Then (InstrumentsFind contents streams) (LimitsFind contents streams)) r
    → Answered contents config r
concluded contents config streams r is distinct made found =
    answered contents config r (subst (λ (s : List Stream). IfOk r (IsMadeFor contents config s)) is made)
    (whole r (subst (AreDistinct contents) is distinct) (subst (λ (s : List Stream). Reports Memory (Then (InstrumentsFind contents s) (LimitsFind contents s)) r) is found))
  where
    whole : (r : Result Claims MakeFault) → AreDistinct contents (streams_of contents config)
        → Reports Memory (Then (InstrumentsFind contents (streams_of contents config)) (LimitsFind contents (streams_of contents config))) r → Reports Memory (UnsafeFinds contents config) r
    whole (Ok certificate) distinct found = (distinct, found)
    whole (Err fault) distinct found = λ other. inr (distinct, found other)
