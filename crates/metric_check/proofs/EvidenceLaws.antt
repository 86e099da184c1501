-- True evidence says whether a view selects an instrument.
use Rattle.std.proofs.Common.{◌≡◌, ℕ, ◌+◌, ◌*◌, ◌<◌, Bool, true, false, List, [], ◌∷◌, length, Option, Some, None, IfSome, option_map, slice_get, unwrap_or, refl, sym, ap, subst, ◌∙◌, inl, inr, arith}
use Rattle.std.proofs.lemmas.Option.{slice_get_cases, slice_get_within}
use Rattle.std.specs.List.{AllZip}
use Rattle.std.proofs.lemmas.Slice.Zip.{AllZip-long}
use Rattle.std.proofs.lemmas.List.{append-nil}
use Rattle.metric_glob.specs.Matching.{Matches}
use Rattle.metric_glob.specs.declared.reason.Reason.TheVariants.{Takes, Rows}
use Rattle.metric_glob.proofs.RowLemmas.{no_match-from_ShutsOut}
use Rattle.metric_glob.proofs.SpellLemmas.{Matches-from_Spells}
use Rattle.metric_contents.specs.declared.contents.Contents.{Contents}
use Rattle.metric_contents.specs.declared.contents.Instrument.{Instrument}
use Rattle.metric_contents.specs.declared.contents.Meter.{Meter}
use Rattle.metric_views.specs.declared.config.Config.{Config}
use Rattle.metric_views.specs.declared.config.Criteria.{Criteria}
use Rattle.metric_views.specs.declared.config.View.{View}
use Rattle.metric_views.specs.Selection.{Selects, selects}
use Rattle.metric_views.specs.SelectionLaws.{selects-Decides}
use Rattle.metric_resolve.specs.Applying.{is_selected, meter_at, selects_with}
use Rattle.metric_cert.specs.declared.reason.Criterion.TheVariants.{InstrumentType, InstrumentUnit, MeterName, MeterVersion, MeterSchemaUrl}
use Rattle.metric_cert.specs.declared.reason.Evidence.{Evidence}
use Rattle.metric_cert.specs.declared.reason.SelectionReason.{SelectionReason}
use Rattle.metric_cert.specs.declared.reason.Evidence.TheVariants.{Name, Miss}
use Rattle.metric_cert.specs.Valid.{IsReasonOf, IsTrueEvidence, IsTrueOf, all_pairs, pattern_for}
use Rattle.metric_check.specs.Findings.{AllHold}
use Rattle.metric_check.specs.Known.{EachHolds, ShowSelection, selects_by}
use Rattle.metric_check.proofs.Pairs.{pair_of}
use Rattle.metric_check.proofs.Walks.{zip_at}

-- The reasons are those of all pairs, and true.
abbrev pub AreReasons : Contents → Config → List SelectionReason → Type 0
AreReasons contents config reasons = AllZip (IsReasonOf contents config) (all_pairs contents config) reasons

-- `*` matches each name
star_matches : (name : List ℕ) → Matches (42 ∷ []) name
star_matches name = record { pieces = name ∷ []; division = record { fit = (tt, tt); spell = sym (append-nil name) } }

-- the pattern of names holds where the view selects
name_matches : (criteria : Criteria) (name : List ℕ) → IfSome criteria.instrument_name (λ pattern. Matches pattern name) → Matches (pattern_for criteria) name
name_matches criteria name h = by criteria.instrument_name h
  where
    by : (o : Option (List ℕ)) → IfSome o (λ pattern. Matches pattern name) → Matches (unwrap_or o (42 ∷ [])) name
    by None h = star_matches name
    by (Some pattern) h = h

given_matches : (criteria : Criteria) (name : List ℕ) → Matches (pattern_for criteria) name → IfSome criteria.instrument_name (λ pattern. Matches pattern name)
given_matches criteria name h = by criteria.instrument_name h
  where
    by : (o : Option (List ℕ)) → Matches (unwrap_or o (42 ∷ [])) name → IfSome o (λ pattern. Matches pattern name)
    by None h = tt
    by (Some pattern) h = h

holding : (criteria : Criteria) (meter : Meter) (instrument : Instrument) → Selects criteria meter instrument → AllHold criteria meter instrument
holding criteria meter instrument s InstrumentType = s.instrument_type
holding criteria meter instrument s InstrumentUnit = s.instrument_unit
holding criteria meter instrument s MeterName = s.meter_name
holding criteria meter instrument s MeterVersion = s.meter_version
holding criteria meter instrument s MeterSchemaUrl = s.meter_schema_url

selecting : (criteria : Criteria) (meter : Meter) (instrument : Instrument) → Matches (pattern_for criteria) instrument.name → AllHold criteria meter instrument
    → Selects criteria meter instrument
selecting criteria meter instrument matches hold = record {
  instrument_name = given_matches criteria instrument.name matches;
  instrument_type = hold InstrumentType;
  instrument_unit = hold InstrumentUnit;
  meter_name = hold MeterName;
  meter_version = hold MeterVersion;
  meter_schema_url = hold MeterSchemaUrl;
}

unless_selects : (criteria : Criteria) (meter : Meter) (instrument : Instrument) → (Selects criteria meter instrument → ⊥) → selects criteria meter instrument ≡ false
unless_selects criteria meter instrument never = by (selects criteria meter instrument) refl
  where
    by : (b : Bool) → selects criteria meter instrument ≡ b → b ≡ false
    by false e = refl
    by true e = absurd (never ((selects-Decides criteria meter instrument).0 e))

evidence_selects : (evidence : Evidence) (criteria : Criteria) (meter : Meter) (instrument : Instrument) → IsTrueEvidence evidence criteria meter instrument
    → selects_by evidence ≡ selects criteria meter instrument
evidence_selects (Name (Takes takes)) criteria meter instrument t =
    sym ((selects-Decides criteria meter instrument).1
    (selecting criteria meter instrument (Matches-from_Spells (pattern_for criteria) takes instrument.name t.0) t.1))
evidence_selects (Name (Rows rows)) criteria meter instrument t =
    sym (unless_selects criteria meter instrument
    (λ s. no_match-from_ShutsOut (pattern_for criteria) instrument.name rows t (name_matches criteria instrument.name s.instrument_name)))
evidence_selects (Miss criterion) criteria meter instrument t =
    sym (unless_selects criteria meter instrument (λ s. t (holding criteria meter instrument s criterion)))

-- true evidence of a view and an instrument
true_selects : (evidence : Evidence) (view : Option View) (meter : Option Meter) (instrument : Option Instrument) → IsTrueOf evidence view meter instrument
    → selects_by evidence ≡ selects_with view meter instrument
true_selects evidence (Some view) (Some meter) (Some instrument) t = evidence_selects evidence view.criteria meter instrument t
true_selects evidence (Some view) (Some meter) None t = absurd t
true_selects evidence (Some view) None instrument t = absurd t
true_selects evidence None meter instrument t = absurd t

pub shown_by : (contents : Contents) (config : Config) (evidence : Evidence) (view instrument : ℕ)
    → IsTrueOf evidence (slice_get config.views view) (meter_at contents instrument) (slice_get contents.instruments instrument)
    → selects_by evidence ≡ is_selected contents config instrument view
unfolding is_selected
shown_by contents config evidence view instrument t =
    true_selects evidence (slice_get config.views view) (meter_at contents instrument) (slice_get contents.instruments instrument) t

pub all_from_each : (criteria : Criteria) (meter : Meter) (instrument : Instrument) → EachHolds criteria meter instrument → AllHold criteria meter instrument
all_from_each criteria meter instrument each InstrumentType = each.0
all_from_each criteria meter instrument each InstrumentUnit = each.1
all_from_each criteria meter instrument each MeterName = each.2
all_from_each criteria meter instrument each MeterVersion = each.3
all_from_each criteria meter instrument each MeterSchemaUrl = each.4

pub each_from_all : (criteria : Criteria) (meter : Meter) (instrument : Instrument) → AllHold criteria meter instrument → EachHolds criteria meter instrument
each_from_all criteria meter instrument all = (all InstrumentType, all InstrumentUnit, all MeterName, all MeterVersion, all MeterSchemaUrl)

-- the reason at the place of a view and an instrument
reason_shows : (contents : Contents) (config : Config) (reasons : List SelectionReason) → AreReasons contents config reasons → (view instrument : ℕ)
    → view < length config.views → instrument < length contents.instruments → (reason : SelectionReason)
    → slice_get reasons (view * length contents.instruments + instrument) ≡ Some reason → selects_by reason.evidence ≡ is_selected contents config instrument view
reason_shows contents config reasons zip view instrument within inside reason at =
    let of =
    zip_at (IsReasonOf contents config) (all_pairs contents config) reasons zip (view * length contents.instruments + instrument) (view, instrument) reason
    (pair_of contents config view instrument within inside) at in
    let evidence =
    subst (λ (v : ℕ). IsTrueOf reason.evidence (slice_get config.views v) (meter_at contents instrument) (slice_get contents.instruments instrument)) of.view
    (subst (λ (i : ℕ). IsTrueOf reason.evidence (slice_get config.views reason.view) (meter_at contents i) (slice_get contents.instruments i)) of.instrument of.evidence) in
    shown_by contents config reason.evidence view instrument evidence

-- there is such a place
reason_there : (contents : Contents) (config : Config) (reasons : List SelectionReason) → AreReasons contents config reasons → (view instrument : ℕ)
    → view < length config.views → instrument < length contents.instruments → view * length contents.instruments + instrument < length reasons
reason_there contents config reasons zip view instrument within inside =
    let long = AllZip-long (IsReasonOf contents config) (all_pairs contents config) reasons zip in
    let at = slice_get_within (all_pairs contents config) (view * length contents.instruments + instrument) (view, instrument) (pair_of contents config view instrument within inside) in
    omega (arith, long, at)

-- true reasons of all pairs show which views select which instruments
pub all_show : (contents : Contents) (config : Config) (reasons : List SelectionReason) → AreReasons contents config reasons → ShowSelection contents config reasons
all_show contents config reasons zip view instrument within inside =
    elim (slice_get_cases reasons (view * length contents.instruments + instrument)).1 [
      | inl h ↦ ap (option_map (λ (reason : SelectionReason). selects_by reason.evidence)) h.2 ∙ ap (λ b. Some b) (reason_shows contents config reasons zip view instrument within inside h.0 h.2)
      | inr h ↦ let there = reason_there contents config reasons zip view instrument within inside in absurd (omega (arith, there, h.0))
    ]

-- the place of a pair's reason
pub shown_there : (contents : Contents) (config : Config) (reasons : List SelectionReason) → ShowSelection contents config reasons → (view instrument : ℕ)
    → view < length config.views → instrument < length contents.instruments → view * length contents.instruments + instrument < length reasons
shown_there contents config reasons shown view instrument within inside =
    elim (slice_get_cases reasons (view * length contents.instruments + instrument)).1 [
      | inl h ↦ h.1
      | inr h ↦
          let e = sym (ap (option_map (λ (reason : SelectionReason). selects_by reason.evidence)) h.1) ∙ shown view instrument within inside in
          absurd cc
    ]

-- what it shows
pub shown_at : (contents : Contents) (config : Config) (reasons : List SelectionReason) → ShowSelection contents config reasons → (view instrument : ℕ)
    → view < length config.views → instrument < length contents.instruments → (reason : SelectionReason)
    → slice_get reasons (view * length contents.instruments + instrument) ≡ Some reason → selects_by reason.evidence ≡ is_selected contents config instrument view
shown_at contents config reasons shown view instrument within inside reason at =
    let e = sym (ap (option_map (λ (reason : SelectionReason). selects_by reason.evidence)) at) ∙ shown view instrument within inside in
    cc
