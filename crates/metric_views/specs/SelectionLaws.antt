-- The test of a view's criteria is true exactly where the view selects.
use Rattle.std.proofs.Common.{◌≡◌, ℕ, Bool, true, false, ◌&&◌, List, Option, Some, None, Decides}
use Rattle.std.proofs.Common.{IfSome, refl}
use Rattle.std.proofs.lemmas.Slice.Eq.{bytes_eq-Decides}
use Rattle.std.specs.Str.{bytes_eq}
use Rattle.metric_glob.specs.Matching.{Matches, is_match}
use Rattle.metric_glob.specs.MatchingLaws.{is_match-Decides}
use Rattle.metric_contents.specs.declared.contents.Instrument.{Instrument}
use Rattle.metric_contents.specs.declared.contents.Kind.{Kind}
use Rattle.metric_contents.specs.declared.contents.Kind.TheVariants.{Counter, UpDownCounter}
use Rattle.metric_contents.specs.declared.contents.Kind.TheVariants.{Histogram, Gauge}
use Rattle.metric_contents.specs.declared.contents.Meter.{Meter}
use Rattle.metric_views.specs.declared.config.Criteria.{Criteria}
use Rattle.metric_views.specs.Selection.{Selects, passes, is_kind, is_text, selects_instrument}
use Rattle.metric_views.specs.Selection.{selects_meter, selects}

-- both tests decide both facts
both : {P Q : Type 0} (a b : Bool) → Decides a P → Decides b Q → Decides (a && b) (P × Q)
both true b p q = (λ e. (p.0 refl, q.0 e), λ h. q.1 h.1)
both false b p q = (λ e. absurd cc, λ h. absurd (contrary (p.1 h.0)))
  where
    contrary : false ≡ true → ⊥
    contrary e = cc

-- a criterion that is given
pub passes-Decides : {T : Type 0} (test : T → Bool) (P : T → Type 0)
    → ((x : T) → Decides (test x) (P x)) → (o : Option T) → Decides (passes test o) (IfSome o P)
passes-Decides test P h None = (λ e. tt, λ p. refl)
passes-Decides test P h (Some x) = h x

pub is_kind-Decides : (a b : Kind) → Decides (is_kind a b) (a ≡ b)
is_kind-Decides Counter Counter = (λ e. refl, λ p. refl)
is_kind-Decides Counter UpDownCounter = (λ e. absurd cc, λ p. absurd cc)
is_kind-Decides Counter Histogram = (λ e. absurd cc, λ p. absurd cc)
is_kind-Decides Counter Gauge = (λ e. absurd cc, λ p. absurd cc)
is_kind-Decides UpDownCounter Counter = (λ e. absurd cc, λ p. absurd cc)
is_kind-Decides UpDownCounter UpDownCounter = (λ e. refl, λ p. refl)
is_kind-Decides UpDownCounter Histogram = (λ e. absurd cc, λ p. absurd cc)
is_kind-Decides UpDownCounter Gauge = (λ e. absurd cc, λ p. absurd cc)
is_kind-Decides Histogram Counter = (λ e. absurd cc, λ p. absurd cc)
is_kind-Decides Histogram UpDownCounter = (λ e. absurd cc, λ p. absurd cc)
is_kind-Decides Histogram Histogram = (λ e. refl, λ p. refl)
is_kind-Decides Histogram Gauge = (λ e. absurd cc, λ p. absurd cc)
is_kind-Decides Gauge Counter = (λ e. absurd cc, λ p. absurd cc)
is_kind-Decides Gauge UpDownCounter = (λ e. absurd cc, λ p. absurd cc)
is_kind-Decides Gauge Histogram = (λ e. absurd cc, λ p. absurd cc)
is_kind-Decides Gauge Gauge = (λ e. refl, λ p. refl)

pub is_text-Decides : (own : List ℕ) (o : Option (List ℕ))
    → Decides (is_text own o) (IfSome o (λ text. text ≡ own))
is_text-Decides own o =
    passes-Decides (λ text. bytes_eq text own) (λ text. text ≡ own)
    (λ text. bytes_eq-Decides text own) o

pub selects-Decides : (criteria : Criteria) (meter : Meter) (instrument : Instrument)
    → Decides (selects criteria meter instrument) (Selects criteria meter instrument)
unfolding selects selects_instrument selects_meter
selects-Decides criteria meter instrument =
    let names = passes-Decides (λ pattern. is_match pattern instrument.name)
    (λ pattern. Matches pattern instrument.name)
    (λ pattern. is_match-Decides pattern instrument.name) criteria.instrument_name in
    let kinds =
    passes-Decides (λ kind. is_kind kind instrument.kind) (λ kind. kind ≡ instrument.kind)
    (λ kind. is_kind-Decides kind instrument.kind) criteria.instrument_type in
    let d = both _ _
    (both _ _ names (both _ _ kinds (is_text-Decides instrument.unit criteria.instrument_unit)))
    (both _ _ (is_text-Decides meter.name criteria.meter_name)
    (both _ _ (is_text-Decides meter.version criteria.meter_version)
    (is_text-Decides meter.schema_url criteria.meter_schema_url))) in (
      λ e. let h = d.0 e in record {
        instrument_name = h.0.0;
        instrument_type = h.0.1.0;
        instrument_unit = h.0.1.1;
        meter_name = h.1.0;
        meter_version = h.1.1.0;
        meter_schema_url = h.1.1.1;
      },
      λ s. d.1 (
        (s.instrument_name, (s.instrument_type, s.instrument_unit)),
        (s.meter_name, (s.meter_version, s.meter_schema_url)),
      ),
    )
