-- Views are warned of exactly where they sum gauges, by view and instrument.
use Rattle.std.proofs.Common.{◌≡◌, ℕ, ◌<◌, Bool, true, false, ◌&&◌, All, AllPairs, Contains, Option, Some, None, slice_get, length, refl, sym, subst, ap, inl, inr, if◌then◌else◌}
use Rattle.std.specs.Option.{option_map_or}
use Rattle.std.proofs.lemmas.Bool.{and_from, and_parts}
use Rattle.std.proofs.lemmas.List.Elements.{All-contains}
use Rattle.std.proofs.lemmas.Option.{slice_get_within}
use Rattle.metric_contents.specs.declared.contents.Contents.{Contents}
use Rattle.metric_contents.specs.declared.contents.Instrument.{Instrument}
use Rattle.metric_contents.specs.declared.contents.Kind.{Kind}
use Rattle.metric_contents.specs.declared.contents.Kind.TheVariants.{Gauge}
use Rattle.metric_contents.specs.declared.contents.Meter.{Meter}
use Rattle.metric_views.specs.declared.choices.Aggregation.{Aggregation}
use Rattle.metric_views.specs.declared.choices.Aggregation.TheVariants.{Sum}
use Rattle.metric_views.specs.declared.config.Config.{Config}
use Rattle.metric_views.specs.declared.config.View.{View}
use Rattle.metric_views.specs.Choices.{is_unfit}
use Rattle.metric_views.specs.Selection.{selects}
use Rattle.metric_views.specs.SelectionLaws.{selects-Decides}
use Rattle.metric_resolve.specs.declared.warning.Warning.{Warning}
use Rattle.metric_resolve.specs.declared.warning.Warning.TheVariants as warnings
use Rattle.metric_resolve.specs.Applying.{all_instruments, all_views, meter_at, selects_with}
use Rattle.metric_resolve.specs.Laws.{SumsGauge, WarnsBefore}
use Rattle.metric_resolve.specs.Unfit.{is_unfit_with, names_unfit, names_unfit_with, unfit_of, unfit_of_view, unfit_with}
use Rattle.metric_resolve.proofs.Bounds.{All-filter_map, All-flat_map}
use Rattle.metric_resolve.proofs.Lists.{Contains-filter_map, Contains-flat_map, Contains-range}
use Rattle.metric_resolve.proofs.Ordered.{AllPairs-from_Ordered, Ordered, Ordered-given, Ordered-pieces, Ordered-range}

-- only a sum does not fit, and only a gauge
unfit_is : (kind : Kind) (aggregation : Aggregation) → is_unfit kind aggregation ≡ true → (kind ≡ Gauge) × (aggregation ≡ Sum)
unfit_is Gauge Sum e = (refl, refl)
unfit_is _ _ e = absurd cc

named_is : (kind : Kind) (o : Option Aggregation) → option_map_or (is_unfit kind) o false ≡ true → (kind ≡ Gauge) × (o ≡ Some Sum)
named_is kind (Some aggregation) e = let parts = unfit_is kind aggregation e in (parts.0, ap (λ (a : Aggregation). Some a) parts.1)
named_is kind None e = absurd cc

named_back : (kind : Kind) (o : Option Aggregation) → kind ≡ Gauge → o ≡ Some Sum → option_map_or (is_unfit kind) o false ≡ true
named_back kind o p q = rw (p, q) refl

-- what is warned of is a sum of a gauge
sums_gauge : (contents : Contents) (config : Config) (view instrument : ℕ) → is_unfit_with contents (slice_get config.views view) instrument ≡ true → SumsGauge contents config view instrument
sums_gauge contents config view instrument e = by (slice_get config.views view) (slice_get contents.instruments instrument) (meter_at contents instrument) refl refl refl e
  where
    by : (v : Option View) (i : Option Instrument) (m : Option Meter) → slice_get config.views view ≡ v → slice_get contents.instruments instrument ≡ i → meter_at contents instrument ≡ m
        → (names_unfit_with v i && selects_with v m i) ≡ true → SumsGauge contents config view instrument
    by (Some v) (Some i) (Some m) p q r e =
        let parts = and_parts (names_unfit v i) (selects v.criteria m i) e in
        let named = named_is i.kind v.settings.aggregation parts.0 in
        record {
          own_view = v;
          own_instrument = i;
          own_meter = m;
          view_at = p;
          instrument_at = q;
          of_meter = r;
          sums = named.1;
          is_gauge = named.0;
          selects = (selects-Decides v.criteria m i).0 parts.1;
        }
    by (Some v) (Some i) None p q r e = absurd (let parts = and_parts (names_unfit v i) false e in let wrong = parts.1 in cc)
    by (Some v) None m p q r e = absurd cc
    by None i m p q r e = absurd cc

gauge_summed : (contents : Contents) (config : Config) (view instrument : ℕ) → SumsGauge contents config view instrument → is_unfit_with contents (slice_get config.views view) instrument ≡ true
gauge_summed contents config view instrument s =
    let named : names_unfit s.own_view s.own_instrument ≡ true = named_back s.own_instrument.kind s.own_view.settings.aggregation s.is_gauge s.sums in
    rw (s.view_at, s.of_meter, s.instrument_at) (and_from _ _ named ((selects-Decides s.own_view.criteria s.own_meter s.own_instrument).1 s.selects))

-- what holds of each warning
abbrev IsWarned : Contents → Config → Warning → Type 0
IsWarned contents config (warnings.Unfit view instrument) = SumsGauge contents config view instrument
IsWarned contents config (warnings.Collision a b) = ⊥

-- the view of a warning
abbrev view_of : Warning → ℕ
view_of (warnings.Unfit view instrument) = view
view_of (warnings.Collision a b) = a

abbrev IsUnfitWarning : Warning → Type 0
IsUnfitWarning (warnings.Unfit view instrument) = Unit {0}
IsUnfitWarning (warnings.Collision a b) = ⊥

apart : (s t : Warning) → IsUnfitWarning s → IsUnfitWarning t → view_of s < view_of t → WarnsBefore s t
apart (warnings.Unfit v i) (warnings.Unfit w j) p q less = inl less
apart (warnings.Unfit v i) (warnings.Collision a b) p q less = absurd q
apart (warnings.Collision a b) t p q less = absurd p

module _ (contents : Contents) (config : Config) where
  told : (view instrument : ℕ) (w : Warning) → unfit_with contents view (slice_get config.views view) instrument ≡ Some w
      → (w ≡ warnings.Unfit view instrument) × (is_unfit_with contents (slice_get config.views view) instrument ≡ true)
  told view instrument w e = by (is_unfit_with contents (slice_get config.views view) instrument) refl e
    where
      by : (b : Bool) → is_unfit_with contents (slice_get config.views view) instrument ≡ b → (if b then Some (warnings.Unfit view instrument) else None) ≡ Some w
          → (w ≡ warnings.Unfit view instrument) × (is_unfit_with contents (slice_get config.views view) instrument ≡ true)
      by true p e = (cc, p)
      by false p e = absurd cc

  all_told : All (IsWarned contents config) (unfit_of contents config)
  unfolding unfit_of unfit_of_view
  all_told =
      All-flat_map (IsWarned contents config) (unfit_of_view contents config) (λ view.
      All-filter_map (IsWarned contents config) (unfit_with contents view (slice_get config.views view)) (λ instrument w e.
      let parts = told view instrument w e in
      subst (IsWarned contents config) (sym parts.0) (sums_gauge contents config view instrument parts.1)) (all_instruments contents)) (all_views config)

  all_summed : (view instrument : ℕ) → SumsGauge contents config view instrument → Contains (unfit_of contents config) (warnings.Unfit view instrument)
  unfolding unfit_of unfit_of_view
  all_summed view instrument s =
      let gives : unfit_with contents view (slice_get config.views view) instrument ≡ Some (warnings.Unfit view instrument) =
      ap (λ (b : Bool). if b then Some (warnings.Unfit view instrument) else None) (gauge_summed contents config view instrument s) in
      Contains-flat_map (unfit_of_view contents config) (all_views config) view (warnings.Unfit view instrument)
      (Contains-range (length config.views) view (slice_get_within config.views view s.own_view s.view_at))
      (Contains-filter_map (unfit_with contents view (slice_get config.views view)) (all_instruments contents) instrument (warnings.Unfit view instrument)
      (Contains-range (length contents.instruments) instrument (slice_get_within contents.instruments instrument s.own_instrument s.instrument_at)) gives)

  ordered_view : (view : ℕ) → Ordered WarnsBefore (unfit_of_view contents config view)
  unfolding unfit_of_view
  ordered_view view =
      Ordered-given (λ x y. x < y) WarnsBefore (unfit_with contents view (slice_get config.views view))
      (λ x y s t less e f. rw ((told view x s e).0, (told view y t f).0) (inr (refl, less)))
      (all_instruments contents) (Ordered-range 0 (length contents.instruments))

  views_of : (view : ℕ) → All (λ w. IsUnfitWarning w × (view_of w ≡ view)) (unfit_of_view contents config view)
  unfolding unfit_of_view
  views_of view =
      All-filter_map (λ w. IsUnfitWarning w × (view_of w ≡ view)) (unfit_with contents view (slice_get config.views view))
      (λ instrument w e. subst (λ (v : Warning). IsUnfitWarning v × (view_of v ≡ view)) (sym (told view instrument w e).0) (tt, refl)) (all_instruments contents)

pub unfit_exact : (contents : Contents) (config : Config) (view instrument : ℕ)
    → (Contains (unfit_of contents config) (warnings.Unfit view instrument) → SumsGauge contents config view instrument) × (SumsGauge contents config view instrument → Contains (unfit_of contents config) (warnings.Unfit view instrument))
unfit_exact contents config view instrument = (
  λ h. All-contains (IsWarned contents config) (unfit_of contents config) (warnings.Unfit view instrument) (all_told contents config) h,
  all_summed contents config view instrument,
)

pub unfit_ordered : (contents : Contents) (config : Config) → AllPairs WarnsBefore (unfit_of contents config)
unfolding unfit_of
unfit_ordered contents config =
    AllPairs-from_Ordered WarnsBefore (unfit_of contents config)
    (Ordered-pieces WarnsBefore view_of IsUnfitWarning (unfit_of_view contents config) apart (views_of contents config) (ordered_view contents config) 0 (length config.views))
