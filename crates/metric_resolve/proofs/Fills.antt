-- What fills say of the views that apply and of their streams.
use Rattle.std.proofs.Common.{◌≡◌, ℕ, ◌<◌, Bool, true, false, not, cond, ◌||◌, filter, map, List, [], ◌∷◌, ◌++◌, length, Option, Some, None, refl, ap, ◌∙◌}
use Rattle.std.specs.List.{filter_map, list_any}
use Rattle.std.specs.Prelude.{slice_get}
use Rattle.std.specs.Option.{option_map}
use Rattle.std.proofs.lemmas.Option.{slice_get_within}
use Rattle.metric_contents.specs.declared.contents.Contents.{Contents}
use Rattle.metric_contents.specs.declared.contents.Instrument.{Instrument}
use Rattle.metric_views.specs.declared.config.Config.{Config}
use Rattle.metric_views.specs.declared.config.Reader.{Reader}
use Rattle.metric_views.specs.declared.config.Settings.{Settings}
use Rattle.metric_views.specs.declared.config.View.{View}
use Rattle.metric_views.specs.declared.stream.Fill.{Fill}
use Rattle.metric_views.specs.declared.stream.Stream.{Stream}
use Rattle.metric_views.specs.declared.stream.StreamAggregation.{StreamAggregation}
use Rattle.metric_views.specs.Streams.{fill_at, fill_by, fill_with, kept_or_dropped, settings_at, template_of, unless_unfit}
use Rattle.metric_resolve.specs.Applying.{applies, applying, all_views, fits, fits_with, is_selected, or_default}
use Rattle.metric_resolve.specs.Resolved.{is_fit, kept_of, stream_at, streams_of_instrument}

-- the streams of these views
unfoldable pub streams_by : Contents → Config → ℕ → ℕ → List ℕ → List Stream
streams_by contents config reader instrument views = filter_map (stream_at contents config reader instrument) (map (λ view. Some view) views)

fit_of_fill : (unfit : Bool) (stream : StreamAggregation → Stream) (aggregation : Option StreamAggregation)
    → not unfit ≡ is_fit (unless_unfit unfit (kept_or_dropped stream aggregation))
fit_of_fill true stream aggregation = refl
fit_of_fill false stream None = refl
fit_of_fill false stream (Some a) = refl

some_is : {A : Type 0} (x y : A) → Some x ≡ Some y → x ≡ y
some_is x y e = cc

fits_fill_with : (number n : ℕ) (v : Option ℕ) (reader : Option Reader) (instrument : Option Instrument) (view : Option View) (filled : Fill)
    → fill_with number n v reader instrument (option_map (λ view. view.settings) view) ≡ Some filled → fits_with reader view instrument ≡ is_fit filled
unfolding fill_by template_of
fits_fill_with number n v (Some r) (Some i) (Some view) filled e = fit_of_fill _ _ _ ∙ ap is_fit (some_is _ filled e)
fits_fill_with number n v (Some r) (Some i) None filled e = absurd cc
fits_fill_with number n v (Some r) None view filled e = absurd cc
fits_fill_with number n v None instrument view filled e = absurd cc

-- the fill of a view says whether its aggregation fits
pub fits_fill : (contents : Contents) (config : Config) (reader instrument view : ℕ) (filled : Fill)
    → fill_at contents config reader instrument (Some view) ≡ Some filled → fits contents config reader instrument view ≡ is_fit filled
unfolding fits
fits_fill contents config reader instrument view filled e =
    fits_fill_with reader instrument (Some view) (slice_get config.readers reader) (slice_get contents.instruments instrument) (slice_get config.views view) filled e

-- a view that does not select does not apply
pub applies-unselected : (contents : Contents) (config : Config) (reader instrument view : ℕ)
    → is_selected contents config instrument view ≡ false → applies contents config reader instrument view ≡ false
applies-unselected contents config reader instrument view e = rw e refl

pub applies-selected : (contents : Contents) (config : Config) (reader instrument view : ℕ) (filled : Fill) → is_selected contents config instrument view ≡ true
    → fill_at contents config reader instrument (Some view) ≡ Some filled → applies contents config reader instrument view ≡ is_fit filled
applies-selected contents config reader instrument view filled selected e = rw selected (fits_fill contents config reader instrument view filled e)

some_apply : (p : ℕ → Bool) (views : List ℕ) → list_any p views ≡ true → or_default (filter p views) ≡ map (λ v. Some v) (filter p views)
some_apply p [] e = absurd cc
some_apply p (v ∷ vs) e = by (p v) e (λ e. some_apply p vs e)
  where
    by : (b : Bool) → (b || list_any p vs) ≡ true → (list_any p vs ≡ true → or_default (filter p vs) ≡ map (λ v. Some v) (filter p vs))
        → or_default (cond b (v ∷ filter p vs) (filter p vs)) ≡ map (λ v. Some v) (cond b (v ∷ filter p vs) (filter p vs))
    by true e rest = refl
    by false e rest = rest e

none_apply : (p : ℕ → Bool) (views : List ℕ) → list_any p views ≡ false → filter p views ≡ []
none_apply p [] e = refl
none_apply p (v ∷ vs) e = by (p v) e (λ e. none_apply p vs e)
  where
    by : (b : Bool) → (b || list_any p vs) ≡ false → (list_any p vs ≡ false → filter p vs ≡ []) → cond b (v ∷ filter p vs) (filter p vs) ≡ []
    by true e rest = absurd cc
    by false e rest = rest e

-- the streams of an instrument where some view applies
pub streams_of_instrument-some : (contents : Contents) (config : Config) (reader instrument : ℕ) → list_any (applies contents config reader instrument) (all_views config) ≡ true
    → streams_of_instrument contents config reader instrument ≡ streams_by contents config reader instrument (applying contents config reader instrument)
unfolding streams_of_instrument streams_by
streams_of_instrument-some contents config reader instrument e =
    ap (filter_map (stream_at contents config reader instrument)) (some_apply (applies contents config reader instrument) (all_views config) e)

-- the streams of an instrument where none applies
pub streams_of_instrument-none : (contents : Contents) (config : Config) (reader instrument : ℕ) (filled : Fill) → list_any (applies contents config reader instrument) (all_views config) ≡ false
    → fill_at contents config reader instrument None ≡ Some filled
    → streams_of_instrument contents config reader instrument ≡ streams_by contents config reader instrument (applying contents config reader instrument) ++ kept_of filled
unfolding streams_of_instrument streams_by stream_at
streams_of_instrument-none contents config reader instrument filled e gives =
    rw (none_apply (applies contents config reader instrument) (all_views config) e, gives) refl

-- a fill is of an instrument that is there
pub known_fill : (contents : Contents) (config : Config) (reader instrument : ℕ) (view : Option ℕ) (filled : Fill)
    → fill_at contents config reader instrument view ≡ Some filled → instrument < length contents.instruments
known_fill contents config reader instrument view filled e =
    by (slice_get config.readers reader) (slice_get contents.instruments instrument) (settings_at config.views view) refl e
  where
    by : (r : Option Reader) (i : Option Instrument) (o : Option Settings) → slice_get contents.instruments instrument ≡ i → fill_with reader instrument view r i o ≡ Some filled
        → instrument < length contents.instruments
    by (Some r) (Some i) o at e = slice_get_within contents.instruments instrument i at
    by (Some r) None o at e = absurd cc
    by None i o at e = absurd cc
