-- What the streams of a config are, in other words: which there are, and in which order.
use Rattle.std.specs.Prelude.{◌≡◌, ◌≢◌, ℕ, ◌<◌, ◌⊎◌, Contains, List, Option, Some, None}
use Rattle.std.specs.Prelude.{option_and_then, slice_get}
use Rattle.metric_contents.specs.declared.contents.Contents.{Contents}
use Rattle.metric_contents.specs.declared.contents.Instrument.{Instrument}
use Rattle.metric_contents.specs.declared.contents.Kind.TheVariants.{Gauge}
use Rattle.metric_contents.specs.declared.contents.Meter.{Meter}
use Rattle.metric_views.specs.declared.choices.Aggregation.TheVariants.{Sum}
use Rattle.metric_views.specs.declared.config.Config.{Config}
use Rattle.metric_views.specs.declared.config.View.{View}
use Rattle.metric_views.specs.declared.stream.Fill.TheVariants.{Kept}
use Rattle.metric_views.specs.declared.stream.Stream.{Stream}
use Rattle.metric_views.specs.Streams.{fill_at}
use Rattle.metric_views.specs.Selection.{Selects}
use Rattle.metric_resolve.specs.declared.warning.Warning.{Warning}
use Rattle.metric_resolve.specs.declared.warning.Warning.TheVariants as warnings
use Rattle.metric_resolve.specs.Applying.{meter_at, views_for}
use Rattle.metric_resolve.specs.Collisions.{Identity, identity_of}

-- The stream is what its own view, or the default, makes of its own instrument for its own reader,
-- and the reader sees the instrument by that view, or by the default.
pub record IsOwn (contents : Contents) (config : Config) (stream : Stream) : Type 0 where
  pub seen : Contains (views_for contents config stream.reader stream.instrument) stream.view
  pub filled : fill_at contents config stream.reader stream.instrument stream.view
      ≡ Some (Kept stream)

-- The default stands alone, so it comes before no view and after none.
abbrev pub IsBefore : Option ℕ → Option ℕ → Type 0
IsBefore (Some view) (Some other) = view < other
IsBefore (Some view) None = ⊥
IsBefore None other = ⊥

-- one stream stands before another: by reader, instrument and view
abbrev pub Precedes : Stream → Stream → Type 0
Precedes stream other =
    (stream.reader < other.reader)
    ⊎ ((stream.reader ≡ other.reader) × ((stream.instrument < other.instrument)
    ⊎ ((stream.instrument ≡ other.instrument) × IsBefore stream.view other.view)))

-- the identity of the stream of a number
abbrev pub identity_at : Contents → List Stream → ℕ → Option Identity
identity_at contents streams number =
    option_and_then (identity_of contents) (slice_get streams number)

-- The streams of two numbers have one identity, which no stream before the first has.
pub record Collide (contents : Contents) (streams : List Stream) (a b : ℕ) : Type 0 where
  pub identity : Identity
  pub before : a < b
  pub first : identity_at contents streams a ≡ Some identity
  pub later : identity_at contents streams b ≡ Some identity
  pub least : (k : ℕ) → k < a → identity_at contents streams k ≢ Some identity

-- The view of a number itself names a sum, and selects the instrument of a number, which is a
-- gauge.
pub record SumsGauge (contents : Contents) (config : Config) (view instrument : ℕ) : Type 0 where
  pub own_view : View
  pub own_instrument : Instrument
  pub own_meter : Meter
  pub view_at : slice_get config.views view ≡ Some own_view
  pub instrument_at : slice_get contents.instruments instrument ≡ Some own_instrument
  pub of_meter : meter_at contents instrument ≡ Some own_meter
  pub sums : own_view.settings.aggregation ≡ Some Sum
  pub is_gauge : own_instrument.kind ≡ Gauge
  pub selects : Selects own_view.criteria own_meter own_instrument

-- one unfit view stands before another: by view and instrument
abbrev pub WarnsBefore : Warning → Warning → Type 0
WarnsBefore (warnings.Unfit view instrument) (warnings.Unfit other further) =
    (view < other) ⊎ ((view ≡ other) × (instrument < further))
WarnsBefore _ _ = ⊥
