-- Each stream of a config says of each key of its instrument whether it is kept.
use Rattle.std.proofs.Common.{◌≡◌, ℕ, zero, Bool, true, false, length, Option, Some, None, Contains}
use Rattle.std.proofs.Common.{sym, ap, subst, ◌∙◌}
use Rattle.std.specs.Prelude.{slice_get}
use Rattle.std.proofs.lemmas.List.{length-map}
use Rattle.std.proofs.lemmas.List.Elements.{Contains-get_or}
use Rattle.std.proofs.lemmas.Option.{get_or_from_slice_get, slice_get_within}
use Rattle.metric_contents.specs.declared.contents.Contents.{Contents}
use Rattle.metric_contents.specs.declared.contents.Instrument.{Instrument}
use Rattle.metric_views.specs.Choices.{is_unfit}
use Rattle.metric_views.specs.Streams.{aggregation_with, chosen_aggregation, fill_by, fill_with}
use Rattle.metric_views.specs.Streams.{is_kept, kept_or_dropped, settings_at, stream_by}
use Rattle.metric_views.specs.Streams.{template_of, unless_unfit}
use Rattle.metric_views.specs.declared.config.Config.{Config}
use Rattle.metric_views.specs.declared.config.Reader.{Reader}
use Rattle.metric_views.specs.declared.config.Settings.{Settings}
use Rattle.metric_views.specs.declared.stream.Fill.{Fill}
use Rattle.metric_views.specs.declared.stream.Fill.TheVariants.{Kept}
use Rattle.metric_views.specs.declared.stream.Stream.{Stream}
use Rattle.metric_views.specs.declared.stream.StreamAggregation.{StreamAggregation}
use Rattle.metric_resolve.specs.Laws.{IsOwn}
use Rattle.metric_resolve.specs.Resolved.{streams_of}
use Rattle.metric_resolve.proofs.StreamLaws.{streams_exact}
use Rattle.metric_bounds.specs.Sets.{FlagsEach, FlagsKeys}

-- what is kept of a fill says of each key of the instrument whether it is kept
flags_of_fill : (reader : ℕ) (r : Reader) (number : ℕ) (i : Instrument) (view : Option ℕ)
    (settings : Settings) (s : Stream)
    → fill_by reader r (template_of number i view settings) ≡ Kept s
    → length s.kept ≡ length i.keys
unfolding fill_by stream_by template_of
flags_of_fill reader r number i view settings s e =
    let t = template_of number i view settings in
    let chosen = chosen_aggregation r t.kind t.aggregation in
    by (is_unfit t.kind chosen) (aggregation_with chosen t.kind t.boundaries) e
  where
    flags : Fill → ℕ
    flags (Kept kept) = length kept.kept
    flags other = zero

    by : (unfit : Bool) (a : Option StreamAggregation) → unless_unfit unfit
        (kept_or_dropped (stream_by reader r (template_of number i view settings)) a) ≡ Kept s
        → length s.kept ≡ length i.keys
    by true a e = absurd cc
    by false None e = absurd cc
    by false (Some a) e =
        sym (ap flags e) ∙ length-map i.keys (is_kept settings.keep settings.exclude)

-- and so does a stream that the views of a config give
pub own_flags : (contents : Contents) (config : Config) (s : Stream) → IsOwn contents config s
    → FlagsKeys contents s
own_flags contents config s own =
    by (slice_get config.readers s.reader) (slice_get contents.instruments s.instrument)
    (settings_at config.views s.view) own.filled
  where
    by : (r : Option Reader) (o : Option Instrument) (settings : Option Settings)
        → fill_with s.reader s.instrument s.view r o settings ≡ Some (Kept s) → FlagsEach s o
    by r None settings e = tt
    by None (Some j) settings e = absurd cc
    by (Some r) (Some j) None e = absurd cc
    by (Some r) (Some j) (Some settings) e =
        flags_of_fill s.reader r s.instrument j s.view settings s (filled e)
      where
        filled : Some (fill_by s.reader r (template_of s.instrument j s.view settings)) ≡ Some
            (Kept s) → fill_by s.reader r (template_of s.instrument j s.view settings) ≡ Kept s
        filled e = cc

-- and so does the one at a place
pub flags_at : (contents : Contents) (config : Config) (k : ℕ) (s : Stream) (i : Instrument)
    → slice_get (streams_of contents config) k ≡ Some s
    → slice_get contents.instruments s.instrument ≡ Some i → length s.kept ≡ length i.keys
flags_at contents config k s i at found =
    let streams = streams_of contents config in
    let there : Contains streams s =
    subst (Contains streams) (get_or_from_slice_get streams k s s at)
    (Contains-get_or streams k s (slice_get_within streams k s at)) in
    subst (FlagsEach s) found
    (own_flags contents config s ((streams_exact contents config s).0 there))
