-- Each stream of a config has an identity.
use Rattle.std.proofs.Common.{◌≡◌, ◌<◌, ℕ, zero, suc, List, [], ◌∷◌, length, All, Contains, Option, Some, None, refl, ap, ◌∙◌, arith}
use Rattle.std.specs.Option.{option_map}
use Rattle.std.specs.Prelude.{option_and_then, slice_get}
use Rattle.std.proofs.lemmas.List.Elements.{All-contains_itself, All-get_or, All-weaker}
use Rattle.std.proofs.lemmas.Option.{slice_get_within, get_or_from_slice_get}
use Rattle.metric_catalogue.specs.Sound.{IsSound, IsSoundInstrument}
use Rattle.metric_contents.specs.declared.contents.Contents.{Contents}
use Rattle.metric_contents.specs.declared.contents.Instrument.{Instrument}
use Rattle.metric_contents.specs.declared.contents.Meter.{Meter}
use Rattle.metric_views.specs.declared.config.Config.{Config}
use Rattle.metric_views.specs.declared.config.Reader.{Reader}
use Rattle.metric_views.specs.declared.config.Settings.{Settings}
use Rattle.metric_views.specs.declared.stream.Fill.{Fill}
use Rattle.metric_views.specs.declared.stream.Fill.TheVariants.{Kept}
use Rattle.metric_views.specs.declared.stream.Stream.{Stream}
use Rattle.metric_views.specs.Streams.{fill_at, fill_with, settings_at}
use Rattle.metric_resolve.specs.Applying.{meter_at}
use Rattle.metric_resolve.specs.Collisions.{identity_of, identity_with}
use Rattle.metric_resolve.specs.Laws.{IsOwn}
use Rattle.metric_resolve.specs.Resolved.{streams_of}
use Rattle.metric_bounds.specs.KeptLaws.{own_flags}
use Rattle.metric_make.specs.Making.{IsNamed}

-- an instrument of which a stream is made
known_instrument : (contents : Contents) (config : Config) (reader number : ℕ) (view : Option ℕ) (filled : Fill)
    → fill_at contents config reader number view ≡ Some filled → number < length contents.instruments
known_instrument contents config reader number view filled e =
    by (slice_get config.readers reader) (slice_get contents.instruments number) (settings_at config.views view) refl e
  where
    by : (r : Option Reader) (i : Option Instrument) (o : Option Settings) → slice_get contents.instruments number ≡ i → fill_with reader number view r i o ≡ Some filled
        → number < length contents.instruments
    by r (Some i) o at e = slice_get_within contents.instruments number i at
    by (Some r) None o at e = absurd cc
    by None None o at e = absurd cc

missing : {X : Type 0} (xs : List X) (k : ℕ) → k < length xs → slice_get xs k ≡ None → ⊥
missing [] k less none = omega arith
missing (x ∷ xs) zero less none = absurd cc
missing (x ∷ xs) (suc k) less none = missing xs k (omega arith) none

meter_there : {P : Type 0} (contents : Contents) → IsSound contents → (number : ℕ) → number < length contents.instruments → ((m : Meter) → meter_at contents number ≡ Some m → P) → P
meter_there {P = P} contents sound number within next = by (slice_get contents.instruments number) refl
  where
    given : (i : Instrument) → slice_get contents.instruments number ≡ Some i → (o : Option Meter) → slice_get contents.meters i.meter ≡ o → P
    given i at (Some m) there = next m (ap (option_and_then (λ (j : Instrument). slice_get contents.meters j.meter)) at ∙ there)
    given i at None there =
        let own = All-get_or (IsSoundInstrument (length contents.meters)) contents.instruments number i within sound.instruments.each in
        let same = ap (λ (j : Instrument). j.meter) (get_or_from_slice_get contents.instruments number i i at) in
        let known : i.meter < length contents.meters = omega (arith, own.known) in
        absurd (missing contents.meters i.meter known there)

    by : (o : Option Instrument) → slice_get contents.instruments number ≡ o → P
    by (Some i) at = given i at (slice_get contents.meters i.meter) refl
    by None at = absurd (missing contents.instruments number within at)

named : (contents : Contents) (config : Config) → IsSound contents → (stream : Stream) → IsOwn contents config stream → IsNamed contents stream
unfolding identity_of
named contents config sound stream own =
    let known = known_instrument contents config stream.reader stream.instrument stream.view (Kept stream) own.filled in
    meter_there contents sound stream.instrument known
    (λ m at. record { known = known; flags = own_flags contents config stream own; own = identity_with stream m; is = ap (option_map (identity_with stream)) at })

pub all_named : (contents : Contents) (config : Config) → IsSound contents
    → ((stream : Stream) → Contains (streams_of contents config) stream → IsOwn contents config stream) → All (IsNamed contents) (streams_of contents config)
all_named contents config sound owned =
    All-weaker (Contains (streams_of contents config)) (IsNamed contents) (λ stream there. named contents config sound stream (owned stream there))
    (streams_of contents config) (All-contains_itself (streams_of contents config))
