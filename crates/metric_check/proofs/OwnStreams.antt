-- What is known of each stream of a config: its reader, its instrument and its identity.
use Rattle.std.proofs.Common.{◌≡◌, ℕ, ◌<◌, List, length, Contains, get_or, Option, Some, None, slice_get, refl, subst}
use Rattle.std.proofs.lemmas.List.Elements.{All-get_or, Contains-get_or}
use Rattle.std.proofs.lemmas.Option.{get_or_from_slice_get, slice_get_within}
use Rattle.metric_catalogue.specs.Sound.{IsSound, IsSoundInstrument}
use Rattle.metric_contents.specs.declared.contents.Contents.{Contents}
use Rattle.metric_contents.specs.declared.contents.Instrument.{Instrument}
use Rattle.metric_contents.specs.declared.contents.Meter.{Meter}
use Rattle.metric_views.specs.declared.config.Config.{Config}
use Rattle.metric_views.specs.declared.config.Reader.{Reader}
use Rattle.metric_views.specs.declared.config.Settings.{Settings}
use Rattle.metric_views.specs.declared.stream.Fill.{Fill}
use Rattle.metric_views.specs.declared.stream.Fill.TheVariants.{Kept}
use Rattle.metric_views.specs.declared.stream.Stream.{Stream}
use Rattle.metric_views.specs.Streams.{fill_at, fill_with, settings_at}
use Rattle.metric_resolve.specs.Applying.{meter_at}
use Rattle.metric_resolve.specs.Collisions.{Identity, identity_of, identity_with}
use Rattle.metric_resolve.specs.Laws.{IsOwn}
use Rattle.metric_resolve.specs.Resolved.{streams_of}
use Rattle.metric_resolve.proofs.Fills.{known_fill}
use Rattle.metric_resolve.proofs.StreamLaws.{streams_exact}
use Rattle.metric_check.proofs.Walks.{there}

pub in_list : {X : Type 0} (xs : List X) (k : ℕ) (x : X) → slice_get xs k ≡ Some x → Contains xs x
in_list xs k x at = subst (Contains xs) (get_or_from_slice_get xs k x x at) (Contains-get_or xs k x (slice_get_within xs k x at))

own_stream : (contents : Contents) (config : Config) (k : ℕ) (stream : Stream) → slice_get (streams_of contents config) k ≡ Some stream → IsOwn contents config stream
own_stream contents config k stream at = (streams_exact contents config stream).0 (in_list (streams_of contents config) k stream at)

filled_reader : (contents : Contents) (config : Config) (reader instrument : ℕ) (view : Option ℕ) (filled : Fill)
    → fill_at contents config reader instrument view ≡ Some filled → reader < length config.readers
filled_reader contents config reader instrument view filled e =
    by (slice_get config.readers reader) (slice_get contents.instruments instrument) (settings_at config.views view) refl e
  where
    by : (r : Option Reader) (i : Option Instrument) (o : Option Settings) → slice_get config.readers reader ≡ r → fill_with reader instrument view r i o ≡ Some filled → reader < length config.readers
    by (Some r) i o at e = slice_get_within config.readers reader r at
    by None i o at e = absurd cc

-- the reader of a stream is there
pub known_reader : (contents : Contents) (config : Config) (k : ℕ) (stream : Stream) → slice_get (streams_of contents config) k ≡ Some stream → stream.reader < length config.readers
known_reader contents config k stream at =
    let own = own_stream contents config k stream at in
    filled_reader contents config stream.reader stream.instrument stream.view (Kept stream) own.filled

-- the instrument of a stream is there
pub known_instrument : (contents : Contents) (config : Config) (k : ℕ) (stream : Stream) → slice_get (streams_of contents config) k ≡ Some stream
    → stream.instrument < length contents.instruments
known_instrument contents config k stream at =
    let own = own_stream contents config k stream at in
    known_fill contents config stream.reader stream.instrument stream.view (Kept stream) own.filled

-- An instrument that is there has a meter.
pub record HasMeter (contents : Contents) (number : ℕ) : Type 0 where
  pub meter : Meter
  pub is : meter_at contents number ≡ Some meter

pub known_meter : (contents : Contents) → IsSound contents → (number : ℕ) (instrument : Instrument) → slice_get contents.instruments number ≡ Some instrument → HasMeter contents number
known_meter contents sound number instrument at =
    let known = All-get_or (IsSoundInstrument (length contents.meters)) contents.instruments number instrument (slice_get_within contents.instruments number instrument at) sound.instruments.each in
    let same : get_or contents.instruments number instrument ≡ instrument = get_or_from_slice_get contents.instruments number instrument instrument at in
    let within : instrument.meter < length contents.meters = subst (λ (i : Instrument). i.meter < length contents.meters) same known.known in
    let found = there contents.meters instrument.meter within in
    record { meter = found.element; is = rw at found.at }

-- A stream has an identity, with its own reader.
pub record HasIdentity (contents : Contents) (stream : Stream) : Type 0 where
  pub identity : Identity
  pub is : identity_of contents stream ≡ Some identity
  pub reader_is : identity.reader ≡ stream.reader

pub known_identity : (contents : Contents) (config : Config) → IsSound contents → (k : ℕ) (stream : Stream) → slice_get (streams_of contents config) k ≡ Some stream → HasIdentity contents stream
unfolding identity_of
known_identity contents config sound k stream at =
    let instrument = there contents.instruments stream.instrument (known_instrument contents config k stream at) in
    let meter = known_meter contents sound stream.instrument instrument.element instrument.at in
    record { identity = identity_with stream meter.meter; is = rw (meter.is) refl; reader_is = refl }
