-- The streams are exactly what views give, in order.
use Rattle.std.proofs.Common.{◌≡◌, ℕ, ◌<◌, map, List, [], ◌∷◌, length, All, AllPairs, Contains, Option, Some, None, refl, sym, ap, ◌∙◌, inl, inr}
use Rattle.std.specs.Prelude.{option_and_then, slice_get}
use Rattle.std.proofs.lemmas.List.Elements.{All-contains, All-contains_itself, All-nil, All-weaker}
use Rattle.std.proofs.lemmas.Option.{slice_get_within}
use Rattle.metric_contents.specs.declared.contents.Contents.{Contents}
use Rattle.metric_contents.specs.declared.contents.Instrument.{Instrument}
use Rattle.metric_views.specs.declared.config.Config.{Config}
use Rattle.metric_views.specs.declared.config.Reader.{Reader}
use Rattle.metric_views.specs.declared.config.Settings.{Settings}
use Rattle.metric_views.specs.declared.stream.Fill.{Fill}
use Rattle.metric_views.specs.declared.stream.Fill.TheVariants.{Kept}
use Rattle.metric_views.specs.declared.stream.Stream.{Stream}
use Rattle.metric_views.specs.Streams.{fill_at, fill_with, settings_at}
use Rattle.metric_resolve.specs.Applying.{all_instruments, all_readers, applies, applying, or_default, views_for}
use Rattle.metric_resolve.specs.Laws.{IsBefore, IsOwn, Precedes}
use Rattle.metric_resolve.specs.Resolved.{kept, stream_at, streams_of, streams_of_instrument, streams_of_reader}
use Rattle.metric_resolve.proofs.Bounds.{All-flat_map, IsOf, stream_at-is}
use Rattle.metric_resolve.proofs.Fills.{known_fill}
use Rattle.metric_resolve.proofs.Lists.{Contains-filter_map, Contains-flat_map, Contains-range}
use Rattle.metric_resolve.proofs.Ordered.{All-given, AllPairs-from_Ordered, Ordered, Ordered-given, Ordered-passing, Ordered-pieces}

-- a stream with the numbers of what it was made for is its own
own_of : (contents : Contents) (config : Config) (reader instrument : ℕ) (view : Option ℕ) (stream : Stream)
    → Contains (views_for contents config reader instrument) view → IsOf contents config reader instrument view stream → IsOwn contents config stream
own_of contents config reader instrument view stream seen of = record {
  seen = rw (of.reader_is, of.instrument_is, of.view_is) seen;
  filled = (λ j. fill_at contents config (of.reader_is j) (of.instrument_is j) (of.view_is j)) ∙ of.filled;
}

all_own : (contents : Contents) (config : Config) → All (IsOwn contents config) (streams_of contents config)
unfolding streams_of streams_of_reader streams_of_instrument
all_own contents config =
    All-flat_map (IsOwn contents config) (streams_of_reader contents config) (λ reader.
    All-flat_map (IsOwn contents config) (streams_of_instrument contents config reader) (λ instrument.
    All-given (Contains (views_for contents config reader instrument)) (IsOwn contents config) (stream_at contents config reader instrument)
    (λ view stream seen e. own_of contents config reader instrument view stream seen (stream_at-is contents config reader instrument view stream e))
    (views_for contents config reader instrument) (All-contains_itself (views_for contents config reader instrument))) (all_instruments contents)) (all_readers config)

known_reader : (contents : Contents) (config : Config) (reader instrument : ℕ) (view : Option ℕ) (filled : Fill)
    → fill_at contents config reader instrument view ≡ Some filled → reader < length config.readers
known_reader contents config reader instrument view filled e =
    by (slice_get config.readers reader) (slice_get contents.instruments instrument) (settings_at config.views view) refl e
  where
    by : (r : Option Reader) (i : Option Instrument) (o : Option Settings) → slice_get config.readers reader ≡ r → fill_with reader instrument view r i o ≡ Some filled → reader < length config.readers
    by (Some r) i o at e = slice_get_within config.readers reader r at
    by None i o at e = absurd cc

all_streams : (contents : Contents) (config : Config) (stream : Stream) → IsOwn contents config stream → Contains (streams_of contents config) stream
unfolding streams_of streams_of_reader streams_of_instrument stream_at
all_streams contents config stream own =
    let reader = stream.reader in
    let instrument = stream.instrument in
    let within = known_reader contents config reader instrument stream.view (Kept stream) own.filled in
    let inside = known_fill contents config reader instrument stream.view (Kept stream) own.filled in
    Contains-flat_map (streams_of_reader contents config) (all_readers config) reader stream (Contains-range (length config.readers) reader within)
    (Contains-flat_map (streams_of_instrument contents config reader) (all_instruments contents) instrument stream (Contains-range (length contents.instruments) instrument inside)
    (Contains-filter_map (stream_at contents config reader instrument) (views_for contents config reader instrument) stream.view stream own.seen (ap (option_and_then kept) own.filled)))

pub streams_exact : (contents : Contents) (config : Config) (stream : Stream)
    → (Contains (streams_of contents config) stream → IsOwn contents config stream) × (IsOwn contents config stream → Contains (streams_of contents config) stream)
streams_exact contents config stream =
    (λ h. All-contains (IsOwn contents config) (streams_of contents config) stream (all_own contents config) h, all_streams contents config stream)

Ordered-or_default : (views : List ℕ) → Ordered IsBefore (map (λ v. Some v) views) → Ordered IsBefore (or_default views)
Ordered-or_default [] o = (All-nil (IsBefore None), tt)
Ordered-or_default (v ∷ vs) o = o

Ordered-views : (contents : Contents) (config : Config) (reader instrument : ℕ) → Ordered IsBefore (views_for contents config reader instrument)
Ordered-views contents config reader instrument =
    Ordered-or_default (applying contents config reader instrument)
    (Ordered-passing IsBefore (λ v. Some v) (λ x y less. less) (applies contents config reader instrument) (length config.views))

Ordered-instrument : (contents : Contents) (config : Config) (reader instrument : ℕ) → Ordered Precedes (streams_of_instrument contents config reader instrument)
unfolding streams_of_instrument
Ordered-instrument contents config reader instrument =
    Ordered-given IsBefore Precedes (stream_at contents config reader instrument)
    (λ v w s t before e f.
    let one = stream_at-is contents config reader instrument v s e in
    let two = stream_at-is contents config reader instrument w t f in
    inr (one.reader_is ∙ sym two.reader_is, inr (one.instrument_is ∙ sym two.instrument_is, rw (one.view_is, two.view_is) before)))
    (views_for contents config reader instrument) (Ordered-views contents config reader instrument)

-- the numbers of the streams of an instrument
numbers_of : (contents : Contents) (config : Config) (reader instrument : ℕ)
    → All (λ s. (s.reader ≡ reader) × (s.instrument ≡ instrument)) (streams_of_instrument contents config reader instrument)
unfolding streams_of_instrument
numbers_of contents config reader instrument =
    All-given (λ v. Unit {0}) (λ s. (s.reader ≡ reader) × (s.instrument ≡ instrument)) (stream_at contents config reader instrument)
    (λ v s known e. let of = stream_at-is contents config reader instrument v s e in (of.reader_is, of.instrument_is))
    (views_for contents config reader instrument) (All-weaker (Contains (views_for contents config reader instrument)) (λ v. Unit {0}) (λ v h. tt)
    (views_for contents config reader instrument) (All-contains_itself (views_for contents config reader instrument)))

Ordered-reader : (contents : Contents) (config : Config) (reader : ℕ) → Ordered Precedes (streams_of_reader contents config reader)
unfolding streams_of_reader
Ordered-reader contents config reader =
    Ordered-pieces Precedes (λ s. s.instrument) (λ s. s.reader ≡ reader) (streams_of_instrument contents config reader)
    (λ s t one two less. inr (one ∙ sym two, inl less)) (numbers_of contents config reader) (Ordered-instrument contents config reader) 0 (length contents.instruments)

readers_of : (contents : Contents) (config : Config) (reader : ℕ) → All (λ s. Unit {0} × (s.reader ≡ reader)) (streams_of_reader contents config reader)
unfolding streams_of_reader
readers_of contents config reader =
    All-flat_map (λ s. Unit {0} × (s.reader ≡ reader)) (streams_of_instrument contents config reader)
    (λ instrument. All-weaker (λ s. (s.reader ≡ reader) × (s.instrument ≡ instrument)) (λ s. Unit {0} × (s.reader ≡ reader)) (λ s h. (tt, h.0)) _ (numbers_of contents config reader instrument))
    (all_instruments contents)

pub streams_ordered : (contents : Contents) (config : Config) → AllPairs Precedes (streams_of contents config)
unfolding streams_of
streams_ordered contents config =
    AllPairs-from_Ordered Precedes (streams_of contents config)
    (Ordered-pieces Precedes (λ s. s.reader) (λ s. Unit {0}) (streams_of_reader contents config) (λ s t one two less. inl less) (readers_of contents config) (Ordered-reader contents config) 0 (length config.readers))
