-- How many streams there are, and that each is of its own numbers.
use Rattle.std.proofs.Common.{◌≡◌, ℕ, ◌+◌, ◌*◌, ◌<◌, ◌≤◌, Bool, true, false, cond, filter, List, [], ◌∷◌, length, All, Option, Some, None, refl, sym, ap, subst, arith, length-append}
use Rattle.std.specs.List.{cons_option, filter_map, flat_map}
use Rattle.std.specs.Prelude.{option_and_then, slice_get}
use Rattle.std.proofs.lemmas.List.Elements.{All-nil, All-cons, All-append}
use Rattle.std.proofs.lemmas.List.FromFn.{length-range_with_len}
use Rattle.std.proofs.lemmas.List.{length-map}
use Rattle.metric_contents.specs.declared.contents.Contents.{Contents}
use Rattle.metric_contents.specs.declared.contents.Instrument.{Instrument}
use Rattle.metric_views.specs.declared.config.Config.{Config}
use Rattle.metric_views.specs.declared.config.Reader.{Reader}
use Rattle.metric_views.specs.declared.config.Settings.{Settings}
use Rattle.metric_views.specs.declared.stream.Fill.{Fill}
use Rattle.metric_views.specs.declared.stream.Fill.TheVariants.{Kept}
use Rattle.metric_views.specs.declared.stream.Stream.{Stream}
use Rattle.metric_views.specs.declared.stream.StreamAggregation.{StreamAggregation}
use Rattle.metric_views.specs.Streams.{fill_at, fill_by, fill_with, kept_or_dropped, settings_at, stream_by, template_of, unless_unfit}
use Rattle.metric_resolve.specs.Applying.{all_instruments, all_readers, all_views, applies, or_default, views_for}
use Rattle.metric_resolve.specs.Resolved.{kept, stream_at, streams_of, streams_of_instrument, streams_of_reader}
use Rattle.metric_resolve.proofs.Fills.{known_fill}

-- pieces of at most so many
length-flat_map-le : {A : Type 0} (f : ℕ → List A) (most : ℕ) → ((x : ℕ) → length (f x) ≤ most) → (xs : List ℕ) → length (flat_map f xs) ≤ most * length xs
length-flat_map-le f most small [] = omega arith
length-flat_map-le f most small (x ∷ xs) =
    let rest = length-flat_map-le f most small xs in
    let first = small x in
    let len = length-append (f x) (flat_map f xs) in
    let room : most * length (x ∷ xs) ≡ most + most * length xs = omega arith in
    omega arith

length-filter-le : (p : ℕ → Bool) (xs : List ℕ) → length (filter p xs) ≤ length xs
length-filter-le p [] = omega arith
length-filter-le p (x ∷ xs) = by (p x) (length-filter-le p xs)
  where
    by : (b : Bool) → length (filter p xs) ≤ length xs → length (cond b (x ∷ filter p xs) (filter p xs)) ≤ length (x ∷ xs)
    by true few = omega arith
    by false few = omega arith

length-filter_map-le : {X A : Type 0} (h : X → Option A) (xs : List X) → length (filter_map h xs) ≤ length xs
length-filter_map-le {A = A} h [] = omega arith
length-filter_map-le {A = A} h (x ∷ xs) = by (h x) (length-filter_map-le h xs)
  where
    by : (o : Option A) → length (filter_map h xs) ≤ length xs → length (cons_option o (filter_map h xs)) ≤ length (x ∷ xs)
    by (Some y) few = omega arith
    by None few = omega arith

length-or_default : (views : List ℕ) (most : ℕ) → length views ≤ most → 1 ≤ most → length (or_default views) ≤ most
length-or_default [] most few some = omega arith
length-or_default (v ∷ vs) most few some = let same : length (or_default (v ∷ vs)) ≡ length (v ∷ vs) = length-map (v ∷ vs) (λ v. Some v) in omega arith

length-streams_of_instrument : (contents : Contents) (config : Config) → length config.views ≤ 256 → (reader instrument : ℕ) → length (streams_of_instrument contents config reader instrument) ≤ 256
unfolding streams_of_instrument
length-streams_of_instrument contents config few reader instrument =
    let kept_few = length-filter_map-le (stream_at contents config reader instrument) (views_for contents config reader instrument) in
    let views = length-filter-le (applies contents config reader instrument) (all_views config) in
    let all = length-range_with_len 0 (length config.views) in
    let defaults = length-or_default (filter (applies contents config reader instrument) (all_views config)) 256 (omega arith) (omega arith) in
    omega arith

length-streams_of_reader : (contents : Contents) (config : Config) → length config.views ≤ 256 → length contents.instruments ≤ 512 → (reader : ℕ) → length (streams_of_reader contents config reader) ≤ 131072
unfolding streams_of_reader
length-streams_of_reader contents config few many reader =
    let pieces = length-flat_map-le (streams_of_instrument contents config reader) 256 (length-streams_of_instrument contents config few reader) (all_instruments contents) in
    let all = length-range_with_len 0 (length contents.instruments) in
    omega arith

-- how many streams there are at most
pub length-streams_of : (contents : Contents) (config : Config) → length config.views ≤ 256 → length contents.instruments ≤ 512 → length config.readers ≤ 16 → length (streams_of contents config) ≤ 2097152
unfolding streams_of
length-streams_of contents config few many readers =
    let pieces = length-flat_map-le (streams_of_reader contents config) 131072 (length-streams_of_reader contents config few many) (all_readers config) in
    let all = length-range_with_len 0 (length config.readers) in
    omega arith

pub All-flat_map : {A : Type 0} (P : A → Type 0) (f : ℕ → List A) → ((x : ℕ) → All P (f x)) → (xs : List ℕ) → All P (flat_map f xs)
All-flat_map P f each [] = All-nil P
All-flat_map P f each (x ∷ xs) = All-append P (f x) (flat_map f xs) (each x) (All-flat_map P f each xs)

pub All-filter_map : {X A : Type 0} (P : A → Type 0) (h : X → Option A) → ((x : X) (y : A) → h x ≡ Some y → P y) → (xs : List X) → All P (filter_map h xs)
All-filter_map P h each [] = All-nil P
All-filter_map {A = A} P h each (x ∷ xs) = by (h x) refl (All-filter_map P h each xs)
  where
    by : (o : Option A) → h x ≡ o → All P (filter_map h xs) → All P (cons_option o (filter_map h xs))
    by (Some y) e rest = All-cons P y (filter_map h xs) (each x y e) rest
    by None e rest = rest

-- A stream has the numbers of what it was made for.
pub record IsOf (contents : Contents) (config : Config) (reader instrument : ℕ) (view : Option ℕ) (stream : Stream) : Type 0 where
  pub reader_is : stream.reader ≡ reader
  pub instrument_is : stream.instrument ≡ instrument
  pub view_is : stream.view ≡ view
  pub filled : fill_at contents config reader instrument view ≡ Some (Kept stream)

-- the aggregation of a stream that is kept
kept_with : {P : Type 0} (unfit : Bool) (make : StreamAggregation → Stream) (o : Option StreamAggregation) (stream : Stream)
    → kept (unless_unfit unfit (kept_or_dropped make o)) ≡ Some stream
    → ((a : StreamAggregation) → make a ≡ stream → unless_unfit unfit (kept_or_dropped make o) ≡ Kept stream → P) → P
kept_with true make o stream e next = absurd cc
kept_with false make None stream e next = absurd cc
kept_with false make (Some a) stream e next = let same : make a ≡ stream = cc in next a same (ap Kept same)

pub stream_at-is : (contents : Contents) (config : Config) (reader instrument : ℕ) (view : Option ℕ) (stream : Stream)
    → stream_at contents config reader instrument view ≡ Some stream → IsOf contents config reader instrument view stream
unfolding stream_at fill_by stream_by template_of
stream_at-is contents config reader instrument view stream e =
    let parts = by (slice_get config.readers reader) (slice_get contents.instruments instrument) (settings_at config.views view) e in
    record { reader_is = parts.0; instrument_is = parts.1; view_is = parts.2; filled = parts.3 }
  where
    by : (r : Option Reader) (i : Option Instrument) (o : Option Settings) → option_and_then kept (fill_with reader instrument view r i o) ≡ Some stream
        → (stream.reader ≡ reader) × (stream.instrument ≡ instrument) × (stream.view ≡ view) × (fill_with reader instrument view r i o ≡ Some (Kept stream))
    by (Some r) (Some i) (Some s) e =
        kept_with _ _ _ stream e (λ a same whole. (sym (ap (λ (s : Stream). s.reader) same), sym (ap (λ (s : Stream). s.instrument) same), sym (ap (λ (s : Stream). s.view) same), ap (λ (f : Fill). Some f) whole))
    by (Some r) (Some i) None e = absurd cc
    by (Some r) None o e = absurd cc
    by None i o e = absurd cc

-- each stream is of an instrument that is there
pub known_streams : (contents : Contents) (config : Config) → All (λ stream. stream.instrument < length contents.instruments) (streams_of contents config)
unfolding streams_of streams_of_reader streams_of_instrument
known_streams contents config =
    All-flat_map IsKnown (streams_of_reader contents config) (λ reader.
    All-flat_map IsKnown (streams_of_instrument contents config reader) (λ instrument.
    All-filter_map IsKnown (stream_at contents config reader instrument) (λ view stream e.
    let of = stream_at-is contents config reader instrument view stream e in
    subst (λ (n : ℕ). n < length contents.instruments) (sym of.instrument_is) (known_fill contents config reader instrument view (Kept stream) of.filled))
    (views_for contents config reader instrument)) (all_instruments contents)) (all_readers config)
  where
    IsKnown : Stream → Type 0
    IsKnown stream = stream.instrument < length contents.instruments
