-- A first recording fits each stream, so that it can be refused only when out of memory.
use Rattle.std.proofs.Common.{◌≡◌, ◌∷◌, [], ◌≤ℤ◌, ◌<ℤ◌, ◌&&◌, ◌^◌, ◌-◌, ℕ, ℤ, pos, negsuc, Bool, true, false, List, refl, ap, ◌∙◌, arith}
use lib.Signed.{mag}
use Rattle.std.specs.Prelude.{◌<◌, if◌then◌else◌}
use Rattle.std.proofs.Math.Seq.{drop-nil}
use Rattle.std.proofs.lemmas.Int.{ints}
use Rattle.std.specs.List.{list_all}
use Rattle.metric_aggregate.specs.Aggregation.{Aggregation}
use Rattle.metric_aggregate.specs.Bounds.{in_range-within}
use Rattle.metric_aggregate.specs.Range.{in_range}
use Rattle.metric_history.specs.declared.entry.Entry.{Entry}
use Rattle.metric_facts.specs.declared.facts.Facts.{Facts}
use Rattle.metric_facts.specs.declared.facts.NumberedStream.{NumberedStream}
use Rattle.metric_facts.specs.Facts.{is_delta}
use Rattle.metric_history.specs.Aggregations.{stream_aggregation}
use Rattle.metric_history.specs.Points.{values}
use Rattle.metric_history.specs.Series.{belongs, place_of}
use Rattle.metric_history.specs.Windows.{fits_all, fits_stream, window}
use Rattle.metric_views.specs.declared.stream.Stream.{Stream}

-- an i64 by its size
pub low_of : (z : ℤ) → mag z < 2 ^ 63 → negsuc (2 ^ 63 - 1) ≤ℤ z
low_of (pos n) small = omega (arith, ints)
low_of (negsuc n) small = omega (arith, ints, small)

pub high_of : (z : ℤ) → mag z < 2 ^ 63 → z <ℤ pos (2 ^ 63)
high_of (pos n) small = omega (arith, ints, small)
high_of (negsuc n) small = omega (arith, ints)

-- one value that is an i64, or none, is in range
in_range_first : (a : Aggregation) (own : Bool) (entry : Entry) → negsuc (2 ^ 63 - 1) ≤ℤ entry.value → entry.value <ℤ pos (2 ^ 63)
    → in_range a (values (if own then entry ∷ [] else [])) ≡ true
in_range_first a true entry low high = in_range-within a (entry.value ∷ []) (omega (arith, ints, low)) (omega (arith, ints, high)) (omega arith)
in_range_first a false entry low high = in_range-within a [] (omega (arith, ints)) (omega (arith, ints)) (omega arith)

window_of_none : (delta : Bool) (mark : ℕ) → window delta mark [] ≡ []
window_of_none true mark = drop-nil mark
window_of_none false mark = refl

stream_fits : (s : Stream) (entry : Entry) → negsuc (2 ^ 63 - 1) ≤ℤ entry.value → entry.value <ℤ pos (2 ^ 63) → fits_stream s [] entry ≡ true
stream_fits s entry low high = in_range_first (stream_aggregation s) (belongs s (entry ∷ []) (place_of s (entry ∷ []) entry) entry) entry low high

fits_one : (facts : Facts) (mark : ℕ → ℕ) (entry : Entry) (s : NumberedStream) → negsuc (2 ^ 63 - 1) ≤ℤ entry.value → entry.value <ℤ pos (2 ^ 63)
    → fits_stream s.stream (window (is_delta facts s.stream.reader) (mark s.stream.reader) []) entry ≡ true
fits_one facts mark entry s low high =
    ap (λ (w : List Entry). fits_stream s.stream w entry) (window_of_none (is_delta facts s.stream.reader) (mark s.stream.reader)) ∙ stream_fits s.stream entry low high

fits_each : (facts : Facts) (mark : ℕ → ℕ) (entry : Entry) → negsuc (2 ^ 63 - 1) ≤ℤ entry.value → entry.value <ℤ pos (2 ^ 63) → (streams : List NumberedStream)
    → list_all (λ (s : NumberedStream). fits_stream s.stream (window (is_delta facts s.stream.reader) (mark s.stream.reader) []) entry) streams ≡ true
fits_each facts mark entry low high [] = refl
fits_each facts mark entry low high (s ∷ streams) =
    ap (λ (b : Bool). b && list_all (λ (t : NumberedStream). fits_stream t.stream (window (is_delta facts t.stream.reader) (mark t.stream.reader) []) entry) streams) (fits_one facts mark entry s low high)
    ∙ fits_each facts mark entry low high streams

pub first_fits : (facts : Facts) (mark : ℕ → ℕ) (entry : Entry) → negsuc (2 ^ 63 - 1) ≤ℤ entry.value → entry.value <ℤ pos (2 ^ 63) → fits_all facts mark [] entry ≡ true
first_fits facts mark entry low high = fits_each facts mark entry low high facts.streams
