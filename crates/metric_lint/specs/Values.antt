-- What looks like a mistake in the values of instruments and the buckets of streams.
use Rattle.std.specs.Prelude.{◌==◌, ◌||◌, ◌&&◌, ◌*ℤ◌, ℕ, ℤ, pos, Bool, true, false, not, List, []}
use Rattle.std.specs.Prelude.{◌++◌, Option, Some, None, count_by, int_le, int_lt, length, nat_lt, slice_get}
use Rattle.std.specs.List.{enumerate_from, flat_map, list_all, list_any}
use Rattle.std.specs.Ordering.{int_eq}
use Rattle.metric_contents.specs.declared.contents.Contents.{Contents}
use Rattle.metric_contents.specs.declared.contents.Instrument.{Instrument}
use Rattle.metric_contents.specs.declared.contents.Kind.{Kind}
use Rattle.metric_contents.specs.declared.contents.Kind.TheVariants.{Counter, UpDownCounter, Histogram}
use Rattle.metric_contents.specs.declared.contents.Kind.TheVariants.{Gauge}
use Rattle.metric_views.specs.declared.stream.Stream.{Stream}
use Rattle.metric_views.specs.declared.stream.StreamAggregation.{StreamAggregation}
use Rattle.metric_views.specs.declared.stream.StreamAggregation.TheVariants as aggregations
use Rattle.metric_lint.specs.declared.remark.Remark.{Remark}
use Rattle.metric_lint.specs.declared.remark.Remark.TheVariants as remarks
use Rattle.metric_lint.specs.When.{when}

-- combinations are listed, and none
abbrev pub allows_nothing : Option (List (List ℕ)) → Bool
allows_nothing None = false
allows_nothing (Some rows) = length rows == 0

-- the values of the kind are added up
abbrev pub is_sum : Kind → Bool
is_sum Counter = true
is_sum UpDownCounter = true
is_sum Histogram = false
is_sum Gauge = false

-- there is one value, which tells nothing: of a sum only 0, since another one counts
abbrev pub has_one_value : Instrument → Bool
has_one_value instrument =
    int_eq instrument.lo instrument.hi
    && (int_eq instrument.lo (pos 0) || not (is_sum instrument.kind))

-- the values of an instrument
abbrev pub value_remarks : Instrument → ℕ → List Remark
value_remarks instrument number =
    when (allows_nothing instrument.allowed) (remarks.NothingAllowed number)
    ++ when (has_one_value instrument) (remarks.OneValue number)

-- a boundary is below each value, or above or at each
abbrev pub is_outside : ℤ → ℤ → ℤ → Bool
is_outside lo hi boundary = int_lt boundary lo || int_le hi boundary

-- there are values and boundaries, and each boundary is outside
abbrev pub is_one_bucket : ℤ → ℤ → List ℤ → Bool
is_one_bucket lo hi boundaries =
    int_lt lo hi && (not (length boundaries == 0) && list_all (is_outside lo hi) boundaries)

-- more of them are outside than are not
abbrev pub are_most_outside : ℤ → ℤ → List ℤ → Bool
are_most_outside lo hi boundaries =
    nat_lt (count_by (λ boundary. not (is_outside lo hi boundary)) boundaries)
    (count_by (is_outside lo hi) boundaries)

-- one is above 0, and the greatest value is a hundred times each, or more
abbrev pub ends_before : ℤ → List ℤ → Bool
ends_before hi boundaries =
    list_any (λ boundary. int_lt (pos 0) boundary) boundaries
    && list_all (λ boundary. int_le (boundary *ℤ pos 100) hi) boundaries

-- they look like numbers of another unit
abbrev pub look_far : ℤ → ℤ → List ℤ → Bool
look_far lo hi boundaries = are_most_outside lo hi boundaries || ends_before hi boundaries

-- there are several values, and some boundary tells them apart
abbrev pub tell_apart : ℤ → ℤ → List ℤ → Bool
tell_apart lo hi boundaries = int_lt lo hi && not (list_all (is_outside lo hi) boundaries)

-- they do, and look like that
unfoldable pub are_far : ℤ → ℤ → List ℤ → Bool
are_far lo hi boundaries = tell_apart lo hi boundaries && look_far lo hi boundaries

abbrev pub is_one_bucket_of : Option Instrument → StreamAggregation → Bool
is_one_bucket_of None aggregation = false
is_one_bucket_of (Some instrument) aggregations.Sum = false
is_one_bucket_of (Some instrument) aggregations.LastValue = false
is_one_bucket_of (Some instrument) (aggregations.Histogram boundaries) =
    is_one_bucket instrument.lo instrument.hi boundaries

abbrev pub are_far_of : Option Instrument → StreamAggregation → Bool
are_far_of None aggregation = false
are_far_of (Some instrument) aggregations.Sum = false
are_far_of (Some instrument) aggregations.LastValue = false
are_far_of (Some instrument) (aggregations.Histogram boundaries) =
    are_far instrument.lo instrument.hi boundaries

-- one bucket of the stream takes each of several values
abbrev pub tells_nothing : Contents → Stream → Bool
tells_nothing contents stream =
    is_one_bucket_of (slice_get contents.instruments stream.instrument) stream.aggregation

-- its boundaries are far from the values
abbrev pub has_far : Contents → Stream → Bool
has_far contents stream =
    are_far_of (slice_get contents.instruments stream.instrument) stream.aggregation

abbrev pub stream_remark : Contents → ℕ × Stream → List Remark
stream_remark contents stream =
    when (tells_nothing contents stream.1) (remarks.OneBucket stream.0)
    ++ when (has_far contents stream.1) (remarks.FarBoundaries stream.0)

abbrev pub stream_remarks : Contents → List Stream → List Remark
stream_remarks contents streams = flat_map (stream_remark contents) (enumerate_from 0 streams)
