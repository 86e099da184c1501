-- What looks like a mistake in what readers collect.
use Rattle.std.specs.Prelude.{◌==◌, ◌&&◌, ℕ, Bool, true, false, not, List, [], ◌++◌, length}
use Rattle.std.specs.List.{flat_map, list_any, range_with_len}
use Rattle.metric_contents.specs.declared.contents.Contents.{Contents}
use Rattle.metric_contents.specs.declared.contents.Kind.{Kind}
use Rattle.metric_contents.specs.declared.contents.Kind.TheVariants.{UpDownCounter, Gauge}
use Rattle.metric_views.specs.declared.choices.Temporality.{Temporality}
use Rattle.metric_views.specs.declared.choices.Temporality.TheVariants.{Delta, Cumulative}
use Rattle.metric_views.specs.declared.config.Config.{Config}
use Rattle.metric_views.specs.declared.stream.Stream.{Stream}
use Rattle.metric_views.specs.declared.stream.StreamAggregation.{StreamAggregation}
use Rattle.metric_views.specs.declared.stream.StreamAggregation.TheVariants as aggregations
use Rattle.metric_views.specs.Selection.{is_kind}
use Rattle.metric_lint.specs.declared.remark.Remark.{Remark}
use Rattle.metric_lint.specs.declared.remark.Remark.TheVariants as remarks
use Rattle.metric_lint.specs.When.{when}

abbrev pub is_histogram : StreamAggregation → Bool
is_histogram (aggregations.Histogram boundaries) = true
is_histogram aggregations.Sum = false
is_histogram aggregations.LastValue = false

abbrev pub is_delta : Temporality → Bool
is_delta Delta = true
is_delta Cumulative = false

-- a stream of the reader and the kind is a delta, and no distribution
abbrev pub is_level_delta : ℕ → Kind → Stream → Bool
is_level_delta reader kind stream =
    stream.reader == reader && is_kind kind stream.kind && is_delta stream.temporality
    && not (is_histogram stream.aggregation)

abbrev pub has_level_delta : List Stream → ℕ → Kind → Bool
has_level_delta streams reader kind = list_any (is_level_delta reader kind) streams

-- the reader reports changes of what has a level, of some instrument of the kind
abbrev pub level_remarks : List Stream → ℕ → Kind → List Remark
level_remarks streams reader kind =
    when (has_level_delta streams reader kind) (remarks.LevelDelta reader kind)

-- a reader that has no stream though there are instruments, and what it reports changes of
abbrev pub reader_remarks : Bool → List Stream → ℕ → List Remark
reader_remarks has_instruments streams reader =
    when (has_instruments && not (list_any (λ stream. stream.reader == reader) streams))
    (remarks.NoStream reader)
    ++ (level_remarks streams reader UpDownCounter ++ level_remarks streams reader Gauge)

-- each reader, and that there is none
abbrev pub collected_remarks : Contents → Config → List Stream → List Remark
collected_remarks contents config streams =
    flat_map (reader_remarks (not (length contents.instruments == 0)) streams)
    (range_with_len 0 (length config.readers))
    ++ when (length config.readers == 0) remarks.NoReader
