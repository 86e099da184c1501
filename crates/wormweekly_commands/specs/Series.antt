-- How many series streams may have.
use Rattle.std.specs.Prelude.{ℕ, List, map, min, slice_index_or}
use Rattle.metric_contents.specs.declared.contents.Contents.{Contents}
use Rattle.metric_views.specs.declared.stream.Stream.{Stream}
use Rattle.metric_resolve.specs.Applying.{all_instruments}
use Rattle.metric_bounds.specs.Amounts.{total_of}
use Rattle.metric_bounds.specs.Sets.{sets_of}

-- # how many series a stream may have (profile)
-- Its limit apart: as many as there are sets of the keys that it keeps, and as often as its
-- instrument may be recorded.
abbrev pub series_of : Contents → List ℕ → Stream → ℕ
series_of contents totals stream =
    min (sets_of contents stream) (slice_index_or totals stream.instrument 0)

-- the same of each stream, by the total of each instrument
abbrev pub all_series : Contents → List Stream → List ℕ
all_series contents streams =
    map (series_of contents (map (total_of contents) (all_instruments contents))) streams
