-- For which recordings the table of a stream stands, whose series are found by hash or by rank.
use Rattle.metric_dense.specs.DenseTables.{DenseTableValue, dense_tables}
use Rattle.metric_series.specs.declared.either.Either.{Either}
use Rattle.metric_series.specs.declared.table.Table as table
use Rattle.metric_series.specs.Eithers.{either}
use Rattle.metric_series.specs.SeriesTables.{SeriesValue, series_tables}

-- the table of a stream, and what is known of it
abbrev pub StreamSeriesValue : Type 0
StreamSeriesValue = Either SeriesValue DenseTableValue

abbrev pub stream_series : table.Ghosts StreamSeriesValue
stream_series = either series_tables dense_tables
