-- Requests as lines of JSON.
use Rattle.std.specs.Prelude.{◌==◌, ℕ, if◌then◌else◌, List, [], ◌∷◌, ◌++◌, codes, length}
use Rattle.metric_text.specs.Lists.{joined}
use Rattle.metric_contents.specs.Attributes.{given_by_owned}
use Rattle.metric_contents.specs.declared.attributes.OwnedAttr.{OwnedAttr}
use Rattle.metric_contents.specs.declared.contents.Contents.{Contents}
use Rattle.metric_contents.specs.declared.contents.Key.{Key}
use Rattle.metric_contents.specs.declared.contents.Meter.{Meter}
use Rattle.metric_views.specs.declared.stream.Stream.{Stream}
use Rattle.metric_views.specs.declared.stream.StreamAggregation.{StreamAggregation}
use Rattle.metric_views.specs.declared.stream.StreamAggregation.TheVariants.{Sum, LastValue, Histogram}
use Rattle.metric_history.specs.declared.batch.Batch.{Batch}
use Rattle.metric_history.specs.declared.batch.Point.{Point}
use Rattle.metric_otlp.specs.Json.{enum_member, flag_member, items_member, object, object_member}
use Rattle.metric_otlp.specs.Json.{some_text_member}
use Rattle.metric_otlp.specs.Metrics.{bounds_of, covers, rises}
use Rattle.metric_otlp.specs.PointsJson.{point_json}
use Rattle.metric_otlp.specs.Reports.{Report, ReportedStream, reports_of}
use Rattle.metric_otlp.specs.SeriesJson.{attribute_json}

-- the points of a stream
abbrev pub points_json : List Key → Batch → Stream → List Point → List ℕ
points_json keys batch stream points =
    joined (point_json keys stream.kept (bounds_of stream.aggregation) batch) points

-- points, which are written already, and what they cover and whether they only rise
unfoldable pub covered_json : List ℕ → Stream → List ℕ
covered_json points stream = object (
    items_member (codes "dataPoints") points
    ∷ enum_member (codes "aggregationTemporality") (covers stream.temporality stream.aggregation)
    ∷ flag_member (codes "isMonotonic") (rises stream.kind stream.aggregation) ∷ [])

-- the points of a stream with that
abbrev pub data_json : List Key → Batch → Stream → List Point → List ℕ
data_json keys batch stream points = covered_json (points_json keys batch stream points) stream

-- the member of a metric that has its points
abbrev pub data_name : StreamAggregation → List ℕ
data_name LastValue = codes "gauge"
data_name Sum = codes "sum"
data_name (Histogram boundaries) = codes "histogram"

-- a stream's metric
unfoldable pub metric_json : ReportedStream → List ℕ
metric_json reported = object (
    some_text_member (codes "name") reported.stream.name
    ∷ some_text_member (codes "description") reported.stream.description
    ∷ some_text_member (codes "unit") reported.stream.unit
    ∷ object_member (data_name reported.stream.aggregation)
    (data_json reported.keys reported.batch reported.stream reported.points) ∷ [])

-- a meter's name and version
unfoldable pub meter_json : Meter → List ℕ
meter_json meter = object (
    some_text_member (codes "name") meter.name
    ∷ some_text_member (codes "version") meter.version ∷ [])

-- a scope with metrics, which are written already, and a schema URL
unfoldable pub scoped_json : List ℕ → List ℕ → List ℕ → List ℕ
scoped_json scope metrics schema_url = object (
    object_member (codes "scope") scope
    ∷ items_member (codes "metrics") metrics
    ∷ some_text_member (codes "schemaUrl") schema_url ∷ [])

-- the metrics of a meter
abbrev pub scope_json : Report → List ℕ
scope_json report =
    scoped_json (meter_json report.meter) (joined metric_json report.streams) report.meter.schema_url

-- the attributes of a resource
unfoldable pub resource_json : List OwnedAttr → List ℕ
resource_json resource = object (
    items_member (codes "attributes")
    (joined (λ attribute. attribute_json (given_by_owned attribute)) resource) ∷ [])

-- the metrics of a resource, of some scopes
unfoldable pub reported_json : List OwnedAttr → List Report → List ℕ
reported_json resource reports = object (
    object_member (codes "resource") (resource_json resource)
    ∷ items_member (codes "scopeMetrics") (joined scope_json reports) ∷ [])

-- the request of what is reported
unfoldable pub request_json : List OwnedAttr → List Report → List ℕ
request_json resource reports =
    object (items_member (codes "resourceMetrics") (reported_json resource reports) ∷ [])

-- the same as a line, no line of nothing
abbrev pub report_line : List OwnedAttr → List Report → List ℕ
report_line resource reports =
    if length reports == 0 then [] else request_json resource reports ++ codes "\n"

-- # line (OTLP, JSON encoding)
-- The same request as a line of JSON.
abbrev pub line : List OwnedAttr → Contents → List Stream → List Batch → List ℕ
line resource catalogue streams batches = report_line resource (reports_of catalogue streams batches)
