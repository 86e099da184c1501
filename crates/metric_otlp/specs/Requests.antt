-- Requests: messages `ExportMetricsServiceRequest`.
use Rattle.std.specs.Prelude.{◌≡◌, ◌==◌, ℕ, if◌then◌else◌, List, [], ◌++◌, length}
use Rattle.std.specs.List.{flat_map}
use Rattle.metric_contents.specs.Attributes.{given_by_owned}
use Rattle.metric_contents.specs.declared.attributes.OwnedAttr.{OwnedAttr}
use Rattle.metric_contents.specs.declared.contents.Contents.{Contents}
use Rattle.metric_views.specs.declared.stream.Stream.{Stream}
use Rattle.metric_history.specs.declared.batch.Batch.{Batch}
use Rattle.metric_wire.specs.Wire.{block}
use Rattle.metric_otlp.specs.Reports.{Report, reports_of}
use Rattle.metric_otlp.specs.Scopes.{scope_field}
use Rattle.metric_otlp.specs.Series.{attribute_field}

-- the attributes of a resource
abbrev pub resource_message : List OwnedAttr → List ℕ
resource_message resource = flat_map (λ attribute. attribute_field 1 (given_by_owned attribute)) resource

-- the metrics of a resource, of some scopes
abbrev pub reported_message : List OwnedAttr → List Report → List ℕ
reported_message resource reports =
    block 1 (resource_message resource) ++ flat_map scope_field reports

-- the request of what is reported, no bytes of nothing
abbrev pub report_request : List OwnedAttr → List Report → List ℕ
report_request resource reports =
    if length reports == 0 then [] else block 1 (reported_message resource reports)

-- # request (OTLP, collector) [request, requests]
-- A message `ExportMetricsServiceRequest` of the batches of a collection, or no bytes; that of several
-- collections is theirs one after the other.
abbrev pub request : List OwnedAttr → Contents → List Stream → List Batch → List ℕ
request resource catalogue streams batches =
    report_request resource (reports_of catalogue streams batches)

-- the request of several collections: a message is its fields one after the other
abbrev pub requests : List OwnedAttr → Contents → List Stream → List (List Batch) → List ℕ
requests resource catalogue streams collections =
    flat_map (request resource catalogue streams) collections

-- the requests of two lists of collections one after the other are the request of both
abbrev pub RequestsJoin : Type 0
RequestsJoin = (resource : List OwnedAttr) (catalogue : Contents) (streams : List Stream)
    (collections others : List (List Batch))
    → requests resource catalogue streams (collections ++ others)
    ≡ requests resource catalogue streams collections ++ requests resource catalogue streams others
