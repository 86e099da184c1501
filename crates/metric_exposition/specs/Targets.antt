-- What a page tells of what it comes from.
use Rattle.std.specs.Prelude.{ℕ, Bool, true, false, List, [], ◌∷◌, ◌++◌, codes, map}
use Rattle.metric_contents.specs.Attributes.{given_by_owned}
use Rattle.metric_contents.specs.declared.attributes.OwnedAttr.{OwnedAttr}
use Rattle.metric_family.specs.Labels.{attribute_label}
use Rattle.metric_exposition.specs.Dialects.{is_open_metrics}
use Rattle.metric_exposition.specs.Headers.{described}
use Rattle.metric_exposition.specs.LabelTexts.{labels_text}
use Rattle.metric_exposition.specs.Samples.{sample}
use Rattle.metric_exposition.specs.declared.dialect.Dialect.{Dialect}

-- the labels of a resource
abbrev pub resource_labels : List OwnedAttr → List ℕ
resource_labels resource =
    labels_text (map (λ attribute. attribute_label (given_by_owned attribute)) resource)

-- OpenMetrics has a type for it
abbrev pub target_header : Bool → List ℕ
target_header true =
    described true (codes "target") [] (codes "Target metadata") (codes "info")
target_header false =
    described false (codes "target_info") [] (codes "Target metadata") (codes "gauge")

-- # target (OpenTelemetry, Prometheus compatibility)
-- The attributes of a resource as labels of `target_info`.
abbrev pub target_text : Dialect → List OwnedAttr → List ℕ
target_text dialect [] = []
target_text dialect (attribute ∷ resource) =
    target_header (is_open_metrics dialect)
    ++ sample (codes "target_info") [] (resource_labels (attribute ∷ resource)) (codes "1")
