-- The lines before the samples of a family.
use Rattle.std.specs.Prelude.{ℕ, Bool, true, false, ◌==◌, if◌then◌else◌, List, [], ◌∷◌, ◌++◌, codes, length}
use Rattle.std.specs.List.{concat}
use Rattle.metric_views.specs.declared.stream.Stream.{Stream}
use Rattle.metric_family.specs.declared.metric_type.MetricType.{MetricType}
use Rattle.metric_family.specs.declared.metric_type.MetricType.TheVariants.{Counter, Gauge}
use Rattle.metric_family.specs.declared.metric_type.MetricType.TheVariants.{Histogram}
use Rattle.metric_family.specs.Families.{type_name, type_of, unit_text}
use Rattle.metric_exposition.specs.Dialects.{is_open_metrics}
use Rattle.metric_exposition.specs.LabelTexts.{escaped}
use Rattle.metric_exposition.specs.declared.dialect.Dialect.{Dialect}

-- the lines of help and of type; in OpenMetrics quotes are escaped
unfoldable pub described : Bool → List ℕ → List ℕ → List ℕ → List ℕ → List ℕ
described quotes family suffix help type = concat (
    codes "# HELP " ∷ family ∷ suffix ∷ codes " " ∷ escaped quotes help
    ∷ codes "\n# TYPE " ∷ family ∷ suffix ∷ codes " " ∷ type ∷ codes "\n" ∷ [])

-- the line of a unit, where there is one
unfoldable pub unit_line : List ℕ → List ℕ → List ℕ
unit_line family unit =
    if length unit == 0 then []
    else concat (codes "# UNIT " ∷ family ∷ codes " " ∷ unit ∷ codes "\n" ∷ [])

-- the text format calls a counter by the name of its samples
abbrev pub header_suffix : Bool → MetricType → List ℕ
header_suffix true type = []
header_suffix false Counter = codes "_total"
header_suffix false Gauge = []
header_suffix false Histogram = []

abbrev pub unit_lines : Bool → List ℕ → Stream → List ℕ
unit_lines true family stream = unit_line family (unit_text stream)
unit_lines false family stream = []

-- # lines before the points (Prometheus text format, OpenMetrics)
-- Help, type, and in OpenMetrics the unit.
abbrev pub header : Dialect → List ℕ → Stream → List ℕ
header dialect family stream =
    described (is_open_metrics dialect) family
    (header_suffix (is_open_metrics dialect) (type_of stream))
    stream.description (type_name (type_of stream))
    ++ unit_lines (is_open_metrics dialect) family stream
