-- Pages.
use Rattle.std.specs.Prelude.{ℕ, Bool, true, false, List, [], ◌++◌, codes}
use Rattle.std.specs.List.{flat_map}
use Rattle.metric_contents.specs.declared.attributes.OwnedAttr.{OwnedAttr}
use Rattle.metric_contents.specs.declared.contents.Contents.{Contents}
use Rattle.metric_views.specs.declared.stream.Stream.{Stream}
use Rattle.metric_history.specs.declared.batch.Batch.{Batch}
use Rattle.metric_exposition.specs.Dialects.{is_open_metrics}
use Rattle.metric_exposition.specs.Sections.{batch_sections, gathered}
use Rattle.metric_exposition.specs.Targets.{target_text}
use Rattle.metric_exposition.specs.declared.dialect.Dialect.{Dialect}

abbrev pub end_by : Bool → List ℕ
end_by true = codes "# EOF\n"
end_by false = []

-- the last line of a page
abbrev pub end_text : Dialect → List ℕ
end_text dialect = end_by (is_open_metrics dialect)

-- the lines of batches, those of one family together
abbrev pub page_lines : Dialect → Contents → List Stream → List Batch → List ℕ
page_lines dialect catalogue streams batches =
    gathered (flat_map (batch_sections dialect catalogue streams) batches)

-- # page (OpenMetrics) [page, end_text]
-- The target, the lines of batches, and the end.
abbrev pub page : Dialect → List OwnedAttr → Contents → List Stream → List Batch → List ℕ
page dialect resource catalogue streams batches =
    target_text dialect resource
    ++ page_lines dialect catalogue streams batches
    ++ end_text dialect
