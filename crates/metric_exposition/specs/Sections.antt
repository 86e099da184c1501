-- The lines of batches in a page, gathered by families.
use Rattle.std.specs.Prelude.{ℕ, Bool, ◌==◌, if◌then◌else◌, List, [], ◌∷◌, ◌++◌, filter, length, slice_get}
use Rattle.std.specs.Prelude.{take}
use Rattle.std.specs.List.{flat_map, position_from, range_with_len}
use Rattle.std.specs.Option.{option_map_or, unwrap_or}
use Rattle.std.specs.Str.{bytes_eq}
use Rattle.metric_contents.specs.declared.contents.Contents.{Contents}
use Rattle.metric_contents.specs.declared.contents.Instrument.{Instrument}
use Rattle.metric_contents.specs.declared.contents.Key.{Key}
use Rattle.metric_contents.specs.declared.contents.Meter.{Meter}
use Rattle.metric_views.specs.declared.stream.Stream.{Stream}
use Rattle.metric_history.specs.declared.batch.Batch.{Batch}
use Rattle.metric_history.specs.declared.batch.Point.{Point}
use Rattle.metric_history.specs.declared.batch.StreamPoints.{StreamPoints}
use Rattle.metric_family.specs.Families.{family}
use Rattle.metric_exposition.specs.Expositions.{point_lines}
use Rattle.metric_exposition.specs.Headers.{header}
use Rattle.metric_exposition.specs.declared.dialect.Dialect.{Dialect}
use Rattle.metric_exposition.specs.declared.section.Section.{Section}

-- the section of a stream: the lines before its points, and those of its points
abbrev pub stream_section
    : Dialect → Meter → List Key → ℕ → List Point → Stream → Section
stream_section dialect meter keys start points stream = record {
  family = family stream;
  header = header dialect (family stream) stream;
  lines = flat_map (point_lines dialect meter keys stream (family stream) start) points;
}

-- that of some points of a batch; none where there are none, and where their number names no stream
abbrev pub reported_sections
    : Dialect → Meter → List Key → List Stream → ℕ → StreamPoints → List Section
reported_sections dialect meter keys streams start s =
    if length s.points == 0 then [] else
    option_map_or (λ stream. stream_section dialect meter keys start s.points stream ∷ [])
    (slice_get streams s.stream) []

abbrev pub instrument_sections
    : Dialect → List Meter → List Stream → Batch → Instrument → List Section
instrument_sections dialect meters streams batch instrument =
    option_map_or
    (λ meter. flat_map (reported_sections dialect meter instrument.keys streams batch.start)
    batch.streams)
    (slice_get meters instrument.meter) []

-- # sections of a batch (profile)
-- Of each stream that has points, in order.
unfoldable pub batch_sections : Dialect → Contents → List Stream → Batch → List Section
batch_sections dialect catalogue streams batch =
    option_map_or (instrument_sections dialect catalogue.meters streams batch)
    (slice_get catalogue.instruments batch.instrument) []

-- whether a section is of a family
abbrev pub is_of : List ℕ → Section → Bool
is_of name section = bytes_eq name section.family

abbrev pub family_at : List Section → ℕ → List ℕ
family_at sections place =
    option_map_or (λ (section : Section). section.family) (slice_get sections place) []

-- the place of the first section with the family of the one at a place
unfoldable pub lead : List Section → ℕ → ℕ
lead sections place =
    unwrap_or (position_from (is_of (family_at sections place)) 0 (take place sections)) place

-- the places of all sections with the family of the one at a place, if none before it has that
abbrev pub members : List Section → ℕ → List ℕ
members sections place =
    filter (λ other. lead sections other == place) (range_with_len 0 (length sections))

-- the lines of a section; those before its points where it is the first of its family
abbrev pub section_lines : Bool → Section → List ℕ
section_lines first section = (if first then section.header else []) ++ section.lines

abbrev pub lines_at : List Section → ℕ → ℕ → List ℕ
lines_at sections place other =
    option_map_or (section_lines (other == place)) (slice_get sections other) []

-- # gathered sections (OpenMetrics, metric families)
-- Those of one family stand together where the first of them stands, with one help, type and unit.
unfoldable pub gathered : List Section → List ℕ
gathered sections =
    flat_map (λ place. flat_map (lines_at sections place) (members sections place))
    (range_with_len 0 (length sections))
