-- What ways out of the points would lose of the streams of a config.
use Rattle.std.specs.Prelude.{ℕ, Bool, true, not, List, [], ◌++◌, ◌==◌, ◌&&◌, ◌||◌, map, length}
use Rattle.std.specs.Prelude.{if◌then◌else◌, codes, slice_get, Option, Some, None}
use Rattle.std.specs.List.{after_first, before_first, flat_map, list_any, range_with_len}
use Rattle.std.specs.Str.{bytes_eq}
use Rattle.metric_contents.specs.declared.contents.Contents.{Contents}
use Rattle.metric_views.specs.declared.config.Config.{Config}
use Rattle.metric_views.specs.declared.config.Reader.{Reader}
use Rattle.metric_views.specs.declared.stream.Stream.{Stream}
use Rattle.metric_facts.specs.Facts.{is_delta_temporality}
use Rattle.metric_exposure.specs.Exposures.{exposure_faults}
use Rattle.metric_exposure.specs.declared.fault.ExposureFault.{ExposureFault}
use Rattle.metric_exposure.specs.declared.outlet.Outlet.{Outlet}
use Rattle.metric_exposure.specs.declared.outlet.Outlet.TheVariants.{Prometheus, Otlp}
use Rattle.wormweekly_commands.specs.Concerns.{names}
use Rattle.wormweekly_commands.specs.declared.exposures.Exposure.{Exposure}

-- a way out can serve the stream: pages have none that is a delta
abbrev pub serves : Outlet → Stream → Bool
serves Prometheus stream = not (is_delta_temporality stream.temporality)
serves Otlp stream = true

-- it can serve a stream of the reader
abbrev pub has_served : Outlet → List Stream → ℕ → Bool
has_served outlet streams reader =
    list_any (λ (stream : Stream). stream.reader == reader && serves outlet stream) streams

abbrev pub exposure_of : Outlet → ExposureFault → Exposure
exposure_of outlet fault = record { outlet = outlet; fault = fault }

-- what it would lose of the reader's streams
abbrev pub reader_exposures : Outlet → Contents → List Stream → ℕ → List Exposure
reader_exposures outlet contents streams reader =
    map (exposure_of outlet) (exposure_faults outlet contents streams reader)

-- where no reader is named, one is told of that can be served, or all where none can
abbrev pub is_asked : Outlet → List Stream → ℕ → Bool
is_asked outlet streams reader =
    not (list_any (serves outlet) streams) || has_served outlet streams reader

-- the word for a way out
abbrev pub outlet_word : Outlet → List ℕ
outlet_word Prometheus = codes "prometheus"
outlet_word Otlp = codes "otlp"

-- a word names the way out, and behind `=` a reader of the name
abbrev pub is_of_reader : List ℕ → Outlet → List ℕ → Bool
is_of_reader word outlet name =
    bytes_eq (before_first (λ b. b == 61) word) (outlet_word outlet)
    && bytes_eq (after_first (λ b. b == 61) word) name

abbrev pub names_reader : List (List ℕ) → Outlet → List ℕ → Bool
names_reader words outlet name = list_any (λ word. is_of_reader word outlet name) words

abbrev pub name_at : Option Reader → List ℕ
name_at None = []
name_at (Some reader) = reader.name

-- the reader is told of: it is named, or the way out is, and it can be served or none can
abbrev pub is_told : List (List ℕ) → Outlet → Config → List Stream → ℕ → Bool
is_told words outlet config streams reader =
    names_reader words outlet (name_at (slice_get config.readers reader))
    || (names words (outlet_word outlet) && is_asked outlet streams reader)

-- what is told of the reader
abbrev pub told_exposures : List (List ℕ) → Outlet → Contents → Config → List Stream → ℕ
    → List Exposure
told_exposures words outlet contents config streams reader =
    if is_told words outlet config streams reader
    then reader_exposures outlet contents streams reader else []

-- and of all
abbrev pub outlet_exposures : List (List ℕ) → Outlet → Contents → Config → List Stream
    → List Exposure
outlet_exposures words outlet contents config streams =
    flat_map (told_exposures words outlet contents config streams)
    (range_with_len 0 (length config.readers))

-- # what ways out would lose (profile)
-- Of each way out that words name, the faults of the streams of the readers that they name with it;
-- where they name it alone, of each reader that it can serve, or of all where it can serve none.
abbrev pub all_exposures : List (List ℕ) → Contents → Config → List Stream → List Exposure
all_exposures words contents config streams =
    outlet_exposures words Prometheus contents config streams
    ++ outlet_exposures words Otlp contents config streams
