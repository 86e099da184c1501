-- In which parts two streams differ.
use Rattle.std.specs.Prelude.{ℕ, Bool, true, false, not, ◌==◌, ◌&&◌, List, [], ◌∷◌, ◌++◌, Option, Some}
use Rattle.std.specs.Prelude.{None, slice_get, slice_index_or, if◌then◌else◌}
use Rattle.std.specs.Cmp.Lexicographic.{pointwise}
use Rattle.std.specs.List.{enumerate_from, flat_map, list_all, list_any}
use Rattle.std.specs.Ordering.{int_eq}
use Rattle.std.specs.Str.{bytes_eq}
use Rattle.metric_names.specs.Names.{folded}
use Rattle.metric_contents.specs.declared.contents.Contents.{Contents}
use Rattle.metric_contents.specs.declared.contents.Instrument.{Instrument}
use Rattle.metric_contents.specs.declared.contents.Key.{Key}
use Rattle.metric_views.specs.declared.choices.Temporality.{Temporality}
use Rattle.metric_views.specs.declared.choices.Temporality.TheVariants.{Delta, Cumulative}
use Rattle.metric_views.specs.declared.stream.Stream.{Stream}
use Rattle.metric_views.specs.declared.stream.StreamAggregation.{StreamAggregation}
use Rattle.metric_views.specs.declared.stream.StreamAggregation.TheVariants as aggregations
use Rattle.metric_views.specs.Selection.{is_kind}
use Rattle.metric_diff.specs.declared.change.Change.{Change}
use Rattle.metric_diff.specs.declared.change.Change.TheVariants as changes
use Rattle.metric_diff.specs.declared.change.StreamPart.{StreamPart}
use Rattle.metric_diff.specs.declared.keys.Way.{Way}
use Rattle.metric_diff.specs.declared.keys.Way.TheVariants as ways
use Rattle.metric_diff.specs.declared.change.StreamPart.TheVariants as parts

-- a change, where it holds
abbrev pub when : Bool → Change → List Change
when holds change = if holds then change ∷ [] else []

-- both are sums, last values or histograms
abbrev pub is_alike : StreamAggregation → StreamAggregation → Bool
is_alike aggregations.Sum aggregations.Sum = true
is_alike aggregations.Sum other = false
is_alike aggregations.LastValue aggregations.LastValue = true
is_alike aggregations.LastValue other = false
is_alike (aggregations.Histogram boundaries) (aggregations.Histogram others) = true
is_alike (aggregations.Histogram boundaries) other = false

-- both are histograms, with other boundaries
abbrev pub has_other_boundaries : StreamAggregation → StreamAggregation → Bool
has_other_boundaries (aggregations.Histogram boundaries) (aggregations.Histogram others) =
    not (pointwise int_eq boundaries others)
has_other_boundaries one other = false

-- both are histograms, and each boundary of the first is one of the second
abbrev pub keeps_boundaries : StreamAggregation → StreamAggregation → Bool
keeps_boundaries (aggregations.Histogram boundaries) (aggregations.Histogram others) =
    list_all (λ boundary. list_any (int_eq boundary) others) boundaries
keeps_boundaries one other = false

abbrev pub is_same_temporality : Temporality → Temporality → Bool
is_same_temporality Delta Delta = true
is_same_temporality Cumulative Cumulative = true
is_same_temporality one other = false

abbrev pub name_with : Option Instrument → List ℕ
name_with None = []
name_with (Some instrument) = instrument.name

-- the name of a stream's instrument; its meter is in what the stream is known by
abbrev pub source_name : Contents → Stream → List ℕ
source_name contents stream = name_with (slice_get contents.instruments stream.instrument)

-- streams of two catalogues differ in a part
abbrev pub differs : StreamPart → Contents → Contents → Stream → Stream → Bool
differs parts.Name contents others old new = not (bytes_eq old.name new.name)
differs parts.Description contents others old new = not (bytes_eq old.description new.description)
differs parts.Unit contents others old new = not (bytes_eq old.unit new.unit)
differs parts.Kind contents others old new = not (is_kind old.kind new.kind)
differs parts.Aggregation contents others old new = not (is_alike old.aggregation new.aggregation)
differs parts.Boundaries contents others old new =
    has_other_boundaries old.aggregation new.aggregation
    && not (keeps_boundaries old.aggregation new.aggregation)
differs parts.MoreBoundaries contents others old new =
    has_other_boundaries old.aggregation new.aggregation
    && keeps_boundaries old.aggregation new.aggregation
differs parts.Limit contents others old new = not (old.limit == new.limit)
differs parts.Temporality contents others old new =
    not (is_same_temporality old.temporality new.temporality)
differs parts.Instrument contents others old new =
    not (bytes_eq (folded (source_name contents old)) (folded (source_name others new)))

abbrev pub all_parts : List StreamPart
all_parts =
    parts.Name ∷ parts.Description ∷ parts.Unit ∷ parts.Kind ∷ parts.Aggregation
    ∷ parts.Boundaries ∷ parts.MoreBoundaries ∷ parts.Limit ∷ parts.Temporality
    ∷ parts.Instrument ∷ []

-- that two streams of these numbers differ in a part, where they do
abbrev pub part_change : ℕ → ℕ → Contents → Contents → Stream → Stream → StreamPart → List Change
part_change old new contents others s t part =
    when (differs part contents others s t) (changes.StreamChanged old new part)

abbrev pub part_changes : ℕ → ℕ → Contents → Contents → Stream → Stream → List StreamPart
    → List Change
part_changes old new contents others s t these =
    flat_map (part_change old new contents others s t) these

abbrev pub keys_with : Option Instrument → List Key
keys_with None = []
keys_with (Some instrument) = instrument.keys

-- the keys of a stream's instrument
abbrev pub keys_of : Contents → Stream → List Key
keys_of contents stream = keys_with (slice_get contents.instruments stream.instrument)

-- the stream keeps the key of a number, which has a name
abbrev pub is_kept_as : Stream → List ℕ → ℕ × Key → Bool
is_kept_as stream name key =
    slice_index_or stream.kept key.0 false && bytes_eq key.1.name name

-- the stream keeps a key of this name, of these keys
abbrev pub keeps : List Key → Stream → List ℕ → Bool
keeps keys stream name = list_any (is_kept_as stream name) (enumerate_from 0 keys)

-- the first stream keeps a key, and the second none of its name
abbrev pub is_lost : List Key → Stream → Stream → ℕ × Key → Bool
is_lost others s t key =
    slice_index_or s.kept key.0 false && not (keeps others t key.1.name)

-- that a key goes, or that one is new
abbrev pub key_change : Way → ℕ → ℕ → ℕ → Change
key_change ways.Gone old new key = changes.KeyGone old new key
key_change ways.New old new key = changes.KeyNew old new key

abbrev pub lost_key : Way → ℕ → ℕ → List Key → Stream → Stream → ℕ × Key → List Change
lost_key way old new others s t key = when (is_lost others s t key) (key_change way old new key.0)

-- each key that goes, and then each that is new
abbrev pub key_changes : ℕ → ℕ → List Key → List Key → Stream → Stream → List Change
key_changes old new keys others s t =
    flat_map (lost_key ways.Gone old new others s t) (enumerate_from 0 keys)
    ++ flat_map (lost_key ways.New old new keys t s) (enumerate_from 0 others)

abbrev pub differences_with : Contents → Contents → ℕ → ℕ → Option Stream → Option Stream
    → List Change
differences_with contents others old new (Some s) (Some t) =
    part_changes old new contents others s t all_parts
    ++ key_changes old new (keys_of contents s) (keys_of others t) s t
differences_with contents others old new s t = []
