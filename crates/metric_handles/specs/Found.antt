-- The value of the point that a name and attributes are of, in a list of batches.
use Rattle.std.specs.Prelude.{ℕ, Bool, false, not, ◌&&◌, ◌==◌, nat_le, List, length, Option, None}
use Rattle.std.specs.Prelude.{find, slice_get, option_and_then, if◌then◌else◌}
use Rattle.std.specs.List.{filter_map, last_or, list_all, zip}
use Rattle.std.specs.Option.{option_map, option_map_or}
use Rattle.std.specs.Str.{bytes_eq}
use Rattle.metric_names.specs.Names.{folded}
use Rattle.metric_aggregate.specs.declared.point_value.PointValue.{PointValue}
use Rattle.metric_contents.specs.declared.contents.Instrument.{Instrument}
use Rattle.metric_contents.specs.declared.contents.Key.{Key}
use Rattle.metric_contents.specs.Encoding.{Given, entry_at, has_repeated_key, is_declared}
use Rattle.metric_history.specs.declared.batch.Batch.{Batch}
use Rattle.metric_history.specs.declared.batch.Point.{Point}
use Rattle.metric_history.specs.declared.batch.StreamPoints.{StreamPoints}
use Rattle.metric_plan.specs.Plans.{PlanValue, print_of}
use Rattle.metric_views.specs.declared.stream.Stream.{Stream}

-- the entry of a key is this one
abbrev pub is_entry : List Given → Key → ℕ → Bool
is_entry attrs key entry = option_map_or (λ own. own == entry) (entry_at attrs key) false

-- each key's entry is that of the attribute of the key, 0 where there is none
unfoldable pub have_entries : List Given → List Key → List ℕ → Bool
have_entries attrs keys set =
    nat_le (length keys) (length set)
    && list_all (λ (one : Key × ℕ). is_entry attrs one.0 one.1) (zip keys set)

-- the set key is of exactly these attributes: those that the stream drops are not among them
abbrev pub is_exactly : List Key → List Given → List ℕ → Bool
is_exactly keys attrs set =
    not (has_repeated_key attrs)
    && (list_all (is_declared keys) attrs && have_entries attrs keys set)

-- the point is of a series with exactly these attributes
abbrev pub is_point : List Key → List Given → Point → Bool
is_point keys attrs point = option_map_or (is_exactly keys attrs) point.set false

-- the stream of a number has this name without ASCII case
abbrev pub has_name : List Stream → List ℕ → ℕ → Bool
has_name streams name number =
    option_map_or (λ (s : Stream). bytes_eq (folded s.name) (folded name))
    (slice_get streams number) false

-- the points are of such a stream of the plan
abbrev pub is_stream_named : PlanValue → List ℕ → StreamPoints → Bool
is_stream_named plan name points = has_name plan.streams name points.stream

-- the value of the point of these attributes
abbrev pub value_at : List Key → List Given → List Point → Option PointValue
value_at keys attrs points = option_map (λ (p : Point). p.value) (find (is_point keys attrs) points)

-- the same in the first stream of this name
abbrev pub value_in_streams : PlanValue → List ℕ → List Key → List Given → List StreamPoints
    → Option PointValue
value_in_streams plan name keys attrs streams =
    option_and_then (λ (s : StreamPoints). value_at keys attrs s.points)
    (find (is_stream_named plan name) streams)

-- the same in a batch of the plan, by the keys of its instrument
abbrev pub value_in : PlanValue → List ℕ → List Given → Batch → Option PointValue
value_in plan name attrs batch =
    if batch.plan == print_of plan
    then option_and_then (λ (i : Instrument). value_in_streams plan name i.keys attrs batch.streams)
    (slice_get plan.facts.contents.instruments batch.instrument) else None

-- # value of a point (profile) [value_of, is_exactly]
-- Of the last batch whose first stream of the name has a point with exactly these attributes.
abbrev pub value_of : PlanValue → List ℕ → List Given → List Batch → Option PointValue
value_of plan name attrs batches = last_or None (filter_map (value_in plan name attrs) batches)
