-- What a collection reports of a stream.
use Rattle.std.specs.Prelude.{◌≡◌, ℕ, ℤ, Bool, List, [], ◌∷◌, ◌++◌, Option, Some, None, map, filter}
use Rattle.std.specs.Prelude.{fold, insert, count_by, slice_get, if◌then◌else◌}
use Rattle.std.specs.List.{list_any, position_or_len}
use Rattle.std.specs.Ordering.{nat_cmp, is_lt}
use Rattle.std.specs.Cmp.Lexicographic.{slice_cmp}
use Rattle.metric_aggregate.specs.Value.{value_of}
use Rattle.metric_history.specs.declared.entry.Entry.{Entry}
use Rattle.metric_history.specs.declared.batch.Point.{Point}
use Rattle.metric_history.specs.declared.batch.StreamPoints.{StreamPoints}
use Rattle.metric_views.specs.declared.stream.Stream.{Stream}
use Rattle.metric_facts.specs.declared.facts.FactsFields.{FactsFields as Facts}
use Rattle.metric_facts.specs.declared.facts.NumberedStream.{NumberedStream}
use Rattle.metric_facts.specs.Facts.{is_of_reader}
use Rattle.metric_history.specs.Aggregations.{stream_aggregation}
use Rattle.metric_history.specs.Series.{held, belongs, rows}

-- the recorded values, in order
abbrev pub values : List Entry → List ℤ
values entries = map (λ (entry : Entry). entry.value) entries

-- whether the first set key comes before the second
abbrev pub comes_before : List ℕ → List ℕ → Bool
comes_before a b = is_lt (slice_cmp nat_cmp a b)

-- a set key put before the first one that comes after it
abbrev pub with_key : List (List ℕ) → List ℕ → List (List ℕ)
with_key keys key = insert keys (position_or_len (comes_before key) keys) key

-- # ascending order (profile)
-- The same set keys, where none comes before the one that it follows.
abbrev pub ascending : List (List ℕ) → List (List ℕ)
ascending keys = fold with_key [] keys

-- the point of a series, or of the overflow series
abbrev pub point : Stream → List Entry → Option (List ℕ) → Point
point s window place =
    record { set = place; value = value_of (stream_aggregation s) (values (rows s window place)) }

-- the overflow point, where some recording belongs to no held series
abbrev pub overflow : Stream → List Entry → List Point
overflow s window = if list_any (belongs s window None) window then point s window None ∷ [] else []

-- # points (SDK, collect) [points, stream_points]
-- Held series in ascending order of set keys with the value of their rows, then the overflow point
-- where some row is not held.
abbrev pub points : Stream → List Entry → List Point
points s window =
    map (λ key. point s window (Some key)) (ascending (held s window)) ++ overflow s window

-- the points of a stream, with its number
abbrev pub stream_points : List Entry → NumberedStream → StreamPoints
stream_points window s = record { stream = s.number; points = points s.stream window }

-- what a reader is told: the points of each of its streams
abbrev pub reported : Facts → ℕ → List Entry → List StreamPoints
reported facts reader window =
    map (stream_points window) (filter (is_of_reader reader) facts.streams)

-- the points with the overflow point, where there is one
abbrev pub with_overflow : Stream → List Entry → List Point → List Point
with_overflow s window points =
    if list_any (belongs s window None) window then points ++ point s window None ∷ [] else points

-- the points of one more stream, where it is the reader's
abbrev pub with_points : ℕ → List Entry → List StreamPoints → NumberedStream → List StreamPoints
with_points reader window all s =
    if is_of_reader reader s then all ++ stream_points window s ∷ [] else all

-- # counted once (profile)
-- Each recording of a window belongs to exactly one point, held or overflow.
abbrev pub CountsOnce : Stream → List Entry → Type 0
CountsOnce s window =
    (i : ℕ) (entry : Entry) → slice_get window i ≡ Some entry
    → count_by (λ (p : Point). belongs s window p.set entry) (points s window) ≡ 1
