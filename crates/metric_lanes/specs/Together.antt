-- What two lanes report of a stream, put together.
use Rattle.std.specs.Prelude.{◌≡◌, ◌≤◌, ℕ, Bool, false, IsTrue, All, List, [], ◌∷◌, Option, Some}
use Rattle.std.specs.Prelude.{None, length, if◌then◌else◌}
use Rattle.std.specs.Cmp.Lexicographic.{slice_cmp}
use Rattle.std.specs.Ordering.{nat_cmp}
use Rattle.std.specs.Str.{bytes_eq}
use Rattle.std.specs.declared.cmp.Ordering.TheVariants.{Less}
use Rattle.metric_aggregate.specs.declared.point_value.PointValue.{PointValue}
use Rattle.metric_history.specs.declared.entry.Entry.{Entry}
use Rattle.metric_history.specs.declared.batch.Point.{Point}
use Rattle.metric_history.specs.declared.batch.StreamPoints.{StreamPoints}
use Rattle.metric_views.specs.declared.stream.Stream.{Stream}
use Rattle.metric_facts.specs.declared.facts.Facts.{Facts}
use Rattle.metric_facts.specs.declared.facts.NumberedStream.{NumberedStream}
use Rattle.metric_history.specs.Aggregations.{stream_aggregation}
use Rattle.metric_history.specs.Points.{points}
use Rattle.metric_history.specs.Series.{all_series, distinct}
use Rattle.metric_safety.specs.SafeFacts.{IsJournal, IsSafeFacts}
use Rattle.metric_safety.specs.WindowBounds.{IsValueInRange}
use Rattle.metric_lanes.specs.Joined.{Interleaves, joins, joined}

-- whether a point is that of a series
abbrev pub is_of : Option (List ℕ) → List ℕ → Bool
is_of (Some set) key = bytes_eq set key
is_of None key = false

-- what is reported of a series, where it has a point
abbrev pub value_at : List Point → List ℕ → Option PointValue
value_at [] key = None
value_at (p ∷ points) key = if is_of p.set key then Some p.value else value_at points key

-- what two lanes report of a series together
abbrev pub joined_at : Option PointValue → Option PointValue → Option PointValue
joined_at None b = b
joined_at (Some a) None = Some a
joined_at (Some a) (Some b) = Some (joined a b)

-- # points of two lanes (SDK, collect)
-- Of each series what both report of it, joined, or what the one reports that has it.
abbrev pub AreTogether : List Point → List Point → List Point → Type 0
AreTogether a b all =
    (key : List ℕ) → value_at all key ≡ joined_at (value_at a key) (value_at b key)

-- whether the first point's set key comes before the second's
abbrev pub IsBefore : Option (List ℕ) → Option (List ℕ) → Type 0
IsBefore (Some a) (Some b) = slice_cmp nat_cmp a b ≡ Less
IsBefore a b = ⊥

-- a set key that comes before those of all points
abbrev pub IsBeforeAll : Option (List ℕ) → List Point → Type 0
IsBeforeAll set [] = Unit {0}
IsBeforeAll set (p ∷ points) = IsBefore set p.set × IsBeforeAll set points

-- a set key that comes before that of the first point
abbrev pub IsBeforeFirst : Option (List ℕ) → List Point → Type 0
IsBeforeFirst set [] = Unit {0}
IsBeforeFirst set (p ∷ points) = IsBefore set p.set

-- whether a point is of a series, and not the overflow point
abbrev pub HasSet : Option (List ℕ) → Type 0
HasSet (Some set) = Unit {0}
HasSet None = ⊥

-- # rising points (profile) [IsRising]
-- Each set key comes before all that follow it, and there is no overflow point.
abbrev pub IsRising : List Point → Type 0
IsRising [] = Unit {0}
IsRising (p ∷ points) = HasSet p.set × (IsBeforeAll p.set points × IsRising points)

-- # points put together (SDK, collect) [ArePutTogether, IsStreamTogether, AreStreamsTogether]
-- One point of each series that either lane has, with what both report of it, in ascending order of
-- set keys.
pub record ArePutTogether (a b all : List Point) : Type 0 where
  pub each : AreTogether a b all
  pub rising : IsRising all

-- those of one stream of both
pub record IsStreamTogether (a b all : StreamPoints) : Type 0 where
  pub stream : all.stream ≡ a.stream
  pub points : ArePutTogether a.points b.points all.points

-- stream by stream
abbrev pub AreStreamsTogether : List StreamPoints → List StreamPoints → List StreamPoints → Type 0
AreStreamsTogether [] [] [] = Unit {0}
AreStreamsTogether (a ∷ xs) (b ∷ ys) (c ∷ zs) =
    IsStreamTogether a b c × AreStreamsTogether xs ys zs
AreStreamsTogether xs ys zs = ⊥

-- Where two lanes have a point of one series, each number of both together is a 64-bit number.
abbrev pub FitTogether : List Point → List Point → Type 0
FitTogether xs ys =
    All (λ (a : Point). All (λ (b : Point). a.set ≡ b.set → IsValueInRange (joined a.value b.value))
    ys) xs

-- Points that can be put together: those of each lane rise, and their numbers fit.
pub record CanJoin (a b : List Point) : Type 0 where
  pub first : IsRising a
  pub second : IsRising b
  pub fit : FitTogether a b

-- stream by stream
abbrev pub CanJoinStreams : List StreamPoints → List StreamPoints → Type 0
CanJoinStreams [] [] = Unit {0}
CanJoinStreams (a ∷ xs) (b ∷ ys) = CanJoin a.points b.points × CanJoinStreams xs ys
CanJoinStreams xs ys = ⊥

-- each series of a window has a place in the stream
abbrev pub IsHeld : Stream → List Entry → Type 0
IsHeld s window = length (distinct (all_series s.kept window)) ≤ s.limit

-- Whatever the order in which the recordings of two lanes were made, what a stream reports of all
-- of them is what it reports of each lane's, put together.
abbrev pub ReportTogether : Type 0
ReportTogether =
    (s : Stream) (xs ys zs : List Entry) → IsTrue (joins (stream_aggregation s))
    → Interleaves xs ys zs → IsHeld s xs → IsHeld s ys → IsHeld s zs
    → ArePutTogether (points s xs) (points s ys) (points s zs)

-- And no other points are the two lanes' put together.
abbrev pub TogetherOnce : Type 0
TogetherOnce =
    (a b first second : List Point) → ArePutTogether a b first → ArePutTogether a b second
    → first ≡ second

-- Each stream of safe facts holds every series of recordings within the budgets.
abbrev pub HoldsJournals : Type 0
HoldsJournals =
    (own : Facts) (journal : List Entry) → IsSafeFacts own → IsJournal own journal
    → All (λ (s : NumberedStream). IsHeld s.stream journal) own.streams
