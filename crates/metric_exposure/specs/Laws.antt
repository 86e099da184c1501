-- What holds of the streams of a reader that pass the check for pages.
use Rattle.std.specs.Prelude.{◌≡◌, ◌≢◌, ℕ, suc, ◌+◌, ◌<◌, ◌≤◌, Bool, true, false, ◌&&◌, List, []}
use Rattle.std.specs.Prelude.{◌∷◌, Some, if◌then◌else◌, length}
use Rattle.std.specs.Prelude.{map}
use Rattle.std.specs.Prelude.{slice_get}
use Rattle.std.specs.List.{list_all, range_with_len}
use Rattle.std.specs.Str.{bytes_eq}
use Rattle.metric_aggregate.specs.declared.point_value.PointValue.{PointValue}
use Rattle.metric_aggregate.specs.declared.point_value.PointValue.TheVariants.{Sum, Last, Buckets}
use Rattle.metric_contents.specs.declared.contents.Contents.{Contents}
use Rattle.metric_combinations.specs.Restrictions.{restricted}
use Rattle.metric_contents.specs.declared.contents.Key.{Key}
use Rattle.metric_contents.specs.declared.contents.Meter.{Meter}
use Rattle.metric_views.specs.declared.stream.Stream.{Stream}
use Rattle.metric_facts.specs.Facts.{is_full_set, key_facts}
use Rattle.metric_history.specs.declared.batch.Point.{Point}
use Rattle.metric_history.specs.declared.entry.Entry.{Entry}
use Rattle.metric_history.specs.Points.{points}
use Rattle.metric_family.specs.Families.{claims_of, family, type_of, unit_text}
use Rattle.metric_family.specs.Grammar.{IsLabel, IsName}
use Rattle.metric_family.specs.Labels.{Label, label_of, point_labels, shown}
use Rattle.metric_family.specs.Words.{is_among, is_some}
use Rattle.metric_exposure.specs.declared.outlet.Outlet.TheVariants.{Prometheus}
use Rattle.metric_exposure.specs.Collisions.{is_of_target}
use Rattle.metric_exposure.specs.Exposures.{exposure_faults}
use Rattle.metric_exposure.specs.Sources.{boundaries_of, keys_of, meter_of}
use Rattle.metric_exposure.specs.Renames.{exported, server_labels}

-- # streams that pass (profile) [Passes, NamesAreSound, LabelsAreSound, FamiliesAreApart,
-- NoneClaimsTheTarget, SeriesAreApart, PointsAreApart, PointsStayApart, GatheredAreApart,
-- GatheredStayApart]
-- What holds of a reader's streams without a fault: sound names and labels, families and series
-- that are apart.
pub record Passes (contents : Contents) (streams : List Stream) (reader number : ℕ)
    (stream : Stream) : Type 0 where
  pub none : exposure_faults Prometheus contents streams reader ≡ []
  pub at : slice_get streams number ≡ Some stream
  pub own : stream.reader ≡ reader

-- The family has a name, and each name that it claims is of the grammar.
abbrev pub NamesAreSound : Type 0
NamesAreSound =
    (contents : Contents) (streams : List Stream) (reader number : ℕ) (stream : Stream)
    → Passes contents streams reader number stream
    → (family stream ≢ [])
    × ((name : List ℕ) → is_among (claims_of stream) name ≡ true → IsName name)

-- The label of each kept key is of the grammar.
abbrev pub LabelsAreSound : Type 0
LabelsAreSound =
    (contents : Contents) (streams : List Stream) (reader number : ℕ) (stream : Stream)
    (place : ℕ) (key : Key) → Passes contents streams reader number stream
    → slice_get (keys_of contents stream) place ≡ Some key
    → slice_get stream.kept place ≡ Some true → IsLabel (label_of key.name)

-- A page tells one family, type and unit of both, and the same buckets.
pub record AreOneFamily (other stream : Stream) : Type 0 where
  pub family_is : family other ≡ family stream
  pub type_is : type_of other ≡ type_of stream
  pub unit_is : unit_text other ≡ unit_text stream
  pub boundaries_are : boundaries_of other.aggregation ≡ boundaries_of stream.aggregation

-- Two streams claim one name only where they are of one family, and none claims one of the target's.
abbrev pub FamiliesAreApart : Type 0
FamiliesAreApart =
    (contents : Contents) (streams : List Stream) (reader number : ℕ) (stream : Stream)
    (before : ℕ) (other : Stream) (name : List ℕ)
    → Passes contents streams reader number stream → Passes contents streams reader before other
    → before < number → is_among (claims_of other) name ≡ true
    → is_among (claims_of stream) name ≡ true → AreOneFamily other stream

abbrev pub NoneClaimsTheTarget : Type 0
NoneClaimsTheTarget =
    (contents : Contents) (streams : List Stream) (reader number : ℕ) (stream : Stream)
    (name : List ℕ) → Passes contents streams reader number stream
    → is_of_target name ≡ true → is_among (claims_of stream) name ≡ false

-- The set key is a full set of the keys of the stream's instrument.
abbrev pub IsFull : Contents → Stream → List ℕ → Type 0
IsFull contents stream set =
    is_full_set (map key_facts (keys_of contents stream)) set ≡ true

-- what is shown of the series of a set key, of which the stream keeps some keys
abbrev pub shown_of : Contents → Stream → Meter → List ℕ → List Label
shown_of contents stream meter set =
    shown (point_labels meter (keys_of contents stream) stream.kept
    (Some (restricted stream.kept set)))

-- Set keys of recordings that are shown with the same labels are of one series.
abbrev pub SeriesAreApart : Type 0
SeriesAreApart =
    (contents : Contents) (streams : List Stream) (reader number : ℕ) (stream : Stream)
    (meter : Meter) (set other : List ℕ) → Passes contents streams reader number stream
    → length stream.kept ≡ length (keys_of contents stream)
    → IsFull contents stream set → IsFull contents stream other → length set ≡ length other
    → shown_of contents stream meter set ≡ shown_of contents stream meter other
    → restricted stream.kept set ≡ restricted stream.kept other

-- The recordings of a window have full set keys of one length.
pub record AreFull (contents : Contents) (stream : Stream) (window : List Entry) : Type 0 where
  pub long : ℕ
  pub each : (i : ℕ) (entry : Entry) → slice_get window i ≡ Some entry
      → IsFull contents stream entry.set × (length entry.set ≡ long)

-- what is shown of a point
abbrev pub shown_point : Contents → Stream → Meter → Point → List Label
shown_point contents stream meter point =
    shown (point_labels meter (keys_of contents stream) stream.kept point.set)

-- No two points of a window, the overflow point too, are shown with the same labels.
abbrev pub PointsAreApart : Type 0
PointsAreApart =
    (contents : Contents) (streams : List Stream) (reader number : ℕ) (stream : Stream)
    (meter : Meter) (window : List Entry) (first later : ℕ) (point other : Point)
    → Passes contents streams reader number stream
    → length stream.kept ≡ length (keys_of contents stream) → AreFull contents stream window
    → first < later → slice_get (points stream window) first ≡ Some point
    → slice_get (points stream window) later ≡ Some other
    → shown_point contents stream meter point ≢ shown_point contents stream meter other

-- the text that is shown under a label, empty where none is
abbrev pub text_at : List Label → List ℕ → List ℕ
text_at [] name = []
text_at (label ∷ labels) name =
    if bytes_eq label.0 name && is_some label.1 then label.1 else text_at labels name

-- Of texts, of which each stands under a label with so many `exported_`: whether as many stand
-- there as here, from one `exported_` on.
abbrev pub are_shown : (ℕ → List ℕ) → ℕ → Bool
are_shown texts many = list_all (λ n. is_some (texts (suc n))) (range_with_len 0 many)

-- # what a server holds (Prometheus, scrape configuration, honor_labels) [held_by, AreOne]
-- The text of a label that a server writes itself goes to the first label with one `exported_` or
-- more that the series does not have; what it holds under the label with one more than so many.
abbrev pub held_by : (ℕ → List ℕ) → ℕ → List ℕ
held_by texts many =
    if is_some (texts (suc many)) then texts (suc many)
    else (if are_shown texts many then texts 0 else [])

abbrev pub texts_of : List Label → List ℕ → ℕ → List ℕ
texts_of labels own n = text_at labels (exported n own)

-- A server holds the same of both.
pub record AreOne (labels others : List Label) : Type 0 where
  pub moved : (own : List ℕ) (many : ℕ) → is_among server_labels own ≡ true
      → held_by (texts_of labels own) many ≡ held_by (texts_of others own) many
  pub apart : (name : List ℕ)
      → ((own : List ℕ) (n : ℕ) → is_among server_labels own ≡ true → exported n own ≢ name)
      → text_at labels name ≡ text_at others name

-- No two points of a window, the overflow point too, are one series of a server.
abbrev pub PointsStayApart : Type 0
PointsStayApart =
    (contents : Contents) (streams : List Stream) (reader number : ℕ) (stream : Stream)
    (meter : Meter) (window : List Entry) (first later : ℕ) (point other : Point)
    → Passes contents streams reader number stream → meter_of contents stream ≡ Some meter
    → length stream.kept ≡ length (keys_of contents stream) → AreFull contents stream window
    → first < later → slice_get (points stream window) first ≡ Some point
    → slice_get (points stream window) later ≡ Some other
    → AreOne (shown_point contents stream meter point) (shown_point contents stream meter other)
    → ⊥

-- Two streams that claim one name, with their meters.
pub record AreGathered (contents : Contents) (streams : List Stream) (reader number : ℕ)
    (stream : Stream) (before : ℕ) (other : Stream) (meter own : Meter) : Type 0 where
  pub passes : Passes contents streams reader number stream
  pub passed : Passes contents streams reader before other
  pub less : before < number
  pub name : List ℕ
  pub claimed : is_among (claims_of other) name ≡ true
  pub claims : is_among (claims_of stream) name ≡ true
  pub meter_is : meter_of contents other ≡ Some meter
  pub own_is : meter_of contents stream ≡ Some own

-- No points of such streams are shown with the same labels, and none are one series of a server.
abbrev pub GatheredAreApart : Type 0
GatheredAreApart =
    (contents : Contents) (streams : List Stream) (reader number : ℕ) (stream : Stream)
    (before : ℕ) (other : Stream) (meter own : Meter) (point its : Point)
    → AreGathered contents streams reader number stream before other meter own
    → shown_point contents other meter point ≢ shown_point contents stream own its

abbrev pub GatheredStayApart : Type 0
GatheredStayApart =
    (contents : Contents) (streams : List Stream) (reader number : ℕ) (stream : Stream)
    (before : ℕ) (other : Stream) (meter own : Meter) (point its : Point)
    → AreGathered contents streams reader number stream before other meter own
    → AreOne (shown_point contents other meter point) (shown_point contents stream own its) → ⊥

-- the sums of the first counts, of one more each time
abbrev pub running : ℕ → List ℕ → List ℕ
running before [] = []
running before (count ∷ counts) = (before + count) ∷ running (before + count) counts

-- # buckets that rise (Prometheus data model, histogram) [RisesTo, BucketsRise]
-- Running sums of a point's counts rise, and the last is the point's count.
abbrev pub RisesTo : ℕ → ℕ → List ℕ → Type 0
RisesTo count from [] = from ≡ count
RisesTo count from (sum ∷ sums) = (from ≤ sum) × RisesTo count sum sums

abbrev pub BucketsRise : PointValue → Type 0
BucketsRise (Sum value) = Unit {0}
BucketsRise (Last value) = Unit {0}
BucketsRise (Buckets count counts sum min max) = RisesTo count 0 (running 0 counts)

-- The buckets of each point of a window rise up to its count.
abbrev pub ReportedBucketsRise : Type 0
ReportedBucketsRise =
    (stream : Stream) (window : List Entry) (place : ℕ) (point : Point)
    → slice_get (points stream window) place ≡ Some point → BucketsRise point.value
