-- What a change of a catalogue or a config does.
use Rattle.std.specs.Prelude.{ℕ, Bool, false, not, ◌==◌, is_some, List, [], ◌∷◌, ◌++◌, map, Option}
use Rattle.std.specs.Prelude.{Some, None, slice_get, decimal, if◌then◌else◌}
use Rattle.std.specs.List.{enumerate_from, flat_map}
use Rattle.std.specs.Option.{option_map, option_map_or}
use Rattle.std.specs.Str.{bytes_eq}
use Rattle.metric_contents.specs.declared.contents.Contents.{Contents}
use Rattle.metric_views.specs.declared.config.Config.{Config}
use Rattle.metric_views.specs.declared.config.Reader.{Reader}
use Rattle.metric_views.specs.declared.stream.Stream.{Stream}
use Rattle.metric_lint.specs.declared.headroom.Headroom.{Headroom}
use Rattle.metric_diff.specs.declared.change.Change.{Change}
use Rattle.metric_diff.specs.declared.change.Change.TheVariants as changes
use Rattle.metric_diff.specs.declared.named.Sort.{Sort}
use Rattle.metric_diff.specs.declared.named.Sort.TheVariants as sorts
use Rattle.metric_diff.specs.declared.numbers.Renaming.TheVariants.{Refused}
use Rattle.metric_diff.specs.declared.side.Side.{Side}
use Rattle.metric_diff.specs.Instruments.{declared_with}
use Rattle.metric_diff.specs.Known.{instrument_name, is_meter, numbers_by, numbers_of_readers}
use Rattle.metric_diff.specs.Known.{place_of, stream_name}
use Rattle.metric_diff.specs.Parts.{differences_with, when}

-- What a catalogue and a config declare, and what they give.
pub record Plan : Type 0 where
  pub contents : Contents
  pub config : Config
  pub streams : List Stream
  pub series : List ℕ
  pub rooms : List Headroom

abbrev pub plan : Contents → Config → List Stream → List ℕ → List Headroom → Plan
plan contents config streams series rooms = record {
  contents = contents;
  config = config;
  streams = streams;
  series = series;
  rooms = rooms;
}

abbrev pub plan_of : Side → Plan
plan_of side =
    plan side.catalogue.now side.config.now side.streams.now side.series.now side.rooms.now

-- what the readers of one of the two plans are known by
unfoldable pub reader_names : Plan → Plan → List (List ℕ)
reader_names old plan = map decimal (numbers_of_readers old.config.readers plan.config.readers)

abbrev pub meter_numbers : Plan → Plan → List ℕ
meter_numbers old plan = numbers_by is_meter Refused old.contents.meters plan.contents.meters

-- what the streams of one of the two plans are known by
unfoldable pub stream_names : Plan → Plan → List (List ℕ)
stream_names old plan =
    map (stream_name (numbers_of_readers old.config.readers plan.config.readers)
    (meter_numbers old plan) plan.contents) plan.streams

-- what the instruments of one of the two plans are known by
unfoldable pub instrument_names : Plan → Plan → List (List ℕ)
instrument_names old plan =
    map (instrument_name (meter_numbers old plan)) plan.contents.instruments

-- the stream of a number is the first of its name
abbrev pub is_first : (List ℕ → Option ℕ) → ℕ × List ℕ → Bool
is_first find name = option_map_or (λ place. place == name.0) (find name.1) false

-- the name of a stream where an earlier one has it, else nothing
abbrev pub repeated : (List ℕ → Option ℕ) → ℕ × List ℕ → List ℕ
repeated find name = if is_first find name then [] else name.1

-- what the streams are known by that have the name of an earlier one. Nothing stands for each other
-- one, and last, so that nothing is known in both.
unfoldable pub collision_names : Plan → Plan → List (List ℕ)
collision_names old plan =
    map (repeated (place_of (stream_names old plan))) (enumerate_from 0 (stream_names old plan))
    ++ [] ∷ []

-- the names of a plan's recorders
abbrev pub recorder_names : Plan → List (List ℕ)
recorder_names plan = map (λ recorder. recorder.name) plan.contents.recorders

-- both are there, and have other names
abbrev pub has_other_name : Option Reader → Option Reader → Bool
has_other_name (Some old) (Some new) = not (bytes_eq old.name new.name)
has_other_name old new = false

-- the old reader of a number goes, or has another name
abbrev pub reader_change : List Reader → List Reader → ℕ → Option ℕ → List Change
reader_change olds news number None = changes.ReaderGone number ∷ []
reader_change olds news number (Some other) =
    when (has_other_name (slice_get olds number) (slice_get news other))
    (changes.ReaderRenamed number other)

-- a change, where both numbers are there and differ
abbrev pub when_other : Change → Option ℕ → Option ℕ → List Change
when_other change (Some one) (Some other) = when (not (one == other)) change
when_other change one other = []

-- what two streams of one name differ in
abbrev pub stream_differences : Plan → Plan → ℕ → ℕ → List Change
stream_differences old new number other =
    differences_with old.contents new.contents number other (slice_get old.streams number)
    (slice_get new.streams other)
    ++ when_other (changes.SeriesChanged number other) (slice_get old.series number)
    (slice_get new.series other)

-- the old stream of a number goes, or differs from the new one of its name
abbrev pub stream_change : Plan → Plan → ℕ → Option ℕ → List Change
stream_change old new number None = changes.StreamGone number ∷ []
stream_change old new number (Some other) = stream_differences old new number other

-- the greatest sum of budgets and spare that is safe
abbrev pub most_at : List Headroom → ℕ → Option ℕ
most_at rooms number = option_map (λ room. room.most) (slice_get rooms number)

-- what two instruments of one name differ in
abbrev pub instrument_differences : Plan → Plan → ℕ → ℕ → List Change
instrument_differences old new number other =
    declared_with old.contents new.contents number other
    (slice_get old.contents.instruments number) (slice_get new.contents.instruments other)
    ++ when_other (changes.HeadroomChanged number other) (most_at old.rooms number)
    (most_at new.rooms other)

-- the old instrument of a number goes, or differs from the new one of its name
abbrev pub instrument_change : Plan → Plan → ℕ → Option ℕ → List Change
instrument_change old new number None = changes.InstrumentGone number ∷ []
instrument_change old new number (Some other) = instrument_differences old new number other

-- a change, where there is no new one of a name
abbrev pub unless_found : Change → Option ℕ → List Change
unless_found change found = when (not (is_some found)) change

abbrev pub names : Sort → Plan → Plan → List (List ℕ)
names sorts.Readers old plan = reader_names old plan
names sorts.Streams old plan = stream_names old plan
names sorts.Collisions old plan = collision_names old plan
names sorts.Instruments old plan = instrument_names old plan
names sorts.Recorders old plan = recorder_names plan

abbrev pub change : Sort → Plan → Plan → ℕ → Option ℕ → List Change
change sorts.Readers old new number found =
    reader_change old.config.readers new.config.readers number found
change sorts.Streams old new number found = stream_change old new number found
change sorts.Collisions old new number found = unless_found (changes.CollisionGone number) found
change sorts.Instruments old new number found = instrument_change old new number found
change sorts.Recorders old new number found = unless_found (changes.RecorderGone number) found

abbrev pub change_by : Sort → (List ℕ → Option ℕ) → Plan → Plan → ℕ × List ℕ → List Change
change_by sort find old new name = change sort old new name.0 (find name.1)

abbrev pub coming : Sort → ℕ → Change
coming sorts.Readers number = changes.ReaderNew number
coming sorts.Streams number = changes.StreamNew number
coming sorts.Collisions number = changes.CollisionNew number
coming sorts.Instruments number = changes.InstrumentNew number
coming sorts.Recorders number = changes.RecorderNew number

-- the new one of a name is none of the old ones
abbrev pub new_by : Sort → (List ℕ → Option ℕ) → ℕ × List ℕ → List Change
new_by sort find name = when (not (is_some (find name.1))) (coming sort name.0)

-- those that go or differ, in the order of the old ones, and then those that are new
unfoldable pub sort_changes : Sort → Plan → Plan → List Change
sort_changes sort old new =
    flat_map (change_by sort (place_of (names sort old new)) old new)
    (enumerate_from 0 (names sort old old))
    ++ flat_map (new_by sort (place_of (names sort old old)))
    (enumerate_from 0 (names sort old new))

-- # change (profile) [changes_of]
-- The readers that go or differ, and those that are new; and the same of streams, of those that
-- have the name of an earlier one, of instruments and of recorders. Of several streams of one name
-- the first is compared.
abbrev pub changes_of : Plan → Plan → List Change
changes_of old new =
    sort_changes sorts.Readers old new
    ++ (sort_changes sorts.Streams old new
    ++ (sort_changes sorts.Collisions old new
    ++ (sort_changes sorts.Instruments old new ++ sort_changes sorts.Recorders old new)))
