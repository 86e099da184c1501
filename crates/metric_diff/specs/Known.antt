-- What streams and instruments of an old and a new catalogue and config are known by.
use Rattle.std.specs.Prelude.{ℕ, Bool, false, not, ◌&&◌, ◌+◌, is_some, List, ◌++◌, length, map}
use Rattle.std.specs.Prelude.{codes, Option, unwrap_or, if◌then◌else◌}
use Rattle.std.specs.Prelude.{Some, None, slice_get, slice_index_or, decimal}
use Rattle.std.specs.List.{enumerate_from, position_from}
use Rattle.std.specs.Option.{option_map_or}
use Rattle.std.specs.Str.{bytes_eq}
use Rattle.metric_names.specs.Names.{folded}
use Rattle.metric_contents.specs.declared.contents.Contents.{Contents}
use Rattle.metric_contents.specs.declared.contents.Instrument.{Instrument}
use Rattle.metric_contents.specs.declared.contents.Meter.{Meter}
use Rattle.metric_views.specs.declared.config.Reader.{Reader}
use Rattle.metric_views.specs.declared.stream.Stream.{Stream}
use Rattle.metric_diff.specs.declared.numbers.Renaming.{Renaming}
use Rattle.metric_diff.specs.declared.numbers.Renaming.TheVariants.{Allowed, Refused}

-- the readers have one name
abbrev pub is_reader : Reader → Reader → Bool
is_reader reader other = bytes_eq other.name reader.name

-- one is none of these
abbrev pub is_none_of : {A : Type 0} → (A → A → Bool) → List A → A → Bool
is_none_of is news old = not (is_some (position_from (is old) 0 news))

-- there is an old one of this number, and it is none of the new ones
abbrev pub is_left : {A : Type 0} → (A → A → Bool) → List A → List A → ℕ → Bool
is_left is olds news number = option_map_or (is_none_of is news) (slice_get olds number) false

-- of what is known by no name: the number of the old one at its place, where it may be that one
-- under another name; else a number that no old one has
abbrev pub new_number : {A : Type 0} → (A → A → Bool) → Renaming → List A → List A → ℕ → ℕ
new_number is Allowed olds news number =
    if is_left is olds news number then number else length olds + number
new_number is Refused olds news number = length olds + number

-- the old number of what is known
abbrev pub number_by : {A : Type 0} → (A → A → Bool) → Renaming → List A → List A → ℕ × A → ℕ
number_by is renaming olds news own =
    unwrap_or (position_from (is own.1) 0 olds) (new_number is renaming olds news own.0)

abbrev pub numbers_by : {A : Type 0} → (A → A → Bool) → Renaming → List A → List A → List ℕ
numbers_by is renaming olds news = map (number_by is renaming olds news) (enumerate_from 0 news)

-- the numbers of a config's readers: one may have another name
abbrev pub numbers_of_readers : List Reader → List Reader → List ℕ
numbers_of_readers olds news = numbers_by is_reader Allowed olds news

-- the meters have one name, version and schema URL
abbrev pub is_meter : Meter → Meter → Bool
is_meter meter other =
    bytes_eq other.name meter.name
    && (bytes_eq other.version meter.version && bytes_eq other.schema_url meter.schema_url)

-- # what is known in both (data model, identity; API, instrument name) [known_text, stream_name]
-- The reader's number, the meter's, and the name folded to ASCII lower case. The readers of one
-- name, and the meters of one name, version and schema URL, have one number; so has a reader of a
-- new name at the place of one whose name is gone.
abbrev pub known_text : ℕ → ℕ → List ℕ → List ℕ
known_text reader meter name =
    decimal reader ++ (codes " " ++ (decimal meter ++ (codes " " ++ folded name)))

abbrev pub meter_with : Option Instrument → ℕ
meter_with None = 0
meter_with (Some instrument) = instrument.meter

-- what a stream is known by, by the numbers of readers and meters
abbrev pub stream_name : List ℕ → List ℕ → Contents → Stream → List ℕ
stream_name readers meters contents stream =
    known_text (slice_index_or readers stream.reader 0)
    (slice_index_or meters (meter_with (slice_get contents.instruments stream.instrument)) 0)
    stream.name

-- what an instrument is known by
abbrev pub instrument_name : List ℕ → Instrument → List ℕ
instrument_name meters instrument =
    known_text 0 (slice_index_or meters instrument.meter 0) instrument.name

-- the first place of a name
abbrev pub place_of : List (List ℕ) → List ℕ → Option ℕ
place_of names name = position_from (λ other. bytes_eq name other) 0 names
