-- Where a fault stands in its text.
use Rattle.std.specs.Prelude.{◌≡◌, ℕ, ◌+◌, ◌-◌, List, [], ◌∷◌, Option, Some, None, slice_get}
use Rattle.std.specs.Prelude.{Bool, false, codes, if◌then◌else◌, is_some, nat_lt, unwrap_or}
use Rattle.std.specs.List.{list_any}
use Rattle.toml.specs.Data.{Data, integer, table as table_data, Members, get_member}
use Rattle.toml.specs.Parse.{parse_document}
use Rattle.metric_table.specs.Fields.{as_list, number_between}
use Rattle.metric_catalogue.specs.Catalogues.{is_three}
use Rattle.metric_catalogue.specs.declared.fault.CataloguePlace.{CataloguePlace}
use Rattle.metric_catalogue.specs.declared.fault.CataloguePlace.TheVariants.{Instrument, Recorder}
use Rattle.metric_catalogue.specs.declared.fault.CataloguePlace.TheVariants as tops
use Rattle.metric_views.specs.declared.fault.ConfigPlace.TheVariants.{Top, View, Reader}
use Rattle.metric_views.specs.declared.stream.Stream.{Stream}
use Rattle.metric_resolve.specs.Resolved.{streams_of}
use Rattle.metric_lint.specs.declared.limit.Limit.{Limit}
use Rattle.metric_lint.specs.declared.limit.Limit.TheVariants.{Count, Amount, SumLow, SumHigh}
use Rattle.metric_lint.specs.declared.limit.Limit.TheVariants.{Series}
use Rattle.metric_lint.specs.declared.position.Position.{Position}
use Rattle.metric_lint.specs.declared.remark.Remark.{Remark}
use Rattle.metric_lint.specs.declared.remark.Remark.TheVariants as remarks
use Rattle.metric_lint.specs.Positions.{catalogue_place, config_place, located}
use Rattle.metric_make.specs.declared.fault.MakeFault.{MakeFault}
use Rattle.metric_make.specs.declared.fault.MakeFault.TheVariants as faults
use Rattle.metric_messages.specs.declared.places.Place.{Place}
use Rattle.metric_messages.specs.declared.places.Place.TheVariants.{Catalogue, Config}
use Rattle.metric_messages.specs.declared.sources.Pair.{Pair}

-- for how many recorders a table stands
abbrev pub seats_in : Option Data → ℕ
seats_in (Some (integer count)) = unwrap_or (number_between 1 64 count) 1
seats_in _ = 1

abbrev pub seats_of : Data → ℕ
seats_of (table_data fields) = seats_in (get_member (codes "count") fields)
seats_of _ = 1

-- # table of a recorder (profile) [table_of, written]
-- The one that stands for the recorder of a number: in format 3 a table may stand for several.
abbrev pub table_of : ℕ → List Data → ℕ
table_of number [] = number
table_of number (first ∷ others) =
    if nat_lt number (seats_of first) then 0 else table_of (number - seats_of first) others + 1

abbrev pub tables_in : Option Data → List Data
tables_in None = []
tables_in (Some d) = unwrap_or (as_list d) []

abbrev pub table_within : ℕ → Option Members → ℕ
table_within number None = number
table_within number (Some top) =
    if is_three (get_member (codes "format") top)
    then table_of number (tables_in (get_member (codes "recorder") top)) else number

abbrev pub written : List ℕ → CataloguePlace → CataloguePlace
written text (Recorder number) = Recorder (table_within number (parse_document text))
written text place = place

-- a meter has groups
abbrev pub has_group : Data → Bool
has_group (table_data meter) = is_some (get_member (codes "group") meter)
has_group _ = false

abbrev pub has_groups : Option Members → Bool
has_groups None = false
has_groups (Some top) = list_any has_group (tables_in (get_member (codes "meter") top))

-- headers do not tell an instrument of a number where meters have groups
abbrev pub is_untold : List ℕ → CataloguePlace → Bool
is_untold text (Instrument number) = has_groups (parse_document text)
is_untold text place = false

abbrev pub standing_table : List ℕ → CataloguePlace → Option Position
standing_table text place =
    if is_untold text place then None else located text (catalogue_place (written text place))

-- where the table of a place stands in the texts of a catalogue and a config
abbrev pub standing : List ℕ → List ℕ → Place → Option Position
standing catalogue config (Catalogue place) = standing_table catalogue place
standing catalogue config (Config place) = located config (config_place place)

-- the file that a place is in
abbrev pub file_of : Pair → Place → List ℕ
file_of pair (Catalogue place) = pair.catalogue_source.name.now
file_of pair (Config place) = pair.config_source.name.now

-- the streams that a pair gives
abbrev pub streams_in : Pair → List Stream
streams_in pair = streams_of pair.catalogue.now pair.config.now

-- the view of a stream, or another place where it has none
abbrev pub view_or : Option ℕ → Place → Place
view_or None place = place
view_or (Some view) place = Config (View view)

abbrev pub view_of : Option Stream → Option ℕ
view_of None = None
view_of (Some stream) = stream.view

-- the view of a stream, else its reader
abbrev pub place_of_series : Option Stream → Place
place_of_series None = Config Top
place_of_series (Some stream) = view_or stream.view (Config (Reader stream.reader))

-- the view of a stream, else its instrument
abbrev pub place_of_stream : Option Stream → Place
place_of_stream None = Config Top
place_of_stream (Some stream) = view_or stream.view (Catalogue (Instrument stream.instrument))

-- of two streams the view of the later one, else of the first
abbrev pub place_of_two : Option Stream → Option Stream → Place
place_of_two first later = view_or (view_of later) (view_or (view_of first) (Catalogue tops.Top))

-- where a limit of an instrument is told of: at the instrument by its own numbers, else at the
-- stream
abbrev pub place_of_limit : List Stream → ℕ → Limit → Place
place_of_limit streams instrument (Series stream) = place_of_series (slice_get streams stream)
place_of_limit streams instrument Count = Catalogue (Instrument instrument)
place_of_limit streams instrument Amount = Catalogue (Instrument instrument)
place_of_limit streams instrument SumLow = Catalogue (Instrument instrument)
place_of_limit streams instrument SumHigh = Catalogue (Instrument instrument)

-- the table that a remark is about, where these are the streams
abbrev pub place_of_remark : List Stream → Remark → Place
place_of_remark streams (remarks.Unfit view instrument) = Config (View view)
place_of_remark streams (remarks.Collision first later) =
    place_of_two (slice_get streams first) (slice_get streams later)
place_of_remark streams (remarks.SelectsNothing view) = Config (View view)
place_of_remark streams (remarks.UnknownKey view list at) = Config (View view)
place_of_remark streams (remarks.UnusedBoundaries view) = Config (View view)
place_of_remark streams (remarks.SaysNothing view) = Config (View view)
place_of_remark streams (remarks.KeptAndExcluded view at) = Config (View view)
place_of_remark streams (remarks.Unrecorded instrument) = Catalogue (Instrument instrument)
place_of_remark streams (remarks.NothingAllowed instrument) = Catalogue (Instrument instrument)
place_of_remark streams (remarks.OneValue instrument) = Catalogue (Instrument instrument)
place_of_remark streams (remarks.UnusedValue instrument key value) =
    Catalogue (Instrument instrument)
place_of_remark streams (remarks.OneBucket stream) = place_of_stream (slice_get streams stream)
place_of_remark streams (remarks.FarBoundaries stream) =
    place_of_stream (slice_get streams stream)
place_of_remark streams (remarks.OverBudget instrument limit) =
    place_of_limit streams instrument limit
place_of_remark streams (remarks.NoBudget recorder) = Catalogue (Recorder recorder)
place_of_remark streams remarks.NoRecorder = Catalogue tops.Top
place_of_remark streams (remarks.NoStream reader) = Config (Reader reader)
place_of_remark streams (remarks.LevelDelta reader kind) = Config (Reader reader)
place_of_remark streams remarks.NoReader = Config Top

-- # where a remark stands (profile) [RemarkStands, place_of_remark]
-- A remark stands where the table does that it is about; two streams of one identity at the view of
-- the later one, else of the first; too many series at the view of their stream, else at its
-- reader.
abbrev pub RemarkStands : Pair → Remark → Option Position → Type 0
RemarkStands pair remark position =
    position ≡ standing pair.catalogue_source.text.now pair.config_source.text.now
    (place_of_remark (streams_in pair) remark)

-- the file that is named for a remark: that of the same table
abbrev pub RemarkNames : Pair → Remark → List ℕ → Type 0
RemarkNames pair remark file = file ≡ file_of pair (place_of_remark (streams_in pair) remark)

-- where the part of safety is told of that fails first, where these are the streams
abbrev pub place_of_fault : List Stream → MakeFault → Place
place_of_fault streams (faults.Collision first later) =
    place_of_two (slice_get streams first) (slice_get streams later)
place_of_fault streams (faults.LimitExceeded stream reader instrument) =
    place_of_series (slice_get streams stream)
place_of_fault streams (faults.SumLow instrument) = Catalogue (Instrument instrument)
place_of_fault streams (faults.SumHigh instrument) = Catalogue (Instrument instrument)
place_of_fault streams (faults.CountRange instrument) = Catalogue (Instrument instrument)
place_of_fault streams (faults.AmountRange instrument) = Catalogue (Instrument instrument)
place_of_fault streams faults.Memory = Catalogue tops.Top

-- # where a part of safety stands (profile) [PartStands, place_of_fault]
-- The part that fails first stands at its instrument; two streams of one identity at the view of
-- the later one, else of the first; too many series at the view of their stream, else at its
-- reader.
abbrev pub PartStands : Pair → MakeFault → Option Position → Type 0
PartStands pair fault position =
    position ≡ standing pair.catalogue_source.text.now pair.config_source.text.now
    (place_of_fault (streams_in pair) fault)

-- the file that is named for a part of safety: that of the same table
abbrev pub PartNames : Pair → MakeFault → List ℕ → Type 0
PartNames pair fault file = file ≡ file_of pair (place_of_fault (streams_in pair) fault)
