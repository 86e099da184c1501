-- What looks like a mistake in a catalogue and a config. The remarks stand in a fixed order.
use Rattle.std.specs.Prelude.{◌≡◌, ◌==◌, ℕ, Bool, true, false, not, ◌&&◌, ◌||◌, is_some, nat_lt}
use Rattle.std.specs.Prelude.{if◌then◌else◌, List, [], ◌∷◌, ◌++◌, length, map, Option, Some, None}
use Rattle.std.specs.Prelude.{slice_get, slice_index_or}
use Rattle.std.specs.List.{AllZip, enumerate_from, flat_map, list_all, list_any}
use Rattle.metric_contents.specs.declared.contents.Contents.{Contents}
use Rattle.metric_contents.specs.declared.contents.Instrument.{Instrument}
use Rattle.metric_contents.specs.declared.contents.Recorder.{Recorder}
use Rattle.metric_contents.specs.Budgets.{amount_of}
use Rattle.metric_contents.specs.KeyNames.{is_key}
use Rattle.metric_views.specs.declared.config.Config.{Config}
use Rattle.metric_views.specs.declared.config.Settings.{Settings}
use Rattle.metric_views.specs.declared.config.View.{View}
use Rattle.metric_views.specs.declared.stream.Stream.{Stream}
use Rattle.metric_resolve.specs.declared.warning.Warning.{Warning}
use Rattle.metric_resolve.specs.declared.warning.Warning.TheVariants as warnings
use Rattle.metric_resolve.specs.Applying.{all_instruments, all_views, is_selected}
use Rattle.metric_resolve.specs.Resolved.{streams_of}
use Rattle.metric_resolve.specs.Warnings.{warnings_of}
use Rattle.metric_lint.specs.declared.headroom.Headroom.{Headroom}
use Rattle.metric_lint.specs.declared.remark.KeyList.{KeyList}
use Rattle.metric_lint.specs.declared.remark.KeyList.TheVariants.{Keep, Exclude}
use Rattle.metric_lint.specs.declared.remark.Remark.{Remark}
use Rattle.metric_lint.specs.declared.remark.Remark.TheVariants as remarks
use Rattle.metric_lint.specs.Headrooms.{IsHeadroom}
use Rattle.metric_lint.specs.Collected.{collected_remarks, is_histogram}
use Rattle.metric_lint.specs.Said.{said_remarks}
use Rattle.metric_lint.specs.Unused.{unused_remarks}
use Rattle.metric_lint.specs.Values.{stream_remarks, value_remarks}
use Rattle.metric_lint.specs.When.{when}

-- what the config is warned of
abbrev pub remark_of : Warning → Remark
remark_of (warnings.Unfit view instrument) = remarks.Unfit view instrument
remark_of (warnings.Collision a b) = remarks.Collision a b

-- of each instrument whether the view of a number selects it
unfoldable pub selection_of : Contents → Config → ℕ → List Bool
selection_of contents config view =
    map (λ instrument. is_selected contents config instrument view) (all_instruments contents)

abbrev pub declares_with : Option Instrument → List ℕ → Bool
declares_with None name = false
declares_with (Some instrument) name = list_any (is_key name) instrument.keys

-- the instrument of a number declares the key
abbrev pub declares_at : Contents → ℕ → List ℕ → Bool
declares_at contents instrument name =
    declares_with (slice_get contents.instruments instrument) name

-- some selected instrument declares the key
abbrev pub is_declared_by : Contents → List Bool → List ℕ → Bool
is_declared_by contents selection name =
    list_any (λ selected. selected.1 && declares_at contents selected.0 name)
    (enumerate_from 0 selection)

-- no selected instrument declares the key with its place in a list
abbrev pub key_remark : Contents → List Bool → ℕ → KeyList → ℕ × List ℕ → List Remark
key_remark contents selection view list key =
    when (not (is_declared_by contents selection key.1)) (remarks.UnknownKey view list key.0)

-- the keys of a list
abbrev pub key_remarks : Contents → List Bool → ℕ → KeyList → List (List ℕ) → List Remark
key_remarks contents selection view list keys =
    flat_map (key_remark contents selection view list) (enumerate_from 0 keys)

abbrev pub list_remarks : Contents → List Bool → ℕ → KeyList → Option (List (List ℕ)) → List Remark
list_remarks contents selection view list None = []
list_remarks contents selection view list (Some keys) =
    key_remarks contents selection view list keys

-- what a view keeps and excludes
abbrev pub lists_remarks : Contents → List Bool → Settings → ℕ → List Remark
lists_remarks contents selection settings view =
    list_remarks contents selection view Keep settings.keep
    ++ list_remarks contents selection view Exclude settings.exclude

-- it selects nothing, or what it keeps and excludes
unfoldable pub settings_remarks : Contents → List Bool → Settings → ℕ → List Remark
settings_remarks contents selection settings view =
    if list_any (λ selected. selected) selection
    then lists_remarks contents selection settings view
    else remarks.SelectsNothing view ∷ []

abbrev pub is_view : ℕ → Option ℕ → Bool
is_view view None = false
is_view view (Some own) = own == view

-- the stream is of the view, and a histogram
abbrev pub is_histogram_of : ℕ → Stream → Bool
is_histogram_of view stream = is_view view stream.view && is_histogram stream.aggregation

-- some stream of the view is a histogram
abbrev pub makes_histogram : List Stream → ℕ → Bool
makes_histogram streams view = list_any (is_histogram_of view) streams

-- the view gives boundaries, and makes no histogram for the readers that there are
abbrev pub boundaries_remarks : Config → Settings → Bool → ℕ → List Remark
boundaries_remarks config settings histogram view =
    when (is_some settings.boundaries && not (histogram || length config.readers == 0))
    (remarks.UnusedBoundaries view)

abbrev pub view_remarks_with : Contents → Config → Bool → Option View → ℕ → List Remark
view_remarks_with contents config histogram None view = []
view_remarks_with contents config histogram (Some own) view =
    settings_remarks contents (selection_of contents config view) own.settings view
    ++ boundaries_remarks config own.settings histogram view ++ said_remarks own view

-- the view of a number, where it is known of each view whether it makes a histogram
unfoldable pub view_remarks : Contents → Config → List Bool → ℕ → List Remark
view_remarks contents config histograms view =
    view_remarks_with contents config (slice_index_or histograms view false)
    (slice_get config.views view) view

-- there are recorders, and none may record on an instrument that has so much to spare
abbrev pub is_unrecorded : List Recorder → ℕ → ℕ → Bool
is_unrecorded recorders spare instrument =
    spare == 0 && (not (length recorders == 0)
    && list_all (λ recorder. amount_of recorder instrument == 0) recorders)

-- nobody can record on the instrument of a number; its values, and those in no combination
abbrev pub own_remarks : List Recorder → Option Instrument → ℕ → List Remark
own_remarks recorders None instrument = []
own_remarks recorders (Some own) instrument =
    when (is_unrecorded recorders own.spare instrument) (remarks.Unrecorded instrument)
    ++ (value_remarks own instrument ++ unused_remarks own instrument)

-- the budgets and the spare are above the headroom
abbrev pub room_remarks : Option Headroom → ℕ → List Remark
room_remarks None instrument = []
room_remarks (Some room) instrument =
    when (nat_lt room.most room.total) (remarks.OverBudget instrument room.limit)

-- the instrument of a number
unfoldable pub instrument_remarks : Contents → List Headroom → ℕ → List Remark
instrument_remarks contents rooms instrument =
    own_remarks contents.recorders (slice_get contents.instruments instrument) instrument
    ++ room_remarks (slice_get rooms instrument) instrument

-- a recorder has no budget
abbrev pub is_idle : Recorder → Bool
is_idle recorder = list_all (λ budget. budget.amount == 0) recorder.budgets

abbrev pub recorder_remark : ℕ × Recorder → List Remark
recorder_remark recorder = when (is_idle recorder.1) (remarks.NoBudget recorder.0)

abbrev pub recorder_remarks : List Recorder → List Remark
recorder_remarks recorders = flat_map recorder_remark (enumerate_from 0 recorders)

-- there are instruments, and each has something to spare, which any recorder may take
abbrev pub are_shared : List Instrument → Bool
are_shared instruments =
    not (length instruments == 0)
    && list_all (λ instrument. not (instrument.spare == 0)) instruments

abbrev pub idle_remarks : List Instrument → List Recorder → List Remark
idle_remarks instruments recorders =
    if are_shared instruments then [] else recorder_remarks recorders

-- each recorder without a budget, unless each instrument has something to spare, and that there is
-- no recorder
abbrev pub all_recorder_remarks : Contents → List Remark
all_recorder_remarks contents =
    idle_remarks contents.instruments contents.recorders
    ++ when (length contents.recorders == 0) remarks.NoRecorder

-- # remark (profile) [remarks_of, AreRemarks]
-- A view that does not fit, selects nothing or says nothing, two streams of one identity, a listed
-- key that no selected instrument declares or that is kept and excluded, boundaries without a
-- histogram or of which one bucket takes each value, an instrument that nobody can record on, that
-- lists no combination or has one value that tells nothing, a value in no combination, a recorder
-- without any budget, no recorder, budgets above the headroom, a reader without a stream or with
-- delta streams of what has a level, no reader.
abbrev pub remarks_of : Contents → Config → List Headroom → List Remark
remarks_of contents config rooms =
    map remark_of (warnings_of contents config)
    ++ flat_map (view_remarks contents config
    (map (makes_histogram (streams_of contents config)) (all_views config))) (all_views config)
    ++ flat_map (instrument_remarks contents rooms) (all_instruments contents)
    ++ stream_remarks contents (streams_of contents config)
    ++ all_recorder_remarks contents
    ++ collected_remarks contents config (streams_of contents config)

-- They are exactly the remarks that hold, in order.
pub record AreRemarks (contents : Contents) (config : Config) (all : List Remark) : Type 0 where
  pub rooms : List Headroom
  pub are_rooms : AllZip (IsHeadroom contents (streams_of contents config))
      (all_instruments contents) rooms
  pub are : all ≡ remarks_of contents config rooms
