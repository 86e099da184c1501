-- The names that a plan declares, and the warnings that its config gets.
use Rattle.std.specs.Prelude.{ℕ, ◌==◌, List, Option, None, option_map, slice_get}
use Rattle.std.specs.Prelude.{if◌then◌else◌}
use Rattle.std.specs.List.{flat_map}
use Rattle.metric_contents.specs.declared.contents.Contents.{Contents}
use Rattle.metric_contents.specs.declared.contents.Instrument.{Instrument}
use Rattle.metric_contents.specs.declared.contents.Recorder.{Recorder}
use Rattle.metric_meaning.specs.Meanings.{meter_name}
use Rattle.metric_lines.specs.Streams.{warning_text}
use Rattle.metric_resolve.specs.Warnings.{warnings_of}
use Rattle.metric_views.specs.declared.config.Reader.{Reader}
use Rattle.metric_views.specs.declared.config.Setup.{Setup}
use Rattle.metric_plan.specs.Plans.{PlanValue}

-- the name of the instrument of a number
abbrev pub instrument_name : Contents → ℕ → Option (List ℕ)
instrument_name contents number =
    option_map (λ (i : Instrument). i.name) (slice_get contents.instruments number)

-- that of the recorder of a number
abbrev pub recorder_name : Contents → ℕ → Option (List ℕ)
recorder_name contents number =
    option_map (λ (r : Recorder). r.name) (slice_get contents.recorders number)

-- that of the reader of a number
abbrev pub reader_name : Setup → ℕ → Option (List ℕ)
reader_name setup number = option_map (λ (r : Reader). r.name) (slice_get setup.readers number)

-- the name of what a host names by a kind and a number
abbrev pub name_of : PlanValue → ℕ → ℕ → Option (List ℕ)
name_of plan kind number =
    if kind == 0 then instrument_name plan.facts.contents number
    else (if kind == 1 then meter_name plan.facts.contents number
    else (if kind == 2 then recorder_name plan.facts.contents number
    else (if kind == 3 then reader_name plan.config number else None)))

-- a line for each view that does not fit, and for each collision
abbrev pub warnings_text : PlanValue → List ℕ
warnings_text plan = flat_map warning_text (warnings_of plan.facts.contents plan.config)
