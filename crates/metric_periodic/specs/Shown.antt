-- What an exporter may still show of each instrument, by what an outlet handed on.
use Rattle.std.specs.Prelude.{◌≡◌, ◌==◌, ℕ, Bool, false, not, ◌||◌, ◌&&◌}
use Rattle.std.specs.Prelude.{List, Option, Some, None, slice_get}
use Rattle.std.specs.List.{list_any}
use Rattle.std.specs.Option.{option_map}
use Rattle.metric_export.specs.Handings.{has_points}
use Rattle.metric_history.specs.declared.batch.Batch.{Batch}
use Rattle.metric_periodic.specs.declared.shown.Shown.{Shown}

-- whether points of an ended run may be shown
abbrev pub is_ended : Option Shown → Bool
is_ended None = false
is_ended (Some shown) = shown.ended_run

-- # what an outlet hands on (profile) [is_told, Notes, in_next_run]
-- Each batch with points; and one without where points of an ended run may still be shown of its
-- instrument, whose place it takes. Where a batch was refused, that is tried again.
abbrev pub is_told : List Shown → Batch → Bool
is_told shown batch = has_points batch || is_ended (slice_get shown batch.instrument)

-- whether a batch is of an instrument
abbrev pub is_of : ℕ → Batch → Bool
is_of instrument batch = batch.instrument == instrument

-- What may be shown of an instrument after some batches were handed on, by whether one was refused:
-- points of this run where a batch of it has some, and of an ended run unless one took their place.
abbrev pub noted : Bool → List Batch → ℕ → Shown → Shown
noted is_refused batches instrument old = record {
  this_run = old.this_run
      || list_any (λ batch. is_of instrument batch && has_points batch) batches;
  ended_run = old.ended_run && (is_refused || not (list_any (is_of instrument) batches));
}

-- and of each one
abbrev pub Notes : Bool → List Batch → List Shown → List Shown → Type 0
Notes is_refused batches old new =
    (instrument : ℕ) → slice_get new instrument
    ≡ option_map (noted is_refused batches instrument) (slice_get old instrument)

-- what is shown when the next run begins
abbrev pub in_next_run : Shown → Shown
in_next_run old = record { this_run = false; ended_run = old.this_run || old.ended_run }
