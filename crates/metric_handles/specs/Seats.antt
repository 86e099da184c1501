-- Seats by name.
use Rattle.std.specs.Prelude.{ℕ, Bool, false, List, Option, slice_get, option_and_then, remove}
use Rattle.std.specs.List.{position_from}
use Rattle.std.specs.Option.{option_map_or}
use Rattle.std.specs.Str.{bytes_eq}
use Rattle.metric_contents.specs.declared.contents.Recorder.{Recorder}
use Rattle.metric_views.specs.declared.config.Reader.{Reader}
use Rattle.metric_plan.specs.Plans.{PlanValue}
use Rattle.metric_seat.specs.Seats.{CollectorValue, RecorderValue}

-- the recorder of a number has this name
abbrev pub is_recorder_named : PlanValue → List ℕ → ℕ → Bool
is_recorder_named plan name number =
    option_map_or (λ (r : Recorder). bytes_eq r.name name)
    (slice_get plan.facts.contents.recorders number) false

-- the reader of a number has this name
abbrev pub is_reader_named : PlanValue → List ℕ → ℕ → Bool
is_reader_named plan name number =
    option_map_or (λ (r : Reader). bytes_eq r.name name)
    (slice_get plan.config.readers number) false

-- # seat of a name (profile) [recorder_place, reader_place, taken_of, others_of]
-- The first seat in a list whose recorder (reader) has the name; what is taken, and what is left in
-- order.
abbrev pub recorder_place : PlanValue → List ℕ → List RecorderValue → Option ℕ
recorder_place plan name seats =
    position_from (λ seat. is_recorder_named plan name seat.number) 0 seats

-- the place of the first seat of the reader of this name
abbrev pub reader_place : PlanValue → List ℕ → List CollectorValue → Option ℕ
reader_place plan name seats = position_from (λ seat. is_reader_named plan name seat.number) 0 seats

-- the seat at a place
abbrev pub taken_of : {S : Type 0} → List S → Option ℕ → Option S
taken_of seats place = option_and_then (slice_get seats) place

-- the seats without the one at a place, in order
abbrev pub others_of : {S : Type 0} → List S → Option ℕ → List S
others_of seats place = option_map_or (remove seats) place seats
