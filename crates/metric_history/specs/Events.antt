-- What an event is about.
use Rattle.std.specs.Prelude.{ℕ, length}
use Rattle.metric_history.specs.declared.event.Event.{Event}
use Rattle.metric_history.specs.declared.event.Event.TheVariants.{Record, Collect, Close, Grant}

-- the number of its instrument
abbrev pub instrument_of : Event → ℕ
instrument_of (Record recorder instrument attrs value) = instrument
instrument_of (Collect reader instrument now) = instrument
instrument_of (Close instrument) = instrument
instrument_of (Grant recorder instrument amount) = instrument

-- how many attributes it has
abbrev pub attr_count : Event → ℕ
attr_count (Record recorder instrument attrs value) = length attrs
attr_count (Collect reader instrument now) = 0
attr_count (Close instrument) = 0
attr_count (Grant recorder instrument amount) = 0
