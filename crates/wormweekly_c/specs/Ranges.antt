-- The ranges of instruments.
use Rattle.std.specs.Prelude.{ℕ, Option, option_map, slice_get}
use Rattle.metric_contents.specs.declared.contents.Contents.{Contents}
use Rattle.metric_contents.specs.declared.contents.Instrument.{Instrument}
use Rattle.wormweekly_c.specs.declared.ranges.RangeOut.{RangeOut}

abbrev pub range_of : Instrument → RangeOut
range_of instrument = record { least = instrument.lo; greatest = instrument.hi }

-- the range of the instrument of a number
abbrev pub range_at : Contents → ℕ → Option RangeOut
range_at contents number = option_map range_of (slice_get contents.instruments number)
