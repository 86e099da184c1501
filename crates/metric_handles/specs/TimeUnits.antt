-- Durations in the units of instruments.
use Rattle.std.specs.Prelude.{ℕ, ◌/◌, ℤ, pos, min, codes, List, Option, Some, None, if◌then◌else◌}
use Rattle.std.specs.Str.{bytes_eq}
use Rattle.metric_handles.specs.declared.time_unit.TimeUnit.{TimeUnit}
use Rattle.metric_handles.specs.declared.time_unit.TimeUnit.TheVariants.{Nanoseconds, Microseconds}
use Rattle.metric_handles.specs.declared.time_unit.TimeUnit.TheVariants.{Milliseconds, Seconds}

-- # time unit of a text, whole units (API, instrument unit) [time_unit_of, nanos_in, whole_in]
-- What `ns`, `us`, `ms` and `s` stand for, and how many nanoseconds each has; how many whole units
-- a number of nanoseconds has, up to the greatest number of i64.
abbrev pub time_unit_of : List ℕ → Option TimeUnit
time_unit_of text =
    if bytes_eq text (codes "ns") then Some Nanoseconds else
    (if bytes_eq text (codes "us") then Some Microseconds else
    (if bytes_eq text (codes "ms") then Some Milliseconds else
    (if bytes_eq text (codes "s") then Some Seconds else None)))

-- the nanoseconds of a unit
abbrev pub nanos_in : TimeUnit → ℕ
nanos_in Nanoseconds = 1
nanos_in Microseconds = 1_000
nanos_in Milliseconds = 1_000_000
nanos_in Seconds = 1_000_000_000

-- the whole units of so many nanoseconds
abbrev pub whole_in : TimeUnit → ℕ → ℤ
whole_in unit nanos = pos (min (nanos / nanos_in unit) 9223372036854775807)
