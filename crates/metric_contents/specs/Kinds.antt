-- Kinds of instruments.
use Rattle.std.specs.Prelude.{ℕ, Bool, true, false, if◌then◌else◌, List, Option, Some, None, codes}
use Rattle.std.specs.Str.{bytes_eq}
use Rattle.metric_contents.specs.declared.contents.Kind.{Kind}
use Rattle.metric_contents.specs.declared.contents.Kind.TheVariants.{Counter, UpDownCounter}
use Rattle.metric_contents.specs.declared.contents.Kind.TheVariants.{Histogram, Gauge}

-- # kind's name, monotonic kind (API, instrument kinds) [kind_named, is_monotonic]
-- `counter`, `up_down_counter`, `histogram`, `gauge`; counter and histogram.
abbrev pub kind_named : List ℕ → Option Kind
kind_named text =
    if bytes_eq text (codes "counter") then Some Counter
    else if bytes_eq text (codes "up_down_counter") then Some UpDownCounter
    else if bytes_eq text (codes "histogram") then Some Histogram
    else if bytes_eq text (codes "gauge") then Some Gauge
    else None

-- the kinds whose sums only rise, since they take no negative values
abbrev pub is_monotonic : Kind → Bool
is_monotonic Counter = true
is_monotonic UpDownCounter = false
is_monotonic Histogram = true
is_monotonic Gauge = false

-- the kind whose values are not added up
abbrev pub is_gauge : Kind → Bool
is_gauge Counter = false
is_gauge UpDownCounter = false
is_gauge Histogram = false
is_gauge Gauge = true
