-- What the greatest safe total of a range means.
use Rattle.std.specs.Prelude.{ℕ, ◌<◌, ◌≤◌, ◌^◌, ◌≤ℤ◌, ◌↔◌, IsTrue, not}
use Rattle.metric_contents.specs.declared.contents.Instrument.{Instrument}
use Rattle.metric_contents.specs.Kinds.{is_gauge}
use Rattle.metric_contents.specs.Most.{safe_total}
use Rattle.metric_bounds.specs.Safe.{IsSafeInstrument}

-- Below 2^63 just the totals up to it are safe, where a sum is kept of each instrument but a gauge.
abbrev pub SafeTotalsAreGreatest : Type 0
SafeTotalsAreGreatest =
    (total : ℕ) (instrument : Instrument) → instrument.lo ≤ℤ instrument.hi → total < 2 ^ 63
    → ((total ≤ safe_total instrument.kind instrument.lo instrument.hi)
    ↔ IsSafeInstrument total instrument (IsTrue (not (is_gauge instrument.kind))))
