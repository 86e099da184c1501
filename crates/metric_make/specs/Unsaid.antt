-- What is found at an instrument whose total is safe for its range.
use Rattle.std.specs.Prelude.{◌≡◌, ℕ, ◌≤◌, ◌≤ℤ◌, IsTrue, not, List, None, Some, slice_get}
use Rattle.metric_contents.specs.declared.contents.Contents.{Contents}
use Rattle.metric_contents.specs.declared.contents.Instrument.{Instrument}
use Rattle.metric_contents.specs.Kinds.{is_gauge}
use Rattle.metric_contents.specs.Most.{safe_total}
use Rattle.metric_views.specs.declared.stream.Stream.{Stream}
use Rattle.metric_bounds.specs.Amounts.{total_of}
use Rattle.metric_bounds.specs.Sums.{is_summed}
use Rattle.metric_make.specs.Finding.{NumberFinds}

-- Nothing is found at an instrument whose total is at most the greatest that is safe for its range,
-- where no stream keeps a sum of a gauge.
abbrev pub SafeTotalsFindNothing : Type 0
SafeTotalsFindNothing =
    (contents : Contents) (streams : List Stream) (number : ℕ) (instrument : Instrument)
    → slice_get contents.instruments number ≡ Some instrument
    → instrument.lo ≤ℤ instrument.hi
    → total_of contents number ≤ safe_total instrument.kind instrument.lo instrument.hi
    → (IsTrue (is_summed streams number) → IsTrue (not (is_gauge instrument.kind)))
    → NumberFinds contents streams number None
