-- Whether what a backend adds up of many processes fits 64 bits.
use Rattle.std.specs.Prelude.{ℕ}
use Rattle.metric_contents.specs.declared.contents.Instrument.{Instrument}
use Rattle.metric_bounds.specs.Safe.{CountsFit, HighFits, LowFits}

-- # whether a fleet's count and sums fit (profile)
-- The count of so many recordings fits, and so do their sums where a stream keeps them.
pub record Fits (count : ℕ) (summed : Type 0) (instrument : Instrument) : Type 0 where
  pub counts : CountsFit count
  pub low : summed → LowFits count instrument
  pub high : summed → HighFits count instrument
