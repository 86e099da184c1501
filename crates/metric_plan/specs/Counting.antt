-- Whether the recordings of each instrument can be counted in 64 bits.
use Rattle.std.specs.Prelude.{ℕ, ◌+◌, ◌^◌, Bool, true, ◌&&◌, List, [], ◌∷◌, nat_lt}
use Rattle.metric_contents.specs.declared.contents.Contents.{Contents}
use Rattle.metric_contents.specs.declared.contents.Instrument.{Instrument}
use Rattle.metric_bounds.specs.Amounts.{total_of}

-- whether the budgets and the spare budget of each instrument are together a u64, where the
-- first instrument has this number
abbrev pub counts_fit : Contents → ℕ → List Instrument → Bool
counts_fit contents number [] = true
counts_fit contents number (instrument ∷ instruments) =
    nat_lt (total_of contents number) (2 ^ 64) && counts_fit contents (number + 1) instruments

-- # counted catalogue (profile)
-- The total of each instrument is below 2^64.
abbrev pub is_counted : Contents → Bool
is_counted contents = counts_fit contents 0 contents.instruments
