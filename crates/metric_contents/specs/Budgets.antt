-- The budgets of recorders, and the spare budgets of instruments.
use Rattle.std.specs.Prelude.{ℕ, Bool, ◌==◌, List, Option, Some, None, slice_get, find}
use Rattle.metric_contents.specs.declared.contents.Budget.{Budget}
use Rattle.metric_contents.specs.declared.contents.Instrument.{Instrument}
use Rattle.metric_contents.specs.declared.contents.Recorder.{Recorder}

-- the budget is for this instrument
abbrev pub is_budget : ℕ → Budget → Bool
is_budget instrument budget = budget.instrument == instrument

-- the amount of a budget, or 0 where there is none
abbrev pub amount_in : Option Budget → ℕ
amount_in None = 0
amount_in (Some budget) = budget.amount

-- how many recordings a recorder may make on an instrument
abbrev pub amount_of : Recorder → ℕ → ℕ
amount_of recorder instrument = amount_in (find (is_budget instrument) recorder.budgets)

-- the same, where there is such a recorder
abbrev pub amount_from : Option Recorder → ℕ → ℕ
amount_from None instrument = 0
amount_from (Some recorder) instrument = amount_of recorder instrument

-- # budget (profile)
-- What a recorder may record on an instrument, 0 where none is declared.
abbrev pub budget_at : List Recorder → ℕ → ℕ → ℕ
budget_at recorders recorder instrument = amount_from (slice_get recorders recorder) instrument

-- how many recordings may be granted beside the budgets of an instrument, where there is one
abbrev pub spare_in : Option Instrument → ℕ
spare_in None = 0
spare_in (Some instrument) = instrument.spare

-- # spare (profile)
-- How many recordings on an instrument may be granted beside the budgets, 0 where none is declared.
abbrev pub spare_at : List Instrument → ℕ → ℕ
spare_at instruments instrument = spare_in (slice_get instruments instrument)
