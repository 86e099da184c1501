-- How often an instrument may be recorded, and between which numbers each sum of its values stays.
-- These are whole numbers without a limit.
use Rattle.std.specs.Prelude.{ℕ, ℤ, pos, ◌+◌, ◌*ℤ◌, ◌-ℤ◌, sum_by}
use Rattle.std.specs.Int.{int_min, int_max}
use Rattle.metric_contents.specs.declared.contents.Contents.{Contents}
use Rattle.metric_contents.specs.Budgets.{amount_of, spare_at}

-- # total, amount, low, high (profile) [total_of, amount_with, low_with, high_with]
-- The total of an instrument's budgets and its spare; that times its range; and how low and how
-- high a sum of so many values can be.
unfoldable pub total_of : Contents → ℕ → ℕ
total_of contents instrument =
    sum_by (λ recorder. amount_of recorder instrument) contents.recorders
    + spare_at contents.instruments instrument

-- how far apart two sums of so many values may be
abbrev pub amount_with : ℕ → ℤ → ℤ → ℤ
amount_with total lo hi = pos total *ℤ (hi -ℤ lo)

-- the least sum of at most so many values
abbrev pub low_with : ℕ → ℤ → ℤ
low_with total lo = pos total *ℤ int_min lo (pos 0)

-- the greatest sum of at most so many values
abbrev pub high_with : ℕ → ℤ → ℤ
high_with total hi = pos total *ℤ int_max hi (pos 0)
