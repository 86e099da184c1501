-- What a recorder is told.
use Rattle.std.specs.Prelude.{ℤ, ◌+◌, ◌-ℤ◌, ◌^◌, ◌<◌, unsigned_abs}
use Rattle.metric_slot.specs.declared.told.Told.{Told}

-- # told of one more (profile) [told_more, HasRoom]
-- One recording more, and its value so far above the least.
abbrev pub told_more : Told → ℤ → ℤ → Told
told_more told lo value =
    record { count = told.count + 1; amount = told.amount + unsigned_abs (value -ℤ lo) }

-- its numbers are each a u64
pub record HasRoom (told : Told) (lo value : ℤ) : Type 0 where
  pub count : told.count + 1 < 2 ^ 64
  pub amount : told.amount + unsigned_abs (value -ℤ lo) < 2 ^ 64
