-- How often an instrument may be recorded before a number leaves 64 bits, whatever is recorded.
use Rattle.std.specs.Prelude.{ℕ, ℤ, pos, negsuc, suc, ◌-◌, ◌/◌, ◌^◌, ◌-ℤ◌, ◌==◌, nat_lt, unsigned_abs}
use Rattle.std.specs.Prelude.{Option, Some, None, if◌then◌else◌}
use Rattle.metric_contents.specs.declared.contents.Kind.{Kind}
use Rattle.metric_contents.specs.Kinds.{is_gauge}

-- how far a number is below zero, and above it
abbrev pub below : ℤ → ℕ
below (pos n) = 0
below (negsuc n) = suc n

abbrev pub above : ℤ → ℕ
above (pos n) = n
above (negsuc n) = 0

-- how many steps fit into a room, or nothing where each number of them does
abbrev pub most_within : ℕ → ℕ → Option ℕ
most_within room step = if step == 0 then None else Some (room / step)

-- the lesser of two numbers, where there is the second
abbrev pub lesser : ℕ → Option ℕ → ℕ
lesser most None = most
lesser most (Some other) = if nat_lt other most then other else most

-- so many values of a range come to no two sums that are 2^64 or more apart
abbrev pub apart_total : ℤ → ℤ → ℕ
apart_total lo hi = lesser (2 ^ 63 - 1) (most_within (2 ^ 64 - 1) (unsigned_abs (hi -ℤ lo)))

-- # greatest safe total of a range (profile) [safe_total, most_within]
-- How often an instrument of a kind and a range may be recorded, less than 2^63 times, before two
-- sums of its values are 2^64 or more apart, or but for a gauge a sum is no 64-bit number.
abbrev pub safe_total : Kind → ℤ → ℤ → ℕ
safe_total kind lo hi =
    if is_gauge kind then apart_total lo hi
    else lesser (lesser (apart_total lo hi) (most_within (2 ^ 63 - 1) (above hi)))
    (most_within (2 ^ 63) (below lo))
