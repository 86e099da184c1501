-- How a stream stays within its limit.
use Rattle.std.specs.Prelude.{ℕ, ◌≤◌, ◌<◌}
use Rattle.wormweekly_commands.specs.declared.rows.Within.{Within}
use Rattle.wormweekly_commands.specs.declared.rows.Within.TheVariants.{Product, List as Listed, Budget}
use Rattle.wormweekly_commands.specs.declared.rows.Within.TheVariants.{Not}

-- by its sets, or else by its recordings, or not
abbrev pub IsWithin : ℕ → ℕ → ℕ → Within → Type 0
IsWithin sets total limit Product = sets ≤ limit
IsWithin sets total limit Listed = sets ≤ limit
IsWithin sets total limit Budget = (limit < sets) × (total ≤ limit)
IsWithin sets total limit Not = (limit < sets) × (limit < total)
