-- The table that a field of an instrument is in.
use Rattle.std.specs.Prelude.{ℕ, List, is_some, if◌then◌else◌}
use Rattle.toml.specs.Data.{Members, get_member}

-- # field of an instrument of a group (profile)
-- That of its own table, or where it has none, of the table of its group.
abbrev pub holder : List ℕ → Members → Members → Members
holder name group own = if is_some (get_member name own) then own else group
