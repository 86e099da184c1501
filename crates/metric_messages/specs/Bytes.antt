-- Where a byte of a text stands.
use Rattle.std.specs.Prelude.{ℕ, List, take}
use Rattle.metric_lint.specs.declared.position.Position.{Position}
use Rattle.metric_messages.specs.Marks.{after_all, start}

-- # place of a byte (profile)
-- The line and the column behind all bytes before it.
abbrev pub byte_position : List ℕ → ℕ → Position
byte_position text at = after_all start (take at text)
