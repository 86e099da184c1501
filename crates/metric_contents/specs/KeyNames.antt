-- The names of keys.
use Rattle.std.specs.Prelude.{ℕ, Bool, List}
use Rattle.std.specs.Str.{bytes_eq}
use Rattle.metric_contents.specs.declared.contents.Key.{Key}

-- the key has this name
abbrev pub is_key : List ℕ → Key → Bool
is_key name key = bytes_eq key.name name
