-- Full sets of declared keys.
use Rattle.std.specs.Prelude.{ℕ, Bool, false, ◌&&◌, ◌==◌, if◌then◌else◌, List, [], ◌∷◌, length}
use Rattle.std.specs.Prelude.{nat_le}
use Rattle.std.specs.List.{list_all}
use Rattle.metric_contents.specs.declared.contents.Key.{Key}

-- whether a number is an entry of a key: one plus the place of a value, or
-- 0 where the key may be left out
abbrev pub is_key_entry : Key → ℕ → Bool
is_key_entry key entry = if entry == 0 then key.optional else nat_le entry (length key.values)

-- # set of keys (profile)
-- A set key with an entry of each key, and 0 in the places that are left.
abbrev pub is_key_set : List Key → List ℕ → Bool
is_key_set [] set = list_all (λ entry. entry == 0) set
is_key_set (key ∷ keys) [] = false
is_key_set (key ∷ keys) (entry ∷ set) = is_key_entry key entry && is_key_set keys set
