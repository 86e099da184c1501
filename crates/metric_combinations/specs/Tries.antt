-- Where the steps of a trie end.
use Rattle.std.specs.Prelude.{ℕ, ◌+◌, Bool, false, List, [], ◌∷◌, Option, Some, None, slice_get}
use Rattle.std.specs.Prelude.{take}
use Rattle.std.specs.Option.{option_and_then}
use Rattle.std.specs.Str.{bytes_eq}
use Rattle.metric_combinations.specs.declared.trie.Trie.{Trie}

-- the place that is reached from a place by one step for each entry
abbrev pub end_of : List ℕ → ℕ → List ℕ → Option ℕ
end_of steps at [] = Some at
end_of steps at (entry ∷ entries) =
    option_and_then (λ next. end_of steps next entries) (slice_get steps (at + entry))

-- whether a row is there and is the set key
abbrev pub is_set : List ℕ → Option (List ℕ) → Bool
is_set set None = false
is_set set (Some row) = bytes_eq row set

-- whether the row at a place is the set key
abbrev pub is_set_at : List (List ℕ) → List ℕ → Option ℕ → Bool
is_set_at rows set None = false
is_set_at rows set (Some place) = is_set set (slice_get rows place)

-- # finds (profile) [finds, end_of]
-- A trie leads from a set key, one step for each key, to a row that is equal to it.
abbrev pub finds : Trie → List (List ℕ) → List ℕ → Bool
finds trie rows set = is_set_at rows set (end_of trie.steps.items trie.root (take trie.depth set))
