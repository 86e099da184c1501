-- The entries of a set key, of attributes that stand in the order of their keys.
use Rattle.std.specs.Prelude.{ℕ, ◌≢◌, ◌-◌, if◌then◌else◌, AllPairs, List, [], ◌∷◌, ◌++◌, length}
use Rattle.std.specs.Prelude.{replicate, Option, Some, None}
use Rattle.std.specs.Option.{option_and_then, option_map}
use Rattle.metric_contents.specs.declared.contents.Key.{Key}
use Rattle.metric_contents.specs.Encoding.{Given, entry_with, is_of}

-- No two keys have one name.
abbrev pub AreKeysApart : List Key → Type 0
AreKeysApart keys = AllPairs (λ key other. key.name ≢ other.name) keys

-- the entry of a key that is left out, where it may be, and the attributes, of which it takes none
abbrev pub entry_left_out : Key → List Given → Option (ℕ × List Given)
entry_left_out key attrs = if key.optional then Some (0, attrs) else None

-- the entry of a key, of which the first attribute may be, and the attributes that are left
abbrev pub entry_in_order : Key → List Given → Option (ℕ × List Given)
entry_in_order key [] = entry_left_out key []
entry_in_order key (given ∷ attrs) =
    if is_of key.name given then option_map (λ entry. (entry, attrs)) (entry_with key given.1)
    else entry_left_out key (given ∷ attrs)

-- these entries, and after them those of further keys
abbrev pub entries_after : List ℕ → List Key → List Given → Option (List ℕ)
entries_after entries [] [] = Some entries
entries_after entries [] (given ∷ attrs) = None
entries_after entries (key ∷ keys) attrs =
    option_and_then (λ taken. entries_after (entries ++ taken.0 ∷ []) keys taken.1)
    (entry_in_order key attrs)

-- the set key of attributes that stand in the order of their keys, where there is no refusal
unfoldable pub set_in_order : List Key → List Given → Option (List ℕ)
set_in_order keys attrs =
    option_map (λ entries. entries ++ replicate (8 - length keys) 0) (entries_after [] keys attrs)
