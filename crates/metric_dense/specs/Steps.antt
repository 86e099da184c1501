-- The set after a set, as sets of ranks follow each other.
use Rattle.std.specs.Prelude.{ℕ, ◌+◌, ◌&&◌, Bool, true, not, if◌then◌else◌, List, ◌∷◌, nat_lt}
use Rattle.metric_facts.specs.declared.facts.KeyFacts.{KeyFacts}

-- whether an entry is the last that a key has in sets of ranks
abbrev pub is_last : Bool → KeyFacts → ℕ → Bool
is_last flag key entry = if flag then not (nat_lt entry key.values) else true

-- the entry after it, after the last one the first
abbrev pub entry_after : Bool → KeyFacts → ℕ → ℕ
entry_after flag key entry =
    if flag then (if nat_lt entry key.values then entry + 1 else (if key.optional then 0 else 1))
    else entry

-- whether all entries are the last ones
abbrev pub are_last : List Bool → List KeyFacts → List ℕ → Bool
are_last (flag ∷ kept) (key ∷ keys) (entry ∷ set) = is_last flag key entry && are_last kept keys set
are_last kept keys set = true

-- the set after it
abbrev pub stepped : List Bool → List KeyFacts → List ℕ → List ℕ
stepped (flag ∷ kept) (key ∷ keys) (entry ∷ set) =
    (if are_last kept keys set then entry_after flag key entry else entry) ∷ stepped kept keys set
stepped kept keys set = set
