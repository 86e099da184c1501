-- Into which series the recordings of a window fall.
use Rattle.std.specs.Prelude.{ℕ, Bool, not, ◌||◌, List, [], ◌∷◌, ◌++◌, Option, Some, None, length}
use Rattle.std.specs.Prelude.{map, filter, fold, take, nat_le, if◌then◌else◌}
use Rattle.std.specs.List.{list_any}
use Rattle.std.specs.Str.{bytes_eq}
use Rattle.metric_combinations.specs.Restrictions.{restricted}
use Rattle.metric_history.specs.declared.entry.Entry.{Entry}
use Rattle.metric_views.specs.declared.stream.Stream.{Stream}

-- # series (SDK, attribute filtering)
-- The set key of a recording, restricted to the keys that the stream keeps.
abbrev pub series : List Bool → Entry → List ℕ
series kept entry = restricted kept entry.set

abbrev pub all_series : List Bool → List Entry → List (List ℕ)
all_series kept entries = map (series kept) entries

-- whether a list has a series
abbrev pub has : List (List ℕ) → List ℕ → Bool
has found key = list_any (λ other. bytes_eq other key) found

-- one more series, unless it was found before
abbrev pub found_with : List (List ℕ) → List ℕ → List (List ℕ)
found_with found key = if has found key then found else found ++ key ∷ []

-- one more series, while there are fewer than the limit
abbrev pub found_within : ℕ → List (List ℕ) → List ℕ → List (List ℕ)
found_within limit found key =
    if nat_le limit (length found) || has found key then found else found ++ key ∷ []

-- # held series (SDK, cardinality limits) [distinct, held]
-- The first distinct series of a window, as many as the cardinality limit.
abbrev pub distinct : List (List ℕ) → List (List ℕ)
distinct keys = fold found_with [] keys

-- the keys but one
abbrev pub others : List ℕ → List (List ℕ) → List (List ℕ)
others key keys = filter (λ (other : List ℕ). not (bytes_eq other key)) keys

-- the held series: the first distinct ones, as many as the cardinality limit
abbrev pub held : Stream → List Entry → List (List ℕ)
held s window = take s.limit (distinct (all_series s.kept window))

-- # rows (SDK, cardinality limits, overflow) [belongs, rows]
-- The recordings of a window of one held series; without a set key, those whose series is not held.
abbrev pub belongs : Stream → List Entry → Option (List ℕ) → Entry → Bool
belongs s window (Some key) entry = bytes_eq (series s.kept entry) key
belongs s window None entry = not (has (held s window) (series s.kept entry))

-- the recordings of one series, or of the overflow series
abbrev pub rows : Stream → List Entry → Option (List ℕ) → List Entry
rows s window place = filter (belongs s window place) window

-- the series into which a recording of the window falls
abbrev pub place_of : Stream → List Entry → Entry → Option (List ℕ)
place_of s window entry =
    if has (held s window) (series s.kept entry) then Some (series s.kept entry) else None

-- the series into which a recording falls that is the window's next
abbrev pub place_found : Stream → List Entry → Entry → Option (List ℕ)
place_found s window entry =
    let key = series s.kept entry in
    let keys = all_series s.kept window ++ key ∷ [] in
    if has (take s.limit (distinct keys)) key then Some key else None
