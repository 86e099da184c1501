-- Values that no allowed combination has.
use Rattle.std.specs.Prelude.{◌==◌, ◌+◌, ◌||◌, ℕ, Bool, false, not, List, [], ◌∷◌, ◌++◌, Option, Some}
use Rattle.std.specs.Prelude.{None, length, slice_index_or, if◌then◌else◌}
use Rattle.std.specs.List.{enumerate_from, flat_map, list_any, range_with_len}
use Rattle.metric_contents.specs.declared.contents.Instrument.{Instrument}
use Rattle.metric_contents.specs.declared.contents.Key.{Key}
use Rattle.metric_lint.specs.declared.remark.Remark.{Remark}
use Rattle.metric_lint.specs.declared.remark.Remark.TheVariants.{UnusedValue}
use Rattle.metric_lint.specs.When.{when}

-- some row has the value of a number at the key of a number
abbrev pub is_used : List (List ℕ) → ℕ → ℕ → Bool
is_used rows key value = list_any (λ row. slice_index_or row key 0 == value + 1) rows

abbrev pub value_unused : List (List ℕ) → ℕ → ℕ → ℕ → List Remark
value_unused rows instrument key value =
    when (not (is_used rows key value)) (UnusedValue instrument key value)

-- each of so many values of a key that no row has
abbrev pub key_unused : List (List ℕ) → ℕ → ℕ → ℕ → List Remark
key_unused rows instrument key count =
    flat_map (value_unused rows instrument key) (range_with_len 0 count)

abbrev pub keyed_unused : List (List ℕ) → ℕ → ℕ × Key → List Remark
keyed_unused rows instrument key = key_unused rows instrument key.0 (length key.1.values)

abbrev pub unused_of : List (List ℕ) → List Key → ℕ → List Remark
unused_of rows keys instrument = flat_map (keyed_unused rows instrument) (enumerate_from 0 keys)

-- where there are rows
abbrev pub rows_unused : List (List ℕ) → List Key → ℕ → List Remark
rows_unused rows keys instrument =
    if length rows == 0 then [] else unused_of rows keys instrument

abbrev pub unused_by : Option (List (List ℕ)) → List Key → ℕ → List Remark
unused_by None keys instrument = []
unused_by (Some rows) keys instrument = rows_unused rows keys instrument

-- each value of an instrument that none of its combinations has, where it lists any
abbrev pub unused_remarks : Instrument → ℕ → List Remark
unused_remarks own instrument = unused_by own.allowed own.keys instrument
