-- Which combinations of an instrument another one refuses.
use Rattle.std.specs.Prelude.{ℕ, ◌-◌, ◌==◌, Bool, true, false, List, [], ◌++◌, Option, Some, None}
use Rattle.std.specs.Prelude.{Result, Err, if◌then◌else◌, slice_get}
use Rattle.std.specs.List.{enumerate_from, filter_map, flat_map, zip}
use Rattle.std.specs.Option.{option_map}
use Rattle.metric_contents.specs.declared.contents.Contents.{Contents}
use Rattle.metric_contents.specs.declared.contents.Instrument.{Instrument}
use Rattle.metric_contents.specs.declared.contents.Key.{Key}
use Rattle.metric_contents.specs.declared.refusal.Refusal.{Refusal}
use Rattle.metric_contents.specs.declared.refusal.Refusal.TheVariants.{Combination}
use Rattle.metric_contents.specs.Encoding.{Given, encode_of}
use Rattle.metric_diff.specs.declared.change.Change.{Change}
use Rattle.metric_diff.specs.declared.change.Change.TheVariants as changes
use Rattle.metric_diff.specs.declared.keys.Way.{Way}
use Rattle.metric_diff.specs.declared.keys.Way.TheVariants as ways
use Rattle.metric_diff.specs.Parts.{when}

-- the attribute that an entry of a row stands for, none where it is 0
abbrev pub attribute_at : Key → ℕ → Option Given
attribute_at key entry =
    if entry == 0 then None
    else option_map (λ value. (key.name, value)) (slice_get key.values (entry - 1))

-- the attributes that a row stands for, by the names of keys and the values themselves
abbrev pub attributes_of : List Key → List ℕ → List Given
attributes_of keys row = filter_map (λ x. attribute_at x.0 x.1) (zip keys row)

abbrev pub is_combination : Result (List ℕ) Refusal → Bool
is_combination (Err Combination) = true
is_combination other = false

-- the instrument of a number declares each key and value of a row of these keys, and refuses them
-- together
abbrev pub is_shut_out : List Instrument → ℕ → List Key → List ℕ → Bool
is_shut_out others other keys row =
    is_combination (encode_of others other (attributes_of keys row))

-- that a combination goes, or that one is new
abbrev pub combination_change : Way → ℕ → ℕ → ℕ → Change
combination_change ways.Gone old new row = changes.CombinationGone old new row
combination_change ways.New old new row = changes.CombinationNew old new row

abbrev pub lost_combination : Way → ℕ → ℕ → List Instrument → ℕ → List Key → ℕ × List ℕ
    → List Change
lost_combination way old new others other keys row =
    when (is_shut_out others other keys row.1) (combination_change way old new row.0)

abbrev pub lost_combinations : Way → ℕ → ℕ → List Instrument → ℕ → List Key
    → Option (List (List ℕ)) → List Change
lost_combinations way old new others other keys None = []
lost_combinations way old new others other keys (Some rows) =
    flat_map (lost_combination way old new others other keys) (enumerate_from 0 rows)

-- each combination that goes, and then each that is new
abbrev pub combination_changes : Contents → Contents → ℕ → ℕ → Instrument → Instrument
    → List Change
combination_changes contents others old new one other =
    lost_combinations ways.Gone old new others.instruments new one.keys one.allowed
    ++ lost_combinations ways.New old new contents.instruments old other.keys other.allowed
