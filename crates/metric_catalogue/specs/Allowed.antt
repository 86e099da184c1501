-- The allowed combinations of an instrument.
use Rattle.std.specs.Prelude.{ℕ, ℤ, pos, negsuc, ◌-◌, Bool, true, false, not, ◌&&◌, List, [], ◌∷◌}
use Rattle.std.specs.Prelude.{◌++◌, length, map, replicate, Option, Some, None, Result, Ok, codes}
use Rattle.std.specs.Prelude.{unsigned_abs}
use Rattle.toml.specs.Data.{Data, Members, get_member}
use Rattle.metric_base.specs.Steps.{◌>>=◌, require, each}
use Rattle.metric_combinations.specs.Combinations.{allows}
use Rattle.metric_table.specs.Fields.{all_integers_of, list_of}
use Rattle.metric_contents.specs.declared.contents.Key.{Key}
use Rattle.metric_catalogue.specs.declared.fault.CatalogueFault.{CatalogueFault}
use Rattle.metric_catalogue.specs.declared.fault.CatalogueDefect.TheVariants.{BadCombination}
use Rattle.metric_catalogue.specs.declared.fault.CatalogueDefect.TheVariants.{DuplicateCombination}
use Rattle.metric_catalogue.specs.declared.fault.CatalogueFault.TheVariants.{At}
use Rattle.metric_catalogue.specs.declared.fault.CatalogueSpot.{CatalogueSpot}
use Rattle.metric_catalogue.specs.Faults.{entry_at, faults_at}
use Rattle.metric_catalogue.specs.Holding.{holder}
use Rattle.metric_contents.specs.KeySets.{is_key_entry}

-- the rows of a list, where there is one
abbrev pub rows_within : CatalogueSpot → Option Data → Result (Option (List Data)) CatalogueFault
rows_within at None = Ok None
rows_within at (Some d) = do
  rows ← list_of (faults_at at) 4096 d
  Ok (Some rows)

-- # allowed combinations (profile) [allowed_field, allowed_of, row_of]
-- The set keys of the rows that the table lists, of which none stands twice; nothing where it lists
-- none.
unfoldable pub allowed_field : CatalogueSpot → Members → Members
    → Result (Option (List Data)) CatalogueFault
allowed_field at group table =
    rows_within at (get_member (codes "allowed") (holder (codes "allowed") group table))

-- whether a whole number is an entry of a key
abbrev pub is_entry_of : Key → ℤ → Bool
is_entry_of key (pos entry) = is_key_entry key entry
is_entry_of key (negsuc n) = false

-- # row (profile) [is_row, row_set]
-- A list of whole numbers, one for each key: one plus the place of a value, or 0 where the key may
-- be left out.
abbrev pub is_row : List Key → List ℤ → Bool
is_row [] [] = true
is_row (key ∷ keys) (entry ∷ entries) = is_entry_of key entry && is_row keys entries
is_row _ _ = false

-- the set key that a row is
abbrev pub row_set : List ℤ → List ℕ
row_set entries = map unsigned_abs entries ++ replicate (8 - length entries) 0

-- the set key of a row of these keys
unfoldable pub set_of_row : CatalogueSpot → List Key → Data → Result (List ℕ) CatalogueFault
set_of_row at keys d = do
  entries ← all_integers_of (faults_at at) d
  _ ← require (is_row keys entries) (At BadCombination at)
  Ok (row_set entries)

-- one more row, after those before it
unfoldable pub row_of : CatalogueSpot → List Key → List (List ℕ) → Data
    → Result (List ℕ) CatalogueFault
row_of field keys before d = do
  let at = entry_at field (length before)
  set ← set_of_row at keys d
  _ ← require (not (allows before set)) (At DuplicateCombination at)
  Ok set

-- the allowed combinations, where there are rows of them
abbrev pub allowed_of : CatalogueSpot → List Key → Option (List Data)
    → Result (Option (List (List ℕ))) CatalogueFault
allowed_of at keys None = Ok None
allowed_of at keys (Some rows) = do
  sets ← each (row_of at keys) [] rows
  Ok (Some sets)
