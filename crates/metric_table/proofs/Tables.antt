-- A table and a list of toml beside their data.
use Rattle.std.proofs.Common.{◌≡◌, ℕ, List, [], ◌∷◌, ◌&&◌, ◌||◌, map, String, Global, BTreeMap, string_bytes, Bor, refl, ap}
use Rattle.std.specs.BTreeMap.{keys}
use Rattle.std.specs.Map.{keys_of}
use Rattle.std.specs.List.{list_all, list_any}
use Rattle.std.specs.Str.{bytes_eq}
use Rattle.toml.specs.Data.{Data}
use Rattle.toml.specs.View.{items_of, members_view, table_view}
use Rattle.toml.specs.declared.value.Value.{Value}
use Rattle.toml.proofs.Views.{table_get}
use Rattle.metric_table.specs.Fields.{names_of, is_among, now_of, values_of}

-- the name is one of the texts that the references point to
list_any-now : (names : List (Bor (List ℕ))) (key : List ℕ) → list_any (λ n. bytes_eq n.now key) names ≡ is_among (map now_of names) key
list_any-now [] key = refl
list_any-now (n ∷ names) key = ap (λ b. bytes_eq n.now key || b) (list_any-now names key)

-- the keys of a table are the names of its fields
all_keys : (names : List (Bor (List ℕ))) (entries : List (String Global × Value))
    → list_all (λ k. list_any (λ n. bytes_eq n.now (string_bytes k)) names) (keys_of entries) ≡ list_all (is_among (map now_of names)) (names_of (members_view entries))
all_keys names [] = refl
all_keys names (e ∷ entries) = λ i. list_any-now names (string_bytes e.0) i && all_keys names entries i

pub all_names : (names : List (Bor (List ℕ))) (table : BTreeMap (String Global) Value)
    → list_all (λ k. list_any (λ n. bytes_eq n.now (string_bytes k)) names) (keys table) ≡ list_all (is_among (map now_of names)) (names_of (table_view table))
all_names names table = all_keys names table.entries

-- the values of an array are the values of its data
pub values_of-items_of : (values : List Data) → values_of (items_of values) ≡ values
values_of-items_of [] = refl
values_of-items_of (v ∷ values) = ap (λ (vs : List Data). v ∷ vs) (values_of-items_of values)

pub ruleset only_laws = (all_names)

pub ruleset table_laws = (table_get)

pub ruleset list_laws = (values_of-items_of)
