-- The names and the values of a table beside its map.
use Rattle.std.proofs.Common.{◌≡◌, ℕ, suc, ◌+◌, cond, Bool, List, [], ◌∷◌, Some, length, String, Global, BTreeMap, string_bytes, refl, ap}
use Rattle.std.specs.BTreeMap.{keys, values}
use Rattle.std.specs.List.{position_from}
use Rattle.std.specs.Map.{keys_of, values_of}
use Rattle.toml.specs.Data.{Data}
use Rattle.toml.specs.View.{members_view, table_view, view}
use Rattle.toml.specs.declared.value.Value.{Value}
use Rattle.metric_table.specs.Fields.{names_of}
use Rattle.metric_catalogue.specs.Seats.{values_in}

name_at : (test : List ℕ → Bool) (n : ℕ) (es : List (String Global × Value))
    → position_from (λ k. test (string_bytes k)) n (keys_of es) ≡ position_from test n (names_of (members_view es))
name_at test n [] = refl
name_at test n (e ∷ es) = ap (λ r. cond (test (string_bytes e.0)) (Some n) r) (name_at test (n + 1) es)

pub name_place : (test : List ℕ → Bool) (t : BTreeMap (String Global) Value)
    → position_from (λ k. test (string_bytes k)) 0 (keys t) ≡ position_from test 0 (names_of (table_view t))
name_place test t = name_at test 0 t.entries

value_at : (test : Data → Bool) (n : ℕ) (es : List (String Global × Value))
    → position_from (λ v. test (view v)) n (values_of es) ≡ position_from test n (values_in (members_view es))
value_at test n [] = refl
value_at test n (e ∷ es) = ap (λ r. cond (test (view e.1)) (Some n) r) (value_at test (n + 1) es)

pub value_place : (test : Data → Bool) (t : BTreeMap (String Global) Value)
    → position_from (λ v. test (view v)) 0 (values t) ≡ position_from test 0 (values_in (table_view t))
value_place test t = value_at test 0 t.entries

pub names_count : (es : List (String Global × Value)) → length (names_of (members_view es)) ≡ length es
names_count [] = refl
names_count (e ∷ es) = ap (λ (n : ℕ). suc n) (names_count es)
