-- Attributes that are written once for all points are those that a point has.
use Rattle.std.proofs.Common.{◌≡◌, ℕ, suc, zero, Bool, true, false, List, [], ◌∷◌, ◌++◌, ◌-◌, refl, ap, map, arith}
use Rattle.std.proofs.lemmas.Bool.Decides.{nat_tests}
use Rattle.std.specs.Prelude.{◌==◌, slice_get}
use Rattle.std.specs.List.{concat, cons_option, flat_map}
use Rattle.std.specs.Option.{option_map}
use Rattle.metric_names.specs.declared.value.AttrValue.{AttrValue}
use Rattle.metric_contents.specs.declared.contents.Key.{Key}
use Rattle.metric_text.specs.Lists.{led_by}
use Rattle.metric_lines.specs.Keys.{Attribute, attribute_of, attributes_of}
use Rattle.metric_otlp.specs.Series.{attribute_field}
use Rattle.metric_otlp.specs.SeriesJson.{attribute_json}
use Rattle.metric_otlp.specs.Written.{all_entries, entries_at, entry_at, key_entries, written}
use Rattle.metric_otlp.specs.declared.series.Form.{Form}
use Rattle.metric_otlp.specs.declared.series.Form.TheVariants.{Bytes, Json}

value_written : (form : Form) (name : List ℕ) (values : List AttrValue) (n : ℕ) (rest : List Attribute)
    → cons_option (slice_get (map (λ value. written form (name, value)) values) n) (map (written form) rest)
    ≡ map (written form) (cons_option (option_map (λ value. (name, value)) (slice_get values n)) rest)
value_written form name [] n rest = refl
value_written form name (value ∷ values) zero rest = refl
value_written form name (value ∷ values) (suc n) rest = value_written form name values n rest

not_zero : (n : ℕ) → (suc n == 0) ≡ false
not_zero n = grind (arith, nat_tests)

key_written : (form : Form) (key : Key) (keep : Bool) (entry : ℕ) (rest : List Attribute)
    → cons_option (entry_at (key_entries form key keep) entry) (map (written form) rest)
    ≡ map (written form) (cons_option (attribute_of key keep entry) rest)
key_written form key false zero rest = refl
key_written form key false (suc n) rest = rw (not_zero n) refl
key_written form key true zero rest = refl
key_written form key true (suc n) rest =
    let one_less : suc n - 1 ≡ n = omega arith in
    rw (not_zero n, one_less) (value_written form key.name key.values n rest)

all_written : (form : Form) (keys : List Key) (kept : List Bool) (set : List ℕ)
    → entries_at (all_entries form keys kept) set ≡ map (written form) (attributes_of keys kept set)
unfolding all_entries entries_at
all_written form [] kept set = refl
all_written form (key ∷ keys) [] set = refl
all_written form (key ∷ keys) (keep ∷ kept) [] = refl
all_written form (key ∷ keys) (keep ∷ kept) (entry ∷ set) =
    rw (all_written form keys kept set) (key_written form key keep entry (attributes_of keys kept set))

in_a_row : (field : ℕ) (attributes : List Attribute)
    → concat (map (written (Bytes field)) attributes) ≡ flat_map (attribute_field field) attributes
in_a_row field [] = refl
in_a_row field (attribute ∷ attributes) = ap (λ xs. attribute_field field attribute ++ xs) (in_a_row field attributes)

pub written_in_a_row : (field : ℕ) (keys : List Key) (kept : List Bool) (set : List ℕ)
    → concat (entries_at (all_entries (Bytes field) keys kept) set)
    ≡ flat_map (attribute_field field) (attributes_of keys kept set)
written_in_a_row field keys kept set =
    rw (all_written (Bytes field) keys kept set) (in_a_row field (attributes_of keys kept set))

led : (before : List ℕ) (attributes : List Attribute)
    → led_by before (λ text. text) (map (written Json) attributes) ≡ led_by before attribute_json attributes
led before [] = refl
led before (attribute ∷ attributes) =
    ap (λ xs. before ++ (attribute_json attribute ++ xs)) (led (44 ∷ []) attributes)

pub written_with_commas : (before : List ℕ) (keys : List Key) (kept : List Bool) (set : List ℕ)
    → led_by before (λ text. text) (entries_at (all_entries Json keys kept) set)
    ≡ led_by before attribute_json (attributes_of keys kept set)
written_with_commas before keys kept set =
    rw (all_written Json keys kept set) (led before (attributes_of keys kept set))
