-- What is written is read as itself.
use Rattle.std.proofs.Common.{ℤ, pos, true, nat_lt, ◌≡◌, ℕ, ◌+◌, ◌≤◌, ◌<◌, ◌^◌, List, [], ◌∷◌, ◌++◌, ◌==◌, length, map, Result, Ok, Err, refl, ap, arith, lit≤}
use Rattle.std.specs.Prelude.{FitsSigned}
use Rattle.std.specs.Int.{w128}
use Rattle.std.specs.Fmt.{decimal, signed_decimal}
use Rattle.toml.specs.Data.{Data, Members, integer, string, array, table, depth, items_depth}
use Rattle.toml.specs.View.{items_of, items_view, view}
use Rattle.toml.specs.declared.value.Value.{Value}
use Rattle.toml.proofs.Views.{Entry, items_are_sorted-last}
use Rattle.std.proofs.lemmas.Bool.{eq-eqb}
use Rattle.std.proofs.lemmas.Bool.Decides.{nat_tests}
use mathlib.Core.List.{map-append}
use Rattle.metric_base.specs.Steps.{◌>>=◌, in_turn, with_fault, with_next}
use Rattle.metric_table.specs.Fields.{each_alone, integer_of, table_of, text_of, values_of as items_values}
use Rattle.metric_text.specs.ReadingLaws.{number_of-text}
use Rattle.metric_cert.specs.declared.fault.CertFault.{CertFault}
use Rattle.metric_cert.specs.declared.fault.CertList.{CertList}
use Rattle.metric_cert.specs.declared.fault.CertPlace.TheVariants as places
use Rattle.metric_cert.proofs.Spelled.{wide_of-text}
use Rattle.metric_cert.specs.Places.{at}
use Rattle.metric_cert.specs.Reading.{decimal_of, entries_as, entry_as, list_of, signed_decimal_of, table_as, values_of, whole_of}
use Rattle.metric_cert.specs.Streams.{set_key_of}
use Rattle.metric_cert.specs.Writing.{IsPrintable}

pub decimal_of-decimal : (n : ℕ) → n < 2 ^ 64 → decimal_of (string (decimal n)) ≡ Ok n
unfolding decimal_of text_of
decimal_of-decimal n fits = rw (number_of-text (2 ^ 64) n fits (lit≤ tt)) refl

pub signed_decimal_of-signed : (z : ℤ) → FitsSigned w128 z → signed_decimal_of (string (signed_decimal z)) ≡ Ok z
unfolding signed_decimal_of text_of
signed_decimal_of-signed z fits = rw (wide_of-text z fits) refl

pub whole_of-pos : (limit n : ℕ) → n < limit → whole_of limit (integer (pos n)) ≡ Ok n
unfolding whole_of integer_of
whole_of-pos limit n below = let test : nat_lt n limit ≡ true = grind (arith, nat_tests) in rw test refl

pub ruleset number_laws = (decimal_of-decimal, signed_decimal_of-signed, whole_of-pos)

-- the values of an array are the values of its data
pub items_values-items_of : (values : List Data) → items_values (items_of values) ≡ values
items_values-items_of [] = refl
items_values-items_of (v ∷ values) = ap (λ (vs : List Data). v ∷ vs) (items_values-items_of values)

pub ruleset value_laws = (items_values-items_of)

pub list_of-array : {X : Type 0} (step : Data → Result X CertFault) (d : Data) (values : List Value) (xs : List X) → d ≡ array (items_view values)
    → each_alone step (map view values) ≡ Ok xs → list_of step d ≡ Ok xs
unfolding list_of values_of
list_of-array step d values xs is read = rw (is, items_values-items_of (map view values)) read

-- a table that is read alone is read behind any others
behind : {X : Type 0} (list : CertList) (step : Members → Result X CertFault) (values : List Data) (before xs : List X) (r : Result X CertFault)
    → ((y : X) → in_turn (with_next (λ _ e. table_as step e)) (before ++ y ∷ []) values ≡ Ok xs → in_turn (with_next (entry_as list step)) (before ++ y ∷ []) values ≡ Ok xs)
    → ((r >>= λ y. Ok (before ++ y ∷ [])) >>= λ more. in_turn (with_next (λ _ e. table_as step e)) more values) ≡ Ok xs
    → ((with_fault (at (places.Entry list (length before))) r >>= λ y. Ok (before ++ y ∷ [])) >>= λ more. in_turn (with_next (entry_as list step)) more values) ≡ Ok xs
behind list step values before xs (Ok y) rest done = rest y done
behind list step values before xs (Err f) rest done = absurd cc

placed : {X : Type 0} (list : CertList) (step : Members → Result X CertFault) (values : List Data) (before xs : List X)
    → in_turn (with_next (λ _ e. table_as step e)) before values ≡ Ok xs → in_turn (with_next (entry_as list step)) before values ≡ Ok xs
placed list step [] before xs read = read
placed list step (v ∷ values) before xs read =
    behind list step values before xs (table_as step v) (λ y. placed list step values (before ++ y ∷ []) xs) read

pub entries_as-array : {X : Type 0} (list : CertList) (step : Members → Result X CertFault) (values : List Value) (xs : List X)
    → each_alone (table_as step) (map view values) ≡ Ok xs → entries_as list step (array (items_view values)) ≡ Ok xs
unfolding entries_as values_of
entries_as-array list step values xs read = rw (items_values-items_of (map view values)) (placed list step (map view values) [] xs read)

pub set_key_of-array : (d : Data) (values : List Value) (set : List ℕ) → d ≡ array (items_view values) → each_alone (whole_of (2 ^ 16)) (map view values) ≡ Ok set
    → length set ≡ 8 → set_key_of d ≡ Ok set
unfolding set_key_of
set_key_of-array d values set is read long =
    let test : (length set == 8) ≡ true = eq-eqb (length set) 8 long in
    rw (list_of-array (whole_of (2 ^ 16)) d values set is read, test) refl

pub table_as-table : {X : Type 0} (step : Members → Result X CertFault) (d : Data) (fields : Members) (x : X) → d ≡ table fields
    → step fields ≡ Ok x → table_as step d ≡ Ok x
unfolding table_as table_of
table_as-table step d fields x is read = rw is read

-- what a printable value is, another way
pub same_printable : (levels : ℕ) (d e : Data) → d ≡ e → IsPrintable levels e → IsPrintable levels d
same_printable levels d e is printable = rw is printable

-- one value more
past : {X F : Type 0} (r : Result X F) (step : Data → Result X F) (values : List Data) (d : Data) (before read : List X) (x : X)
    → ((more : List X) → in_turn (with_next (λ _ e. step e)) more values ≡ Ok read → in_turn (with_next (λ _ e. step e)) more (values ++ d ∷ []) ≡ Ok (read ++ x ∷ []))
    → ((r >>= λ y. Ok (before ++ y ∷ [])) >>= λ more. in_turn (with_next (λ _ e. step e)) more values) ≡ Ok read
    → ((r >>= λ y. Ok (before ++ y ∷ [])) >>= λ more. in_turn (with_next (λ _ e. step e)) more (values ++ d ∷ [])) ≡ Ok (read ++ x ∷ [])
past (Ok y) step values d before read x ih done = ih (before ++ y ∷ []) done
past (Err f) step values d before read x ih done = absurd cc

in_turn-push : {X F : Type 0} (step : Data → Result X F) (values : List Data) (d : Data) (before read : List X) (x : X)
    → step d ≡ Ok x → in_turn (with_next (λ _ e. step e)) before values ≡ Ok read
    → in_turn (with_next (λ _ e. step e)) before (values ++ d ∷ []) ≡ Ok (read ++ x ∷ [])
in_turn-push step [] d before read x one done = let same : before ≡ read = cc in rw (one, same) refl
in_turn-push step (v ∷ values) d before read x one done =
    past (step v) step values d before read x (λ more. in_turn-push step values d more read x one) done

pub each_alone-push : {X : Type 0} (step : Data → Result X CertFault) (values longer : List Value) (v : Value) (read more : List X) (x : X)
    → longer ≡ values ++ v ∷ [] → more ≡ read ++ x ∷ []
    → each_alone step (map view values) ≡ Ok read → step (view v) ≡ Ok x → each_alone step (map view longer) ≡ Ok more
each_alone-push step values longer v read more x grown also done one =
    rw (grown, also, map-append) (in_turn-push step (map view values) (view v) [] read x one done)

items_depth-last : (values : List Value) (v : Value) (levels : ℕ) → items_depth (items_view values) ≤ levels → depth (view v) ≤ levels
    → items_depth (items_view (values ++ v ∷ [])) ≤ levels
items_depth-last [] v levels old new = omega arith
items_depth-last (x ∷ values) v levels old new =
    let rest : items_depth (items_view values) ≤ levels = omega arith in
    let more = items_depth-last values v levels rest new in
    omega arith

pub printable-last : (values : List Value) (v : Value) (levels : ℕ) → IsPrintable (levels + 1) (array (items_view values)) → IsPrintable levels (view v)
    → IsPrintable (levels + 1) (array (items_view (values ++ v ∷ [])))
printable-last values v levels old new =
    let shallow : items_depth (items_view values) ≤ levels = omega (arith, old.shallow) in
    record {
      shallow = omega (arith, items_depth-last values v levels shallow new.shallow);
      sorted = items_are_sorted-last values v old.sorted new.sorted;
    }

pub printable-push : (values longer : List Value) (v : Value) (levels : ℕ) → longer ≡ values ++ v ∷ [] → IsPrintable (levels + 1) (array (items_view values))
    → IsPrintable levels (view v) → IsPrintable (levels + 1) (array (items_view longer))
printable-push values longer v levels grown old new = rw grown (printable-last values v levels old new)
