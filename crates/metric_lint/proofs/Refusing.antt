-- The first mistake is of the first refusal.
use Rattle.std.proofs.Common.{◌≡◌, ℕ, ℤ, Bool, true, false, cond, not, ◌&&◌, ◌||◌, is_some, List, [], ◌∷◌, Option, Some, None, Result, Ok, slice_get, find, refl, sym, ap, ◌∙◌}
use Rattle.std.specs.List.{list_all, list_any}
use Rattle.std.specs.Option.{option_map, option_or}
use Rattle.std.specs.Result.{result_err}
use Rattle.metric_base.specs.Steps.{◌>>=◌, require, require_some}
use Rattle.metric_combinations.specs.Combinations.{permits}
use Rattle.metric_contents.specs.declared.contents.Instrument.{Instrument}
use Rattle.metric_contents.specs.declared.contents.Key.{Key}
use Rattle.metric_contents.specs.declared.refusal.Refusal.{Refusal}
use Rattle.metric_contents.specs.declared.refusal.Refusal.TheVariants as refusals
use Rattle.metric_contents.specs.Encoding.{Given, allowed_set, encode_of, has_declared_value, has_repeated_key, is_complete, is_declared, is_of, set_key, set_of}
use Rattle.metric_lint.specs.Explanations.{Fault, DuplicateKey, UnknownKey, UnknownValue, MissingKey, Combination, ValueRange, On, explained, explained_with, first_repeated, is_combined, is_in_range, key_mistake, missing_mistake, mistake_of, refusal_of, said_of, value_mistake}

-- what is found where a test does not hold of all
all_not_found : {X : Type 0} (p : X → Bool) (xs : List X) → list_all p xs ≡ not (is_some (find (λ x. not (p x)) xs))
all_not_found p [] = refl
all_not_found p (x ∷ xs) = by (p x) (all_not_found p xs)
  where
    by : (b : Bool) → list_all p xs ≡ not (is_some (find (λ z. not (p z)) xs)) → (b && list_all p xs) ≡ not (is_some (cond (not b) (Some x) (find (λ z. not (p z)) xs)))
    by true e = e
    by false e = refl

repeated_found : (attrs : List Given) → has_repeated_key attrs ≡ is_some (first_repeated attrs)
repeated_found [] = refl
repeated_found (given ∷ attrs) = by (list_any (is_of given.0) attrs) (repeated_found attrs)
  where
    by : (b : Bool) → has_repeated_key attrs ≡ is_some (first_repeated attrs) → (b || has_repeated_key attrs) ≡ is_some (cond b (Some given) (first_repeated attrs))
    by true e = refl
    by false e = e

-- the refusals of attributes, by what each test says, where a test of the set key follows
abbrev encoded_by : Bool → Bool → Bool → Bool → List ℕ → (List ℕ → Bool) → Result (List ℕ) Refusal
encoded_by twice declared allowed complete set permitted =
    (require (not twice) refusals.DuplicateKey >>= λ _.
    require declared refusals.UnknownKey >>= λ _.
    require allowed refusals.UnknownValue >>= λ _.
    require complete refusals.MissingKey >>= λ _.
    Ok set) >>= λ done.
    require (permitted done) refusals.Combination >>= λ _.
    Ok done

-- the same with the refusal of a value
abbrev refused_by : Bool → Result (List ℕ) Refusal → Option Refusal
refused_by within encoded = result_err (encoded >>= λ done. require within refusals.ValueRange >>= λ _. Ok done)

-- the mistakes, by what was found
abbrev mistake_by : Option Given → Option Given → Option Given → Option Key → Bool → Bool → ℤ → ℤ → ℤ → Option Fault
mistake_by twice undeclared unknown missing combined within value lo hi =
    option_or (option_map (λ given. DuplicateKey given.0) twice)
    (option_or (option_map (λ given. UnknownKey given.0) undeclared)
    (option_or (option_map (λ given. UnknownValue given.0 given.1) unknown)
    (option_or (option_map (λ key. MissingKey key.name) missing) (cond combined (cond within None (Some (ValueRange value lo hi))) (Some Combination)))))

by_last : (name : List ℕ) (permitted within : Bool) (value lo hi : ℤ) (set : List ℕ)
    → let encoded = (require permitted refusals.Combination >>= λ _. Ok set) in
    option_map refusal_of (option_map (On name) (cond (is_combined encoded) (cond within None (Some (ValueRange value lo hi))) (Some Combination))) ≡ refused_by within encoded
by_last name false within value lo hi set = refl
by_last name true true value lo hi set = refl
by_last name true false value lo hi set = refl

by_found : (name : List ℕ) (twice undeclared unknown : Option Given) (missing : Option Key) (permitted : List ℕ → Bool) (within : Bool) (value lo hi : ℤ) (set : List ℕ)
    → let encoded = encoded_by (is_some twice) (not (is_some undeclared)) (not (is_some unknown)) (not (is_some missing)) set permitted in
    option_map refusal_of (option_map (On name) (mistake_by twice undeclared unknown missing (is_combined encoded) within value lo hi)) ≡ refused_by within encoded
by_found name (Some given) undeclared unknown missing permitted within value lo hi set = refl
by_found name None (Some given) unknown missing permitted within value lo hi set = refl
by_found name None None (Some given) missing permitted within value lo hi set = refl
by_found name None None None (Some key) permitted within value lo hi set = refl
by_found name None None None None permitted within value lo hi set = by_last name (permitted set) within value lo hi set

-- on an instrument
on_one : (instrument : Instrument) (attrs : List Given) (value : ℤ)
    → option_map refusal_of (option_map (On instrument.name) (mistake_of instrument attrs (is_combined (allowed_set instrument attrs)) value))
    ≡ refused_by (is_in_range instrument value) (allowed_set instrument attrs)
unfolding mistake_of key_mistake value_mistake missing_mistake allowed_set set_of
on_one instrument attrs value =
    let keys = instrument.keys in
    let set = set_key keys attrs in
    let permitted = λ (s : List ℕ). permits instrument.allowed s in
    let within = is_in_range instrument value in
    let repeats = first_repeated attrs in
    let undeclared = find (λ given. not (is_declared keys given)) attrs in
    let unknown = find (λ given. not (has_declared_value keys given)) attrs in
    let missing = find (λ key. not (is_complete attrs key)) keys in
    let mistake = λ (encoded : Result (List ℕ) Refusal). option_map refusal_of (option_map (On instrument.name) (mistake_by repeats undeclared unknown missing (is_combined encoded) within value instrument.lo instrument.hi)) in
    let same : encoded_by (has_repeated_key attrs) (list_all (is_declared keys) attrs) (list_all (has_declared_value keys) attrs) (list_all (is_complete attrs) keys) set permitted
    ≡ encoded_by (is_some repeats) (not (is_some undeclared)) (not (is_some unknown)) (not (is_some missing)) set permitted =
    ap (λ (b : Bool). encoded_by b (list_all (is_declared keys) attrs) (list_all (has_declared_value keys) attrs) (list_all (is_complete attrs) keys) set permitted) (repeated_found attrs)
    ∙ ap (λ (b : Bool). encoded_by (is_some repeats) b (list_all (has_declared_value keys) attrs) (list_all (is_complete attrs) keys) set permitted) (all_not_found (is_declared keys) attrs)
    ∙ ap (λ (b : Bool). encoded_by (is_some repeats) (not (is_some undeclared)) b (list_all (is_complete attrs) keys) set permitted) (all_not_found (has_declared_value keys) attrs)
    ∙ ap (λ (b : Bool). encoded_by (is_some repeats) (not (is_some undeclared)) (not (is_some unknown)) b set permitted) (all_not_found (is_complete attrs) keys) in
    ap mistake same ∙ by_found instrument.name repeats undeclared unknown missing permitted within value instrument.lo instrument.hi set ∙ ap (refused_by within) (sym same)

-- what is told of a recording is told of its first refusal
pub explains : (instruments : List Instrument) (number : ℕ) (attrs : List Given) (value : ℤ)
    → option_map refusal_of (explained instruments number attrs value) ≡ result_err (said_of instruments number attrs value)
unfolding said_of encode_of
explains instruments number attrs value = by (slice_get instruments number)
  where
    by : (o : Option Instrument)
        → option_map refusal_of (explained_with number o attrs (is_combined (require_some o refusals.UnknownInstrument >>= λ i. allowed_set i attrs)) value)
        ≡ result_err ((require_some o refusals.UnknownInstrument >>= λ i. allowed_set i attrs) >>= λ set.
        require_some o refusals.UnknownInstrument >>= λ i. require (is_in_range i value) refusals.ValueRange >>= λ _. Ok set)
    by None = refl
    by (Some instrument) = on_one instrument attrs value

-- the first of two, where it is there or is not
pub found_first : {A B : Type 0} (f : A → B) (o : Option A) (x : A) (rest : Option B) → o ≡ Some x → Some (f x) ≡ option_or (option_map f o) rest
found_first f o x rest e = sym (ap (λ p. option_or (option_map f p) rest) e)

pub found_later : {A B : Type 0} (f : A → B) (o : Option A) (rest : Option B) → o ≡ None → rest ≡ option_or (option_map f o) rest
found_later f o rest e = sym (ap (λ p. option_or (option_map f p) rest) e)
