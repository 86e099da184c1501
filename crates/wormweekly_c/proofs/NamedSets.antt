-- What the attributes of the entries of a set key name.
use Rattle.std.proofs.Common.{◌≡◌, ◌≢◌, ◌∙◌, ◌++◌, ◌∷◌, ◌+◌, ◌-◌, ◌<◌, ◌≤◌, ◌&&◌, ◌||◌, ℕ, zero, suc, Bool, true, false, cond, List, [], Option, Some, None, Ok, Result, arith, ap, get_or, length, map, refl, sym, subst, true≢false}
use Rattle.std.specs.Prelude.{◌==◌, All, AllPairs, not, replicate, find, is_some, slice_get, option_map, unwrap_or}
use Rattle.std.specs.List.{list_all, list_any, position_from}
use Rattle.std.specs.Option.{option_or}
use Rattle.std.specs.Str.{bytes_eq}
use Rattle.std.proofs.lemmas.Bool.{and_from, and_parts, eqb-true, false_from_ne_true}
use Rattle.std.proofs.lemmas.Bool.Decides.{nat_tests}
use Rattle.std.proofs.lemmas.List.Folds.{find-append, list_all-append, list_any-append}
use Rattle.std.proofs.lemmas.List.Elements.{All-head, All-tail}
use Rattle.std.proofs.lemmas.Option.{get_or_from_slice_get, slice_get-get_or, slice_get_within}
use Rattle.std.proofs.lemmas.Slice.Eq.{bytes_eq-Decides}
use Rattle.metric_base.specs.Steps.{◌>>=◌, require, require_some}
use Rattle.metric_names.specs.declared.value.AttrValue.{AttrValue}
use Rattle.metric_names.specs.declared.value.AttrValue.TheVariants.{Flag}
use Rattle.metric_catalogue.specs.Sound.{IsSound, IsSoundInstrument}
use Rattle.metric_contents.specs.declared.contents.Contents.{Contents}
use Rattle.metric_contents.specs.declared.contents.Instrument.{Instrument}
use Rattle.metric_contents.specs.declared.contents.Key.{Key}
use Rattle.metric_contents.specs.declared.refusal.Refusal.{Refusal}
use Rattle.metric_contents.specs.declared.refusal.Refusal.TheVariants.{DuplicateKey, UnknownInstrument, UnknownKey, UnknownValue, MissingKey}
use Rattle.metric_contents.specs.ByKeys.{is_allowed, values_by_keys}
use Rattle.metric_contents.specs.Encoding.{Given, allowed_set, encode_of, entry_at, entry_of, has_declared_value, has_repeated_key, is_complete, is_declared, is_of, permitted, set_key, set_of}
use Rattle.metric_contents.specs.KeyNames.{is_key}
use Rattle.metric_contents.specs.KeySets.{is_key_entry, is_key_set}
use Rattle.metric_contents.specs.Places.{same_value}
use Rattle.metric_contents.specs.SameValues.{same_value-Decides}
use Rattle.metric_meaning.proofs.Apart.{AllPairs-head, AllPairs-tail}
use Rattle.wormweekly_c.specs.Ranks.{RanksAreTold, RanksNameSets, named_at, named_by, valued}

-- ---- the place of a value among values that are apart

place_own : (values : List AttrValue) (i n : ℕ) (value : AttrValue) → AllPairs (λ one other. one ≢ other) values → slice_get values n ≡ Some value
    → position_from (same_value value) i values ≡ Some (i + n)
place_own [] i n value apart at = absurd cc
place_own (one ∷ values) i zero value apart at =
    let same : one ≡ value = cc in
    let found : same_value value one ≡ true = (same_value-Decides value one).1 (sym same) in
    ap (λ (b : Bool). cond b (Some i) (position_from (same_value value) (i + 1) values)) found ∙ ap Some (omega arith)
place_own (one ∷ values) i (suc n) value apart at =
    let within : n < length values = slice_get_within values n value at in
    let differs : one ≢ get_or values n one = apart 0 (suc n) one (omega arith) (omega arith) in
    let is : get_or values n one ≡ value = get_or_from_slice_get values n value one at in
    let other : same_value value one ≡ false = false_from_ne_true (same_value value one) (λ same. differs (sym ((same_value-Decides value one).0 same) ∙ sym is)) in
    let later : position_from (same_value value) (i + 1) values ≡ Some (i + 1 + n) = place_own values (i + 1) n value (AllPairs-tail (λ a b. a ≢ b) one values apart) at in
    ap (λ (b : Bool). cond b (Some i) (position_from (same_value value) (i + 1) values)) other ∙ later ∙ ap Some (omega arith)

-- ---- which attribute is found of a key

-- the attribute of an entry
abbrev found : Key → ℕ → Option Given
found key zero = None
found key (suc n) = option_map (λ value. (key.name, value)) (slice_get key.values n)

own_text : (text : List ℕ) → bytes_eq text text ≡ true
own_text text = (bytes_eq-Decides text text).1 refl

none_with : (name : List ℕ) (key : Key) (o : Option AttrValue) → name ≢ key.name → list_any (is_of name) (valued key.name o) ≡ false
none_with name key None apart = refl
none_with name key (Some value) apart = ap (λ (b : Bool). b || false) (false_from_ne_true (bytes_eq key.name name) (λ same. apart (sym ((bytes_eq-Decides key.name name).0 same))))

none_at : (name : List ℕ) (key : Key) (entry : ℕ) → name ≢ key.name → list_any (is_of name) (named_at key.name key.values entry) ≡ false
none_at name key zero apart = refl
none_at name key (suc n) apart = none_with name key (slice_get key.values n) apart

-- keys of other names name no attribute of this one
none_by : (name : List ℕ) (keys : List Key) (set : List ℕ) → All (λ other. name ≢ other.name) keys → list_any (is_of name) (named_by keys set) ≡ false
none_by name [] set apart = refl
none_by name (key ∷ keys) [] apart = refl
none_by name (key ∷ keys) (entry ∷ set) apart =
    list_any-append (is_of name) (named_at key.name key.values entry) (named_by keys set)
    ∙ ap (λ (b : Bool). b || list_any (is_of name) (named_by keys set)) (none_at name key entry (All-head (λ other. name ≢ other.name) key keys apart))
    ∙ none_by name keys set (All-tail (λ other. name ≢ other.name) key keys apart)

not_found : {X : Type 0} (p : X → Bool) (xs : List X) → list_any p xs ≡ false → find p xs ≡ None
not_found p [] e = refl
not_found p (x ∷ xs) e = at (p x) e (not_found p xs)
  where
    at : (b : Bool) → (b || list_any p xs) ≡ false → (list_any p xs ≡ false → find p xs ≡ None) → cond b (Some x) (find p xs) ≡ None
    at true e1 later = absurd (true≢false e1)
    at false e1 later = later e1

any_found : {X : Type 0} (p : X → Bool) (xs : List X) → list_any p xs ≡ is_some (find p xs)
any_found p [] = refl
any_found p (x ∷ xs) = at (p x) (any_found p xs)
  where
    at : (b : Bool) → list_any p xs ≡ is_some (find p xs) → (b || list_any p xs) ≡ is_some (cond b (Some x) (find p xs))
    at true later = refl
    at false later = later

-- the attribute of a key is found behind those of another one
found_behind : (name : List ℕ) (key : Key) (entry : ℕ) (rest : List Given) → name ≢ key.name → find (is_of name) (named_at key.name key.values entry ++ rest) ≡ find (is_of name) rest
found_behind name key entry rest apart =
    find-append (is_of name) (named_at key.name key.values entry) rest
    ∙ ap (λ (o : Option Given). option_or o (find (is_of name) rest)) (not_found (is_of name) (named_at key.name key.values entry) (none_at name key entry apart))

-- the attribute of each key is that of its entry
abbrev AreFound : List Given → List Key → List ℕ → Type 0
AreFound attrs [] set = Unit {0}
AreFound attrs (key ∷ keys) [] = ⊥
AreFound attrs (key ∷ keys) (entry ∷ set) = (find (is_of key.name) attrs ≡ found key entry) × AreFound attrs keys set

behind : (key : Key) (entry : ℕ) (rest : List Given) (keys : List Key) (set : List ℕ) → All (λ other. key.name ≢ other.name) keys → AreFound rest keys set
    → AreFound (named_at key.name key.values entry ++ rest) keys set
behind key entry rest [] set apart are = tt
behind key entry rest (other ∷ keys) [] apart are = absurd are
behind key entry rest (other ∷ keys) (own ∷ set) apart are = (
  found_behind other.name key entry rest (λ same. All-head (λ o. key.name ≢ o.name) other keys apart (sym same)) ∙ are.0,
  behind key entry rest keys set (All-tail (λ o. key.name ≢ o.name) other keys apart) are.1,
)

found_first : (key : Key) (entry : ℕ) (rest : List Given) → list_any (is_of key.name) rest ≡ false → find (is_of key.name) (named_at key.name key.values entry ++ rest) ≡ found key entry
found_first key zero rest none = not_found (is_of key.name) rest none
found_first key (suc n) rest none = at (slice_get key.values n)
  where
    at : (o : Option AttrValue) → find (is_of key.name) (valued key.name o ++ rest) ≡ option_map (λ value. (key.name, value)) o
    at None = not_found (is_of key.name) rest none
    at (Some value) = ap (λ (b : Bool). cond b (Some (key.name, value)) (find (is_of key.name) rest)) (own_text key.name)

all_found : (keys : List Key) (set : List ℕ) → AllPairs (λ key other. key.name ≢ other.name) keys → is_key_set keys set ≡ true → AreFound (named_by keys set) keys set
all_found [] set apart full = tt
all_found (key ∷ keys) [] apart full = absurd (true≢false (sym full))
all_found (key ∷ keys) (entry ∷ set) apart full =
    let others = AllPairs-head (λ (k : Key) (o : Key). k.name ≢ o.name) key keys apart in
    let parts = and_parts (is_key_entry key entry) (is_key_set keys set) full in (
      found_first key entry (named_by keys set) (none_by key.name keys set others),
      behind key entry (named_by keys set) keys set others (all_found keys set (AllPairs-tail (λ (k : Key) (o : Key). k.name ≢ o.name) key keys apart) parts.1),
    )

-- ---- entries

value_at : (key : Key) (n : ℕ) → is_key_entry key (suc n) ≡ true → (value : AttrValue) × (slice_get key.values n ≡ Some value)
value_at key n entry =
    let within : n < length key.values = grind (arith, nat_tests, entry) in
    (get_or key.values n (Flag true), slice_get-get_or key.values n (Flag true) within)

entry_is : (key : Key) (entry : ℕ) → AllPairs (λ value other. value ≢ other) key.values → is_key_entry key entry ≡ true → entry_of key (found key entry) ≡ Some entry
entry_is key zero apart is = refl
entry_is key (suc n) apart is =
    let (value, at) = value_at key n is in
    ap (λ (o : Option AttrValue). entry_of key (option_map (λ v. (key.name, v)) o)) at
    ∙ ap (option_map (λ number. number + 1)) (place_own key.values 0 n value apart at) ∙ ap Some (omega arith)

is_given : (key : Key) (entry : ℕ) → is_key_entry key entry ≡ true → (key.optional || is_some (found key entry)) ≡ true
is_given key zero is = ap (λ (b : Bool). b || is_some {T = Given} None) is
is_given key (suc n) is =
    let (value, at) = value_at key n is in
    let some : is_some (found key (suc n)) ≡ true = ap (λ (o : Option AttrValue). is_some {T = Given} (option_map (λ v. (key.name, v)) o)) at in
    ap (λ (b : Bool). key.optional || b) some ∙ or_true key.optional
  where
    or_true : (b : Bool) → (b || true) ≡ true
    or_true true = refl
    or_true false = refl

abbrev ValuesApart : Key → Type 0
ValuesApart key = AllPairs (λ value other. value ≢ other) key.values

all_allowed : (attrs : List Given) (keys : List Key) (set : List ℕ) → All ValuesApart keys → is_key_set keys set ≡ true → AreFound attrs keys set
    → list_all (is_allowed attrs) keys ≡ true
all_allowed attrs [] set apart full are = refl
all_allowed attrs (key ∷ keys) [] apart full are = absurd are
all_allowed attrs (key ∷ keys) (entry ∷ set) apart full are =
    let parts = and_parts (is_key_entry key entry) (is_key_set keys set) full in
    let own = ap (entry_of key) are.0 ∙ entry_is key entry (All-head ValuesApart key keys apart) parts.0 in
    and_from (is_allowed attrs key) (list_all (is_allowed attrs) keys) (ap is_some own)
    (all_allowed attrs keys set (All-tail ValuesApart key keys apart) parts.1 are.1)

all_complete : (attrs : List Given) (keys : List Key) (set : List ℕ) → is_key_set keys set ≡ true → AreFound attrs keys set → list_all (is_complete attrs) keys ≡ true
all_complete attrs [] set full are = refl
all_complete attrs (key ∷ keys) [] full are = absurd are
all_complete attrs (key ∷ keys) (entry ∷ set) full are =
    let parts = and_parts (is_key_entry key entry) (is_key_set keys set) full in
    let given = ap (λ (b : Bool). key.optional || b) (any_found (is_of key.name) attrs ∙ ap is_some are.0) ∙ is_given key entry parts.0 in
    and_from (is_complete attrs key) (list_all (is_complete attrs) keys) given (all_complete attrs keys set parts.1 are.1)

-- the entries that are found, and zeros, are the set key
all_entries : (attrs : List Given) (keys : List Key) (set : List ℕ) (n : ℕ) → length set ≡ n → All ValuesApart keys → is_key_set keys set ≡ true → AreFound attrs keys set
    → map (λ key. unwrap_or (entry_at attrs key) 0) keys ++ replicate (n - length keys) 0 ≡ set
all_entries attrs [] set n long apart full are = ap (λ (m : ℕ). replicate m 0) (omega arith) ∙ zeros set n long full
  where
    zeros : (set : List ℕ) (n : ℕ) → length set ≡ n → list_all (λ entry. entry == 0) set ≡ true → replicate n 0 ≡ set
    zeros [] zero long full = refl
    zeros [] (suc n) long full = absurd (omega arith)
    zeros (entry ∷ set) zero long full = absurd (omega arith)
    zeros (entry ∷ set) (suc n) long full =
        let parts = and_parts (entry == 0) (list_all (λ e. e == 0) set) full in
        let head : entry ≡ 0 = eqb-true entry 0 parts.0 in
        ap (λ (l : List ℕ). 0 ∷ l) (zeros set n (omega arith) parts.1) ∙ ap (λ (e : ℕ). e ∷ set) (sym head)
all_entries attrs (key ∷ keys) [] n long apart full are = absurd are
all_entries attrs (key ∷ keys) (entry ∷ set) zero long apart full are = absurd (omega arith)
all_entries attrs (key ∷ keys) (entry ∷ set) (suc n) long apart full are =
    let parts = and_parts (is_key_entry key entry) (is_key_set keys set) full in
    let own = ap (entry_of key) are.0 ∙ entry_is key entry (All-head ValuesApart key keys apart) parts.0 in
    let rest = all_entries attrs keys set n (omega arith) (All-tail ValuesApart key keys apart) parts.1 are.1 in
    let less : suc n - length (key ∷ keys) ≡ n - length keys = omega arith in
    ap (λ (m : ℕ). map (λ k. unwrap_or (entry_at attrs k) 0) (key ∷ keys) ++ replicate m 0) less
    ∙ ap (λ (o : Option ℕ). unwrap_or o 0 ∷ (map (λ k. unwrap_or (entry_at attrs k) 0) keys ++ replicate (n - length keys) 0)) own
    ∙ ap (λ (l : List ℕ). entry ∷ l) rest

-- ---- what is refused of attributes in general

none_repeated : (keys : List Key) (set : List ℕ) → AllPairs (λ key other. key.name ≢ other.name) keys → has_repeated_key (named_by keys set) ≡ false
none_repeated [] set apart = refl
none_repeated (key ∷ keys) [] apart = refl
none_repeated (key ∷ keys) (entry ∷ set) apart = at entry (none_repeated keys set (AllPairs-tail (λ (k : Key) (o : Key). k.name ≢ o.name) key keys apart))
  where
    with : (o : Option AttrValue) → has_repeated_key (named_by keys set) ≡ false → has_repeated_key (valued key.name o ++ named_by keys set) ≡ false
    with None rest = rest
    with (Some value) rest =
        ap (λ (b : Bool). b || has_repeated_key (named_by keys set)) (none_by key.name keys set (AllPairs-head (λ (k : Key) (o : Key). k.name ≢ o.name) key keys apart)) ∙ rest

    at : (e : ℕ) → has_repeated_key (named_by keys set) ≡ false → has_repeated_key (named_at key.name key.values e ++ named_by keys set) ≡ false
    at zero rest = rest
    at (suc n) rest = with (slice_get key.values n) rest

all_more : {X : Type 0} (p q : X → Bool) (xs : List X) → ((x : X) → p x ≡ true → q x ≡ true) → list_all p xs ≡ true → list_all q xs ≡ true
all_more p q [] more all = refl
all_more p q (x ∷ xs) more all =
    let parts = and_parts (p x) (list_all p xs) all in
    and_from (q x) (list_all q xs) (more x parts.0) (all_more p q xs more parts.1)

all_declared : (keys : List Key) (set : List ℕ) → list_all (is_declared keys) (named_by keys set) ≡ true
all_declared [] set = refl
all_declared (key ∷ keys) [] = refl
all_declared (key ∷ keys) (entry ∷ set) =
    list_all-append (is_declared (key ∷ keys)) (named_at key.name key.values entry) (named_by keys set)
    ∙ and_from (list_all (is_declared (key ∷ keys)) (named_at key.name key.values entry)) (list_all (is_declared (key ∷ keys)) (named_by keys set)) (at entry)
    (all_more (is_declared keys) (is_declared (key ∷ keys)) (named_by keys set) (λ given is. later (is_key given.0 key) (is_declared keys given) is) (all_declared keys set))
  where
    later : (a b : Bool) → b ≡ true → (a || b) ≡ true
    later true b is = refl
    later false b is = is

    with : (o : Option AttrValue) → list_all (is_declared (key ∷ keys)) (valued key.name o) ≡ true
    with None = refl
    with (Some value) = ap (λ (b : Bool). (b || list_any (is_key key.name) keys) && true) (own_text key.name)

    at : (e : ℕ) → list_all (is_declared (key ∷ keys)) (named_at key.name key.values e) ≡ true
    at zero = refl
    at (suc n) = with (slice_get key.values n)

-- ---- together

no_fault : (a b c d : Bool) (set : List ℕ) → a ≡ true → b ≡ true → c ≡ true → d ≡ true
    → (require a DuplicateKey >>= λ _. require b UnknownKey >>= λ _. require c UnknownValue >>= λ _. require d MissingKey >>= λ _. Ok set) ≡ Ok set
no_fault true true true true set e1 e2 e3 e4 = refl
no_fault true true true false set e1 e2 e3 e4 = absurd (true≢false (sym e4))
no_fault true true false d set e1 e2 e3 e4 = absurd (true≢false (sym e3))
no_fault true false c d set e1 e2 e3 e4 = absurd (true≢false (sym e2))
no_fault false b c d set e1 e2 e3 e4 = absurd (true≢false (sym e1))

-- keys of distinct names, each of distinct values
record AreApart (keys : List Key) : Type 0 where
  names : AllPairs (λ key other. key.name ≢ other.name) keys
  values : All ValuesApart keys

set_named : (keys : List Key) (set : List ℕ) → AreApart keys → length set ≡ 8 → is_key_set keys set ≡ true → set_of keys (named_by keys set) ≡ Ok set
unfolding set_of
set_named keys set apart long full =
    let attrs = named_by keys set in
    let are = all_found keys set apart.names full in
    let new : has_repeated_key attrs ≡ false = none_repeated keys set apart.names in
    let valued : list_all (has_declared_value keys) attrs ≡ true = values_by_keys keys attrs new ∙ all_allowed attrs keys set apart.values full are in
    no_fault (not (has_repeated_key attrs)) (list_all (is_declared keys) attrs) (list_all (has_declared_value keys) attrs) (list_all (is_complete attrs) keys) (set_key keys attrs)
    (ap not new) (all_declared keys set) valued (all_complete attrs keys set full are)
    ∙ ap Ok (all_entries attrs keys set 8 long apart.values full are)

sound_instrument : (contents : Contents) (number : ℕ) (instrument : Instrument) → IsSound contents → slice_get contents.instruments number ≡ Some instrument
    → IsSoundInstrument (length contents.meters) instrument
sound_instrument contents number instrument sound at =
    subst (IsSoundInstrument (length contents.meters)) (get_or_from_slice_get contents.instruments number instrument instrument at)
    (sound.instruments.each number instrument (slice_get_within contents.instruments number instrument at))

pub few_keys : (contents : Contents) (number : ℕ) (instrument : Instrument) → IsSound contents → slice_get contents.instruments number ≡ Some instrument → length instrument.keys ≤ 8
few_keys contents number instrument sound at = (sound_instrument contents number instrument sound at).keys.few

-- the keys of an instrument of a sound catalogue
sound_keys : (contents : Contents) (number : ℕ) (instrument : Instrument) → IsSound contents → slice_get contents.instruments number ≡ Some instrument → AreApart instrument.keys
sound_keys contents number instrument sound at =
    let own = sound_instrument contents number instrument sound at in
    record { names = own.keys.apart; values = λ k d lt. (own.keys.each k d lt).values.apart }

pub ranks_name_sets : RanksNameSets
unfolding encode_of allowed_set
ranks_name_sets contents number instrument set sound at long full =
    let named = set_named instrument.keys set (sound_keys contents number instrument sound at) long full in
    record {
      named = named;
      encoded =
          ap (λ (o : Option Instrument). require_some o UnknownInstrument >>= λ own. allowed_set own (named_by instrument.keys set)) at
          ∙ ap (λ (own : Result (List ℕ) Refusal). own >>= permitted instrument.allowed) named;
    }

pub ranks_are_told : RanksAreTold
ranks_are_told contents number instrument set other sound at long far full whole same =
    let apart = sound_keys contents number instrument sound at in
    ok_same set other (sym (set_named instrument.keys set apart long full) ∙ ap (set_of instrument.keys) same ∙ set_named instrument.keys other apart far whole)
  where
    ok_same : (xs ys : List ℕ) → ◌≡◌ {A = Result (List ℕ) Refusal} (Ok xs) (Ok ys) → xs ≡ ys
    ok_same xs ys e = cc
