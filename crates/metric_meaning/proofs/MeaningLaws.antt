-- The tests by which an instrument is compared decide what it means.
use Rattle.std.proofs.Common.{◌≡◌, ◌∙◌, ℕ, ◌/◌, ◌%◌, Bool, true, false, ◌&&◌, List, [], ◌∷◌, length, take, Option, Some, None, refl, sym, ap, subst, Decides}
use Rattle.std.specs.Prelude.{◌==◌, MatchOption, if◌then◌else◌, is_some, map, not, slice_get}
use Rattle.std.specs.List.{AllByRecursion}
use Rattle.std.specs.Str.{bytes_eq}
use Rattle.std.proofs.lemmas.Bool.{not-false, true≢false}
use Rattle.std.proofs.lemmas.Bool.Decides.{Decides-and, Decides-at, Decides-like}
use Rattle.std.proofs.lemmas.List.Elements.{All-from_recursion, recursion_from_All}
use Rattle.std.proofs.lemmas.Slice.Eq.{bytes_eq-Decides}
use Rattle.metric_contents.specs.Attributes.{given_by}
use Rattle.metric_contents.specs.Encoding.{Given}
use Rattle.metric_contents.specs.Places.{same_value}
use Rattle.metric_contents.specs.SameValues.{same_value-Decides}
use Rattle.metric_contents.specs.declared.contents.Contents.{Contents}
use Rattle.metric_contents.specs.declared.contents.Instrument.{Instrument}
use Rattle.metric_contents.specs.declared.contents.Key.{Key}
use Rattle.metric_names.specs.declared.value.AttrValue.{AttrValue}
use Rattle.metric_meaning.specs.Agreeing.{HasHead, after_values, is_same, is_there_and, keys_agree, shape_by}
use Rattle.metric_meaning.specs.Meanings.{AskedKey, KeysMean, Means, asked_keys, meter_name, with_value}
use Rattle.metric_meaning.specs.declared.difference.Difference.{Difference}
use Rattle.metric_meaning.specs.declared.expected.Expected.{Expected}

-- the values of the name that stand first, and what follows them
abbrev pub front_values : List ℕ → List Given → List AttrValue
front_values name [] = []
front_values name (given ∷ others) = if bytes_eq given.0 name then given.1 ∷ front_values name others else []

abbrev pub after_front : List ℕ → List Given → List Given
after_front name [] = []
after_front name (given ∷ others) = if bytes_eq given.0 name then after_front name others else given ∷ others

abbrev pub keyed : List ℕ → List AttrValue → AskedKey
keyed name values = record { name = name; values = values }

-- the key that stands first
abbrev pub first_key : Given → List Given → AskedKey
first_key given others = keyed given.0 (given.1 ∷ front_values given.0 others)

-- its values are one key, and what follows them are the others
pub groups : (given : Given) (others : List Given) → asked_keys (given ∷ others) ≡ first_key given others ∷ asked_keys (after_front given.0 others)
groups given [] = refl
groups given (o ∷ os) =
    ap (with_value given) (groups o os) ∙ by (bytes_eq o.0 given.0) refl (groups o os)
  where
    by : (b : Bool) → bytes_eq o.0 given.0 ≡ b → asked_keys (o ∷ os) ≡ first_key o os ∷ asked_keys (after_front o.0 os)
        → (if b then keyed given.0 (given.1 ∷ (o.1 ∷ front_values o.0 os)) ∷ asked_keys (after_front o.0 os)
        else keyed given.0 (given.1 ∷ []) ∷ (first_key o os ∷ asked_keys (after_front o.0 os)))
        ≡ keyed given.0 (given.1 ∷ (if b then o.1 ∷ front_values given.0 os else [])) ∷ asked_keys (if b then after_front given.0 os else o ∷ os)
    by true is rest =
        ap (λ (name : List ℕ). keyed given.0 (given.1 ∷ (o.1 ∷ front_values name os)) ∷ asked_keys (after_front name os))
        ((bytes_eq-Decides o.0 given.0).0 is)
    by false is rest = ap (λ (keys : List AskedKey). keyed given.0 (given.1 ∷ []) ∷ keys) (sym rest)

-- the values of a key begin with others
begins : List AttrValue → List AttrValue → Bool
begins values [] = true
begins [] (a ∷ asked) = false
begins (value ∷ values) (a ∷ asked) = same_value value a && begins values asked

begins-Decides : (values asked : List AttrValue) → Decides (begins values asked) (take (length asked) values ≡ asked)
unfolding begins
begins-Decides [] [] = (λ e. refl, λ e. refl)
begins-Decides (value ∷ values) [] = (λ e. refl, λ e. refl)
begins-Decides [] (a ∷ asked) = (λ e. absurd (true≢false (sym e)), λ e. absurd cc)
begins-Decides (value ∷ values) (a ∷ asked) =
    Decides-like (same_value value a && begins values asked) (λ h. λ i. h.0 i ∷ h.1 i) (λ e. (heads e, tails e))
    (Decides-and (same_value value a) (begins values asked) (same_value-Decides value a) (begins-Decides values asked))
  where
    heads : value ∷ take (length asked) values ≡ a ∷ asked → value ≡ a
    heads e = cc

    tails : value ∷ take (length asked) values ≡ a ∷ asked → take (length asked) values ≡ asked
    tails e = cc

abbrev where_true : (b : Bool) → List Given → Option (List Given)
where_true b rest = if b then Some rest else None

-- what is left after the values of a key is what stands behind them, where the key begins with them
values_law : (name : List ℕ) (values : List AttrValue) (given : List Given)
    → after_values name values given ≡ where_true (begins values (front_values name given)) (after_front name given)
unfolding begins
values_law name [] [] = refl
values_law name (value ∷ values) [] = refl
values_law name [] (g ∷ gs) = by (bytes_eq g.0 name)
  where
    by : (b : Bool) → (if b then None else Some (g ∷ gs))
        ≡ where_true (begins [] (if b then g.1 ∷ front_values name gs else [])) (if b then after_front name gs else g ∷ gs)
    by true = refl
    by false = refl
values_law name (value ∷ values) (g ∷ gs) = by (bytes_eq g.0 name) (one (same_value value g.1) (values_law name values gs))
  where
    one : (s : Bool) → after_values name values gs ≡ where_true (begins values (front_values name gs)) (after_front name gs)
        → (if s then after_values name values gs else None) ≡ where_true (s && begins values (front_values name gs)) (after_front name gs)
    one true next = next
    one false next = refl

    by : (b : Bool) → (if same_value value g.1 then after_values name values gs else None) ≡ where_true (same_value value g.1 && begins values (front_values name gs)) (after_front name gs)
        → (if b then (if same_value value g.1 then after_values name values gs else None) else Some (g ∷ gs))
        ≡ where_true (begins (value ∷ values) (if b then g.1 ∷ front_values name gs else [])) (if b then after_front name gs else g ∷ gs)
    by true next = next
    by false next = refl

same-Decides : (a b : Bool) → Decides (is_same a b) (a ≡ b)
same-Decides true true = (λ e. refl, λ e. refl)
same-Decides false false = (λ e. refl, λ e. refl)
same-Decides true false = (λ e. absurd (true≢false (sym e)), λ e. absurd (true≢false e))
same-Decides false true = (λ e. absurd (true≢false (sym e)), λ e. absurd (true≢false (sym e)))

-- each key that is left may be left out
further : (optional : ℕ) (keys : List Key) → Decides (keys_agree optional keys []) (AllByRecursion (λ (key : Key). key.optional ≡ true) keys)
further optional [] = (λ e. tt, λ e. refl)
further optional (key ∷ keys) = by key.optional refl (further (optional / 2) keys)
  where
    by : (b : Bool) → key.optional ≡ b → Decides (keys_agree (optional / 2) keys []) (AllByRecursion (λ (k : Key). k.optional ≡ true) keys)
        → Decides (is_there_and (λ rest. keys_agree (optional / 2) keys rest) (if b then Some [] else None))
        ((key.optional ≡ true) × AllByRecursion (λ (k : Key). k.optional ≡ true) keys)
    by true is rest = (λ e. (is, rest.0 e), λ m. rest.1 m.1)
    by false is rest = (λ e. absurd (true≢false (sym e)), λ m. absurd (true≢false (sym m.0 ∙ is)))

-- a key is the one that is asked for, and the others are those that are
key_step : (optional : ℕ) (key : Key) (keys : List Key) (g : Given) (gs : List Given)
    → keys_agree optional (key ∷ keys) (g ∷ gs)
    ≡ (bytes_eq g.0 key.name && (is_same key.optional (optional % 2 == 1)
    && (begins key.values (g.1 ∷ front_values g.0 gs) && keys_agree (optional / 2) keys (after_front g.0 gs))))
key_step optional key keys g gs = by (bytes_eq g.0 key.name) refl
  where
    joined : (s b : Bool) (rest : List Given) → is_there_and (λ left. keys_agree (optional / 2) keys left) (if s then where_true b rest else None)
        ≡ (s && (b && keys_agree (optional / 2) keys rest))
    joined true true rest = refl
    joined true false rest = refl
    joined false b rest = refl

    by : (b : Bool) → bytes_eq g.0 key.name ≡ b
        → is_there_and (λ left. keys_agree (optional / 2) keys left)
        (if b && is_same key.optional (optional % 2 == 1) then after_values key.name key.values (g ∷ gs) else None)
        ≡ (b && (is_same key.optional (optional % 2 == 1)
        && (begins key.values (g.1 ∷ front_values g.0 gs) && keys_agree (optional / 2) keys (after_front g.0 gs))))
    by false is = refl
    by true is =
        let s = is_same key.optional (optional % 2 == 1) in
        let same : g.0 ≡ key.name = (bytes_eq-Decides g.0 key.name).0 is in
        let left : after_values key.name key.values (g ∷ gs) ≡ where_true (begins key.values (g.1 ∷ front_values key.name gs)) (after_front key.name gs)
        = values_law key.name key.values (g ∷ gs)
        ∙ ap (λ (b : Bool). where_true (begins key.values (if b then g.1 ∷ front_values key.name gs else [])) (if b then after_front key.name gs else g ∷ gs)) is in
        ap (λ (o : Option (List Given)). is_there_and (λ rest. keys_agree (optional / 2) keys rest) (if s then o else None)) left
        ∙ joined s (begins key.values (g.1 ∷ front_values key.name gs)) (after_front key.name gs)
        ∙ ap (λ (n : List ℕ). s && (begins key.values (g.1 ∷ front_values n gs) && keys_agree (optional / 2) keys (after_front n gs))) (sym same)

-- what the tests of a key decide, and those of the others
abbrev KeyParts : ℕ → Key → List Key → Given → List Given → Type 0
KeyParts optional key keys g gs =
    (g.0 ≡ key.name) × ((key.optional ≡ (optional % 2 == 1))
    × ((take (length (g.1 ∷ front_values g.0 gs)) key.values ≡ g.1 ∷ front_values g.0 gs)
    × KeysMean (optional / 2) (asked_keys (after_front g.0 gs)) keys))

parts_mean : (optional : ℕ) (key : Key) (keys : List Key) (g : Given) (gs : List Given) → KeyParts optional key keys g gs
    → KeysMean optional (asked_keys (g ∷ gs)) (key ∷ keys)
parts_mean optional key keys g gs h =
    subst (λ (asked : List AskedKey). KeysMean optional asked (key ∷ keys)) (sym (groups g gs))
    (record { name = sym h.0; optional = h.1.0; values = h.1.1.0 }, h.1.1.1)

meaning_parts : (optional : ℕ) (key : Key) (keys : List Key) (g : Given) (gs : List Given) → KeysMean optional (asked_keys (g ∷ gs)) (key ∷ keys)
    → KeyParts optional key keys g gs
meaning_parts optional key keys g gs m =
    let parts = subst (λ (asked : List AskedKey). KeysMean optional asked (key ∷ keys)) (groups g gs) m in
    (sym parts.0.name, (parts.0.optional, (parts.0.values, parts.1)))

-- the keys mean what is given exactly where they agree
keys_decide : (keys : List Key) (optional : ℕ) (given : List Given) → Decides (keys_agree optional keys given) (KeysMean optional (asked_keys given) keys)
keys_decide [] optional [] =
    let rest = further optional [] in
    (λ e. All-from_recursion (λ (key : Key). key.optional ≡ true) [] (rest.0 e), λ m. rest.1 (recursion_from_All (λ (key : Key). key.optional ≡ true) [] m))
keys_decide (key ∷ keys) optional [] =
    let rest = further optional (key ∷ keys) in (
      λ e. All-from_recursion (λ (k : Key). k.optional ≡ true) (key ∷ keys) (rest.0 e),
      λ m. rest.1 (recursion_from_All (λ (k : Key). k.optional ≡ true) (key ∷ keys) m),
    )
keys_decide [] optional (g ∷ gs) = (λ e. absurd (true≢false (sym e)), λ m. absurd (subst (λ (asked : List AskedKey). KeysMean optional asked []) (groups g gs) m))
keys_decide (key ∷ keys) optional (g ∷ gs) =
    let values : List AttrValue = g.1 ∷ front_values g.0 gs in
    let left = after_front g.0 gs in
    let b1 = bytes_eq g.0 key.name in
    let b2 = is_same key.optional (optional % 2 == 1) in
    let b3 = begins key.values values in
    let b4 = keys_agree (optional / 2) keys left in
    Decides-at (keys_agree optional (key ∷ keys) (g ∷ gs)) (b1 && (b2 && (b3 && b4))) (key_step optional key keys g gs)
    (Decides-like (b1 && (b2 && (b3 && b4))) (parts_mean optional key keys g gs) (meaning_parts optional key keys g gs)
    (Decides-and b1 (b2 && (b3 && b4)) (bytes_eq-Decides g.0 key.name)
    (Decides-and b2 (b3 && b4) (same-Decides key.optional (optional % 2 == 1))
    (Decides-and b3 b4 (begins-Decides key.values values) (keys_decide keys (optional / 2) left)))))

-- an instrument of the right head means it exactly where no difference was found in its keys
pub means_by : (contents : Contents) (number : ℕ) (own : Instrument) (expected : Expected) (found : Option Difference)
    → slice_get contents.instruments number ≡ Some own → HasHead (meter_name contents number) own (shape_by expected)
    → is_some found ≡ not (keys_agree expected.optional own.keys (map given_by expected.keys.now))
    → MatchOption found (Means contents number (shape_by expected)) (λ difference. Means contents number (shape_by expected) → ⊥)
means_by contents number own expected None is head none =
    let given : List Given = map given_by expected.keys.now in
    let agree : keys_agree expected.optional own.keys given ≡ true = not-false (keys_agree expected.optional own.keys given) (sym none) in
    record {
      own = own;
      is = is;
      meter = head.named;
      name = head.has.name;
      kind = head.has.kind;
      unit = head.has.unit;
      keys = (keys_decide own.keys expected.optional given).0 agree;
    }
means_by contents number own expected (Some difference) is head some = λ means.
    let given : List Given = map given_by expected.keys.now in
    let keys = subst (λ (i : Instrument). KeysMean expected.optional (asked_keys given) i.keys) (inside means.own (sym means.is ∙ is)) means.keys in
    true≢false (some ∙ ap not ((keys_decide own.keys expected.optional given).1 keys))
  where
    inside : (other : Instrument) → Some other ≡ Some own → other ≡ own
    inside other e = cc
