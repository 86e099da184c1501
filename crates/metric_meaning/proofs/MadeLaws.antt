-- What a program is made for that is made of an instrument: the instrument's own keys, which mean themselves.
use Rattle.std.proofs.Common.{◌≡◌, ◌≢◌, ◌∙◌, ◌++◌, ◌∷◌, ◌<◌, ◌/◌, ◌%◌, ℕ, Bool, true, false, List, [], ap, arith, length, map, refl, subst, sym}
use Rattle.std.specs.Prelude.{All, AllPairs, ◌==◌, ◌*◌, ◌+◌, if◌then◌else◌}
use Rattle.std.specs.Str.{bytes_eq}
use Rattle.std.proofs.Math.Seq.{take-length}
use Rattle.std.proofs.lemmas.List.{append-nil}
use Rattle.std.proofs.lemmas.List.Elements.{All-head, All-nil, All-tail}
use Rattle.metric_meaning.proofs.Apart.{AllPairs-head, AllPairs-tail}
use Rattle.std.proofs.lemmas.Nat.{div-mul-add, mod-mul-add}
use Rattle.std.proofs.lemmas.Slice.Eq.{bytes_eq-Decides}
use Rattle.metric_contents.specs.Encoding.{Given}
use Rattle.metric_contents.specs.declared.contents.Key.{Key}
use Rattle.metric_names.specs.declared.value.AttrValue.{AttrValue}
use Rattle.metric_meaning.proofs.MeaningLaws.{after_front, front_values, groups, keyed}
use Rattle.metric_meaning.specs.Made.{AnInstrumentMeansItself, AttributesAreKeys, attributes_of, key_of, optional_of}
use Rattle.metric_meaning.specs.Meanings.{AskedKey, KeysMean, asked_keys}

own_name : (name : List ℕ) → bytes_eq name name ≡ true
own_name name = (bytes_eq-Decides name name).1 refl

abbrev named : List ℕ → List AttrValue → List Given
named name values = map (λ (value : AttrValue). (name, value)) values

-- the values of a name stand first
front_named : (name : List ℕ) (values : List AttrValue) (rest : List Given) → front_values name (named name values ++ rest) ≡ values ++ front_values name rest
front_named name [] rest = refl
front_named name (value ∷ values) rest =
    ap (λ (b : Bool). if b then value ∷ front_values name (named name values ++ rest) else []) (own_name name) ∙ ap (λ (l : List AttrValue). value ∷ l) (front_named name values rest)

after_named : (name : List ℕ) (values : List AttrValue) (rest : List Given) → after_front name (named name values ++ rest) ≡ after_front name rest
after_named name [] rest = refl
after_named name (value ∷ values) rest =
    ap (λ (b : Bool). if b then after_front name (named name values ++ rest) else (name, value) ∷ (named name values ++ rest)) (own_name name) ∙ after_named name values rest

-- each key has a value
abbrev HasValue : Key → Type 0
HasValue key = 0 < length key.values

-- what stands behind the values of a key is of another name
record IsBehind (name : List ℕ) (rest : List Given) : Type 0 where
  front : front_values name rest ≡ []
  after : after_front name rest ≡ rest

behind : (name : List ℕ) (keys : List Key) → All (λ other. name ≢ other.name) keys → All HasValue keys → IsBehind name (attributes_of keys)
behind name [] apart some = record { front = refl; after = refl }
behind name (key ∷ keys) apart some = by key.values (All-head HasValue key keys some)
  where
    other : (b : Bool) → bytes_eq key.name name ≡ b → b ≡ false
    other false is = refl
    other true is = absurd (All-head (λ (o : Key). name ≢ o.name) key keys apart (sym ((bytes_eq-Decides key.name name).0 is)))

    by : (values : List AttrValue) → 0 < length values → IsBehind name (named key.name values ++ attributes_of keys)
    by [] none = absurd (omega arith)
    by (value ∷ values) there =
        let rest : List Given = named key.name values ++ attributes_of keys in
        let is : bytes_eq key.name name ≡ false = other (bytes_eq key.name name) refl in
        record {
          front = ap (λ (b : Bool). if b then value ∷ front_values name rest else []) is;
          after = ap (λ (b : Bool). if b then after_front name rest else (key.name, value) ∷ rest) is;
        }

keys_back : (keys : List Key) → All HasValue keys → AllPairs (λ key other. key.name ≢ other.name) keys → asked_keys (attributes_of keys) ≡ map key_of keys
keys_back [] some apart = refl
keys_back (key ∷ keys) some apart =
    by key.values (All-head HasValue key keys some)
    (behind key.name keys (AllPairs-head (λ (k : Key) (o : Key). k.name ≢ o.name) key keys apart) (All-tail HasValue key keys some))
    (keys_back keys (All-tail HasValue key keys some) (AllPairs-tail (λ (k : Key) (o : Key). k.name ≢ o.name) key keys apart))
  where
    by : (values : List AttrValue) → 0 < length values → IsBehind key.name (attributes_of keys) → asked_keys (attributes_of keys) ≡ map key_of keys
        → asked_keys (named key.name values ++ attributes_of keys) ≡ keyed key.name values ∷ map key_of keys
    by [] none rest others = absurd (omega arith)
    by (value ∷ values) there rest others =
        let all : List Given = named key.name values ++ attributes_of keys in
        let front : front_values key.name all ≡ values = front_named key.name values (attributes_of keys) ∙ ap (λ (l : List AttrValue). values ++ l) rest.front ∙ append-nil values in
        let after : after_front key.name all ≡ attributes_of keys = after_named key.name values (attributes_of keys) ∙ rest.after in
        groups (key.name, value) all
        ∙ ap (λ (l : List AttrValue). keyed key.name (value ∷ l) ∷ asked_keys (after_front key.name all)) front
        ∙ ap (λ (l : List Given). keyed key.name (value ∷ values) ∷ asked_keys l) after
        ∙ ap (λ (l : List AskedKey). keyed key.name (value ∷ values) ∷ l) others

pub attributes_are_keys : AttributesAreKeys
attributes_are_keys meters own sound =
    keys_back own.keys (λ i d within. (sound.keys.each i d within).some) sound.keys.apart

-- the numbers of the keys that may be left out
bit : (b : Bool) → (if b then 1 else 0) < 2
bit true = omega arith
bit false = omega arith

is_bit : (b : Bool) → ((if b then 1 else 0) == 1) ≡ b
is_bit true = refl
is_bit false = refl

own_keys : (keys : List Key) → KeysMean (optional_of keys) (map key_of keys) keys
own_keys [] = All-nil (λ (key : Key). key.optional ≡ true)
own_keys (key ∷ keys) =
    let flag : ℕ = if key.optional then 1 else 0 in
    let own : ((optional_of keys * 2 + flag) % 2 == 1) ≡ key.optional =
    ap (λ (n : ℕ). n == 1) (mod-mul-add (optional_of keys) 2 flag (bit key.optional)) ∙ is_bit key.optional in
    let rest : (optional_of keys * 2 + flag) / 2 ≡ optional_of keys = div-mul-add (optional_of keys) 2 flag (bit key.optional) in (
      record { name = refl; optional = sym own; values = take-length key.values },
      subst (λ (n : ℕ). KeysMean n (map key_of keys) keys) (sym rest) (own_keys keys),
    )

pub an_instrument_means_itself : AnInstrumentMeansItself
an_instrument_means_itself contents number own meter is called =
    record { own = own; is = is; meter = called; name = refl; kind = refl; unit = refl; keys = own_keys own.keys }
