-- Whether the values of attributes are declared, told key by key.
use Rattle.std.proofs.Common.{◌≡◌, ◌+◌, Bool, true, false, not, ◌&&◌, ◌||◌, List, [], ◌∷◌, find}
use Rattle.std.proofs.Common.{Option, Some, None, cond, is_some, refl, sym, ap, subst, ◌∙◌}
use Rattle.std.proofs.lemmas.Bool.{or_parts}
use Rattle.std.proofs.lemmas.Slice.Eq.{bytes_eq-Decides}
use Rattle.std.specs.List.{list_any, list_all}
use Rattle.std.specs.Option.{option_map}
use Rattle.metric_contents.specs.declared.contents.Key.{Key}
use Rattle.metric_contents.specs.Encoding.{Given, is_of, has_repeated_key, declares}
use Rattle.metric_contents.specs.Encoding.{has_declared_value, entry_of, entry_at}
use Rattle.metric_contents.specs.Places.{place}

-- the key declares the value that it is given, where it is given one
abbrev pub is_allowed : List Given → Key → Bool
is_allowed attrs key = is_some (entry_at attrs key)

all_true : {X : Type 0} (xs : List X) → list_all (λ (x : X). true) xs ≡ true
all_true [] = refl
all_true (x ∷ xs) = all_true xs

all_both : {X : Type 0} (p q : X → Bool) (xs : List X)
    → list_all (λ x. p x && q x) xs ≡ (list_all p xs && list_all q xs)
all_both p q [] = refl
all_both p q (x ∷ xs) =
    ap (λ b. (p x && q x) && b) (all_both p q xs)
    ∙ regroup (p x) (q x) (list_all p xs) (list_all q xs)
  where
    regroup : (a b c d : Bool) → ((a && b) && (c && d)) ≡ ((a && c) && (b && d))
    regroup false b c d = refl
    regroup true false false d = refl
    regroup true false true d = refl
    regroup true true c d = refl

-- a test of all pairs, in either order
all_pairs : {X Y : Type 0} (p : X → Y → Bool) (xs : List X) (ys : List Y)
    → list_all (λ x. list_all (p x) ys) xs ≡ list_all (λ y. list_all (λ x. p x y) xs) ys
all_pairs p [] ys = sym (all_true ys)
all_pairs p (x ∷ xs) ys =
    ap (λ b. list_all (p x) ys && b) (all_pairs p xs ys)
    ∙ sym (all_both (p x) (λ y. list_all (λ z. p z y) xs) ys)

-- a key declares the values of attributes that are not its own
none_own : (key : Key) (attrs : List Given) → list_any (is_of key.name) attrs ≡ false
    → list_all (λ given. declares given key) attrs ≡ true
none_own key [] e = refl
none_own key (given ∷ attrs) e =
    let (other, rest) = or_parts (is_of key.name given) (list_any (is_of key.name) attrs) e in
    rw other (none_own key attrs rest)

-- where no key stands twice, the first attribute of a key is its only one
by_key : (key : Key) (attrs : List Given) → has_repeated_key attrs ≡ false
    → list_all (λ given. declares given key) attrs ≡ is_allowed attrs key
by_key key [] e = refl
by_key key (given ∷ attrs) e =
    let (alone, later) = or_parts (list_any (is_of given.0) attrs) (has_repeated_key attrs) e in
    at (is_of key.name given) refl alone (by_key key attrs later)
  where
    is_some-map : {X Y : Type 0} (f : X → Y) (o : Option X) → is_some o ≡ is_some (option_map f o)
    is_some-map f None = refl
    is_some-map f (Some x) = refl

    and_true : (b : Bool) → (b && true) ≡ b
    and_true true = refl
    and_true false = refl

    at : (own : Bool) → is_of key.name given ≡ own → list_any (is_of given.0) attrs ≡ false
        → list_all (λ other. declares other key) attrs ≡ is_allowed attrs key
        → ((not own || is_some (place key.values given.1)) && list_all (λ other. declares other key)
        attrs) ≡ is_some (entry_of key (cond own (Some given) (find (is_of key.name) attrs)))
    at false own alone rest = rest
    at true own alone rest =
        let named : given.0 ≡ key.name = (bytes_eq-Decides given.0 key.name).0 own in
        let others = none_own key attrs
        (subst (λ (name : List _). list_any (is_of name) attrs ≡ false) named alone) in
        ap (λ b. is_some (place key.values given.1) && b) others
        ∙ and_true (is_some (place key.values given.1))
        ∙ is_some-map (λ number. number + 1) (place key.values given.1)

-- where no key stands twice, each attribute's value is declared exactly where each key
-- declares the value that it is given
pub values_by_keys : (keys : List Key) (attrs : List Given) → has_repeated_key attrs ≡ false
    → list_all (has_declared_value keys) attrs ≡ list_all (is_allowed attrs) keys
values_by_keys keys attrs e =
    all_pairs declares attrs keys ∙ (λ i. list_all (λ key. by_key key attrs e i) keys)
