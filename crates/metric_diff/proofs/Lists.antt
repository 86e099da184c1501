-- Lists with the place of each element, with one element more.
use Rattle.std.proofs.Common.{◌≡◌, ℕ, suc, ◌+◌, ◌<◌, List, [], ◌∷◌, ◌++◌, length, get_or, take, map, cond, Some, None, refl, sym, ap, append_assoc, ◌∙◌, arith}
use Rattle.std.specs.List.{enumerate_from, flat_map}
use Rattle.std.specs.Str.{bytes_eq}
use Rattle.std.proofs.lemmas.List.{append-nil, length-take-le, take_more}
use Rattle.std.proofs.lemmas.List.Concat.{flat_map-append}
use Rattle.metric_contents.specs.PlaceLaws.{or_else, position_from-push}
use Rattle.metric_diff.specs.Known.{place_of}

enumerate_more : {X : Type 0} (a : ℕ) (xs : List X) (x : X) → enumerate_from a (xs ++ x ∷ []) ≡ enumerate_from a xs ++ (a + length xs, x) ∷ []
enumerate_more a [] x = let is : a ≡ a + 0 = omega arith in ap (λ (k : ℕ). (k, x) ∷ []) is
enumerate_more a (y ∷ xs) x =
    let is : a + 1 + length xs ≡ a + suc (length xs) = omega arith in
    ap (λ zs. (a, y) ∷ zs) (enumerate_more (a + 1) xs x ∙ ap (λ (k : ℕ). enumerate_from (a + 1) xs ++ (k, x) ∷ []) is)

enumerate_take : {X : Type 0} (xs : List X) (n : ℕ) (x : X) → n < length xs → x ≡ get_or xs n x
    → enumerate_from 0 (take (n + 1) xs) ≡ enumerate_from 0 (take n xs) ++ (n, x) ∷ []
enumerate_take xs n x within is =
    let long : 0 + length (take n xs) ≡ n = omega (arith, length-take-le n xs (omega arith)) in
    ap (enumerate_from 0) (take_more xs n x within) ∙ enumerate_more 0 (take n xs) (get_or xs n x)
    ∙ ap (λ (k : ℕ). enumerate_from 0 (take n xs) ++ (k, get_or xs n x) ∷ []) long
    ∙ ap (λ y. enumerate_from 0 (take n xs) ++ (n, y) ∷ []) (sym is)

-- two appends in a row
pub append_twice : {A : Type 0} (old now next part more whole : List A) → now ≡ old ++ part → next ≡ now ++ more → whole ≡ part ++ more → next ≡ old ++ whole
append_twice old now next part more whole before after joined =
    after ∙ ap (λ xs. xs ++ more) before ∙ append_assoc old part more ∙ ap (λ xs. old ++ xs) (sym joined)

-- what is appended for an element and its place
pub numbered_turn : {X A : Type 0} (f : ℕ × X → List A) (xs : List X) (n : ℕ) (x : X) (old now next : List A) → n < length xs → x ≡ get_or xs n x
    → now ≡ old ++ flat_map f (enumerate_from 0 (take n xs)) → next ≡ now ++ f (n, x) → next ≡ old ++ flat_map f (enumerate_from 0 (take (n + 1) xs))
numbered_turn f xs n x old now next within is before after =
    append_twice old now next _ (f (n, x)) _ before after
    (ap (flat_map f) (enumerate_take xs n x within is) ∙ flat_map-append f (enumerate_from 0 (take n xs)) ((n, x) ∷ [])
    ∙ ap (λ ys. flat_map f (enumerate_from 0 (take n xs)) ++ ys) (append-nil (f (n, x))))

map_append : {X Y : Type 0} (f : X → Y) (xs ys : List X) → map f (xs ++ ys) ≡ map f xs ++ map f ys
map_append f [] ys = refl
map_append f (x ∷ xs) ys = ap (λ zs. f x ∷ zs) (map_append f xs ys)

-- what an element and its place are told as
pub mapped_turn : {X Y : Type 0} (f : ℕ × X → Y) (xs : List X) (n : ℕ) (x : X) (now next : List Y) → n < length xs → x ≡ get_or xs n x
    → now ≡ map f (enumerate_from 0 (take n xs)) → next ≡ now ++ f (n, x) ∷ [] → next ≡ map f (enumerate_from 0 (take (n + 1) xs))
mapped_turn f xs n x now next within is before after =
    after ∙ ap (λ ys. ys ++ f (n, x) ∷ []) before
    ∙ sym (ap (map f) (enumerate_take xs n x within is) ∙ map_append f (enumerate_from 0 (take n xs)) ((n, x) ∷ []))

-- the first place of a name, with one name more
pub place_more : (names : List (List ℕ)) (n : ℕ) (own name : List ℕ) → n < length names → own ≡ get_or names n own
    → place_of (take (n + 1) names) name ≡ or_else (place_of (take n names) name) (cond (bytes_eq name own) (Some n) None)
place_more names n own name within is =
    let long : 0 + length (take n names) ≡ n = omega (arith, length-take-le n names (omega arith)) in
    let more : take (n + 1) names ≡ take n names ++ own ∷ [] = take_more names n own within ∙ ap (λ (x : List ℕ). take n names ++ x ∷ []) (sym is) in
    let pushed = position_from-push (λ other. bytes_eq name other) 0 (take n names) own in
    rw more (rw long at pushed)

-- four lists, one put last after the other
pub four : {X : Type 0} (start a b c all first second third last : List X) → a ≡ start ++ first → b ≡ a ++ second → c ≡ b ++ third → all ≡ c ++ last
    → all ≡ start ++ (first ++ (second ++ (third ++ last)))
four {X} start a b c all first second third last is_a is_b is_c is_all =
    is_all ∙ ap (λ (xs : List X). xs ++ last) (is_c ∙ ap (λ (xs : List X). xs ++ third) (is_b ∙ ap (λ (xs : List X). xs ++ second) is_a))
    ∙ append_assoc ((start ++ first) ++ second) third last ∙ append_assoc (start ++ first) second (third ++ last) ∙ append_assoc start first (second ++ (third ++ last))
