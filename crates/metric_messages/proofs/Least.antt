-- How near the nearest of some words is, found in one pass.
use Rattle.std.proofs.Common.{◌≡◌, ℕ, nat_le, nat_lt, Bool, true, false, not, ◌&&◌, ◌||◌, cond, List, [], ◌∷◌, min, fold, refl, ap, sym, ◌∙◌, arith}
use Rattle.std.proofs.lemmas.Bool.{le-leb, lt-leb, leb-true, leb-false}
use Rattle.std.specs.List.{list_all}
use Rattle.metric_messages.specs.Near.{apart, is_as_near, is_near, is_nearest, is_no_farther, least_apart, nearer, shared}

and_true : (p : Bool) → p && true ≡ p
and_true true = refl
and_true false = refl

and_assoc : (p q r : Bool) → (p && q) && r ≡ p && (q && r)
and_assoc true q r = refl
and_assoc false q r = refl

-- as near as the lesser of two is as near as both
both_least : (a b c : ℕ) → nat_le a (min b c) ≡ nat_le a b && nat_le a c
both_least a b c = by (nat_le a b) (nat_le a c) refl refl
  where
    by : (p q : Bool) → nat_le a b ≡ p → nat_le a c ≡ q → nat_le a (min b c) ≡ p && q
    by true true p q = le-leb a (min b c) (omega (arith, leb-true a b p, leb-true a c q))
    by true false p q = lt-leb a (min b c) (omega (arith, leb-false a c q))
    by false q p o = lt-leb a (min b c) (omega (arith, leb-false a b p))

-- a word is as near as the least of the near words and of a number where no near word is nearer, and it is as near as
-- that number
from_least : (text word : List ℕ) (words : List (List ℕ)) (least : ℕ)
    → nat_le (apart text word) (fold (nearer text) least words)
    ≡ nat_le (apart text word) least && list_all (is_no_farther text word) words
from_least text word [] least = sym (and_true (nat_le (apart text word) least))
from_least text word (other ∷ words) least =
    from_least text word words (nearer text least other) ∙ step (is_near text other)
  where
    rest : Bool
    rest = list_all (is_no_farther text word) words

    a : ℕ
    a = apart text word

    step : (near : Bool)
        → nat_le a (cond near (min least (apart text other)) least) && rest
        ≡ nat_le a least && ((not near || nat_le a (apart text other)) && rest)
    step true = ap (λ b. b && rest) (both_least a least (apart text other)) ∙ and_assoc (nat_le a least) (nat_le a (apart text other)) rest
    step false = refl

both_near : (p q : Bool) → p && q ≡ true → p ≡ true
both_near true q e = refl
both_near false q e = e

-- the near words that are as near as the least are the nearest
pub nearest_by_least : (text : List ℕ) (words : List (List ℕ)) (word : List ℕ)
    → is_as_near text (least_apart text words) word ≡ is_nearest text words word
nearest_by_least text words word = by (is_near text word) refl
  where
    all : Bool
    all = list_all (is_no_farther text word) words

    by : (near : Bool) → is_near text word ≡ near
        → near && nat_le (apart text word) (least_apart text words) ≡ near && all
    by false e = refl
    by true e =
        from_least text word words 2
        ∙ ap (λ (b : Bool). b && all) (both_near (nat_le (apart text word) 2) (nat_lt (apart text word) (shared text word)) e)
