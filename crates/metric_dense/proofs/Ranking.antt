-- Ranks are below the product, are of one series each, and are ordered as the series.
use Rattle.std.proofs.Common.{◌≡◌, ℕ, zero, suc, ◌+◌, ◌-◌, ◌*◌, ◌/◌, ◌%◌, ◌<◌, ◌≤◌, Ordering, Less, Equal, Greater, Bool, true, false, cond, List, [], ◌∷◌, length, refl, sym, ap, subst, ◌∙◌, arith}
use Rattle.std.specs.Prelude.{◌==◌, nat_le, replicate}
use Rattle.std.specs.List.{list_all}
use Rattle.std.specs.Ordering.{MatchOrdering, nat_cmp, ordering_then}
use Rattle.std.specs.Cmp.{nat_cmp_is, ranks}
use Rattle.std.specs.Cmp.Lexicographic.{slice_cmp}
use Rattle.std.proofs.lemmas.Bool.{and_parts, true≢false, eqb-true}
use Rattle.std.proofs.lemmas.Nat.{mul-add-lt, div-mul-add, mod-mul-add, div-add-mod'}
use Rattle.std.proofs.Math.Nat.{mul_comm, mul-le-mul_left, mod-lt, mod-eq_of_lt, div-lt_iff_lt-mul}
use Rattle.metric_facts.specs.declared.facts.KeyFacts.{KeyFacts}
use Rattle.metric_facts.specs.Facts.{is_entry, is_full_set}
use Rattle.metric_facts.specs.Products.{radix, product_of}
use Rattle.metric_facts.specs.Ranks.{digit_if, rank, rank_below}
use Rattle.metric_dense.specs.Ranks.{entry_if, unrank}
use Rattle.metric_dense.specs.RankLaws.{GivesBack, KeepsOrder, RanksBack}

-- ---- from a set to its rank and back

zeros_are : (xs : List ℕ) (n : ℕ) → list_all (λ entry. entry == 0) xs ≡ true → length xs ≡ n → replicate n 0 ≡ xs
zeros_are [] zero p l = refl
zeros_are [] (suc n) p l = absurd (omega arith)
zeros_are (x ∷ xs) zero p l = absurd (omega arith)
zeros_are (x ∷ xs) (suc n) p l =
    let a = and_parts (x == 0) (list_all (λ entry. entry == 0) xs) p in
    let head : x ≡ 0 = eqb-true x 0 a.0 in
    let tail : replicate n 0 ≡ xs = zeros_are xs n a.1 (omega arith) in
    cc

entry_back : (values : ℕ) (optional : Bool) (x : ℕ) → cond (x == 0) optional (nat_le x values) ≡ true
    → cond optional (cond optional x (x - 1)) (cond optional x (x - 1) + 1) ≡ x
entry_back values true x p = refl
entry_back values false zero p = absurd (true≢false (sym p))
entry_back values false (suc x) p = omega arith

kept_back : (flag : Bool) (key : KeyFacts) (x : ℕ) → is_entry key x ≡ true → entry_if flag key (digit_if flag key x) ≡ cond flag x 0
kept_back true key x p = entry_back key.values key.optional x p
kept_back false key x p = refl

-- the set of the rank of a full set is its series
pub unrank_rank : (pad : ℕ) (kept : List Bool) (keys : List KeyFacts) (set : List ℕ) → GivesBack pad kept keys set
unrank_rank pad [] [] set flags long p = zeros_are set pad p (omega arith)
unrank_rank pad [] (key ∷ keys) set flags long p = absurd (omega arith)
unrank_rank pad (flag ∷ kept) [] set flags long p = absurd (omega arith)
unrank_rank pad (flag ∷ kept) (key ∷ keys) [] flags long p = absurd (true≢false (sym p))
unrank_rank pad (flag ∷ kept) (key ∷ keys) (x ∷ set) flags long p =
    let a = and_parts (is_entry key x) (is_full_set keys set) p in
    let below = rank_below kept keys set a.1 in
    let d = digit_if flag key x in
    let w = product_of kept keys in
    let r = rank kept keys set in
    ap (λ (n : ℕ). entry_if flag key n ∷ unrank pad kept keys ((d * w + r) % w)) (div-mul-add d w r below)
    ∙ ap (λ (n : ℕ). entry_if flag key d ∷ unrank pad kept keys n) (mod-mul-add d w r below)
    ∙ ap (λ (n : ℕ). n ∷ unrank pad kept keys r) (kept_back flag key x a.0)
    ∙ ap (λ (ns : List ℕ). cond flag x 0 ∷ ns) (unrank_rank pad kept keys set (omega arith) (omega arith) a.1)

digit_back : (optional : Bool) (d : ℕ) → cond optional (cond optional d (d + 1)) (cond optional d (d + 1) - 1) ≡ d
digit_back true d = refl
digit_back false d = omega arith

-- what a number is below is not 0
pub some_worth : (a w r : ℕ) → r < a * w → zero < w
some_worth a zero r below = absurd (omega (arith, below, mul_comm a zero))
some_worth a (suc w) r below = omega arith

-- the digit of a rank is below the radix
pub digit_low : (a w r : ℕ) → r < a * w → r / w < a
digit_low a w r below = (div-lt_iff_lt-mul (some_worth a w r below)).1 below

-- what remains of it is below the rest of the product
pub rest_low : (a w r : ℕ) → r < a * w → r % w < w
rest_low a w r below = mod-lt r (some_worth a w r below)

no_row : (w x r : ℕ) → x ≡ r → 0 * w + x ≡ r
no_row w x r e = omega (arith, e)

-- the rank of the set of a rank is that rank
pub rank_unrank : (pad : ℕ) (kept : List Bool) (keys : List KeyFacts) (r : ℕ) → RanksBack pad kept keys r
rank_unrank pad [] keys r below = omega arith
rank_unrank pad (flag ∷ kept) [] r below = omega arith
rank_unrank pad (flag ∷ kept) (key ∷ keys) r below =
    let w = product_of kept keys in
    ap (λ (n : ℕ). digit_if flag key (entry_if flag key (r / w)) * w + n) (rank_unrank pad kept keys (r % w) (rest_low (radix flag key) w r below))
    ∙ at flag below
  where
    at : (f : Bool) → r < radix f key * product_of kept keys
        → digit_if f key (entry_if f key (r / product_of kept keys)) * product_of kept keys + r % product_of kept keys ≡ r
    at true low = ap (λ (n : ℕ). n * product_of kept keys + r % product_of kept keys) (digit_back key.optional (r / product_of kept keys)) ∙ div-add-mod' r (product_of kept keys)
    at false low =
        let own : r < product_of kept keys = omega (arith, low) in
        let e : r % product_of kept keys ≡ r = mod-eq_of_lt own in
        no_row (product_of kept keys) (r % product_of kept keys) r e

-- ---- order

less_place : (a b c d w : ℕ) → a < c → b < w → a * w + b < c * w + d
less_place a b c d w less low = omega (arith, mul-add-lt a w b c less low, mul_comm c w)

place_order : (a b c d w : ℕ) → b < w → d < w → ordering_then (nat_cmp a c) (nat_cmp b d) ≡ nat_cmp (a * w + b) (c * w + d)
place_order a b c d w low below = at (nat_cmp a c) (ranks a c)
  where
    later : (o : Ordering) → MatchOrdering o (b < d) (b ≡ d) (d < b) → MatchOrdering o (a * w + b < a * w + d) (a * w + b ≡ a * w + d) (a * w + d < a * w + b)
    later Less m = omega (arith, m)
    later Equal m = ap (λ n. a * w + n) m
    later Greater m = omega (arith, m)

    at : (o : Ordering) → MatchOrdering o (a < c) (a ≡ c) (c < a) → ordering_then o (nat_cmp b d) ≡ nat_cmp (a * w + b) (c * w + d)
    at Less m = nat_cmp_is (a * w + b) (c * w + d) Less (less_place a b c d w m low)
    at Equal m = subst (λ n. nat_cmp b d ≡ nat_cmp (a * w + b) (n * w + d)) m (nat_cmp_is (a * w + b) (a * w + d) (nat_cmp b d) (later (nat_cmp b d) (ranks b d)))
    at Greater m = nat_cmp_is (a * w + b) (c * w + d) Greater (less_place c d a b w m below)

one_more : (a b : ℕ) → nat_cmp (a + 1) (b + 1) ≡ nat_cmp a b
one_more a b = sym (nat_cmp_is (a + 1) (b + 1) (nat_cmp a b) (step (nat_cmp a b) (ranks a b)))
  where
    step : (o : Ordering) → MatchOrdering o (a < b) (a ≡ b) (b < a) → MatchOrdering o (a + 1 < b + 1) (a + 1 ≡ b + 1) (b + 1 < a + 1)
    step Less m = omega (arith, m)
    step Equal m = omega (arith, m)
    step Greater m = omega (arith, m)

entry_order : (optional : Bool) (a b : ℕ) → nat_cmp (cond optional a (a + 1)) (cond optional b (b + 1)) ≡ nat_cmp a b
entry_order true a b = refl
entry_order false a b = one_more a b

kept_order : (flag : Bool) (key : KeyFacts) (a b : ℕ) → a < radix flag key → b < radix flag key → nat_cmp (entry_if flag key a) (entry_if flag key b) ≡ nat_cmp a b
kept_order true key a b low below = entry_order key.optional a b
kept_order false key a b low below = sym (nat_cmp_is 0 0 Equal refl) ∙ nat_cmp_is a b Equal (omega arith)

-- a list is not apart from itself
pub list_itself : (xs : List ℕ) → slice_cmp nat_cmp xs xs ≡ Equal
list_itself [] = refl
list_itself (x ∷ xs) = rw (← nat_cmp_is x x Equal refl) (list_itself xs)

-- the sets of ranks are ordered as the ranks are
pub unrank_ordered : (pad : ℕ) (kept : List Bool) (keys : List KeyFacts) (a b : ℕ) → KeepsOrder pad kept keys a b
unrank_ordered pad [] keys a b low below = list_itself (replicate pad 0) ∙ nat_cmp_is a b Equal (omega arith)
unrank_ordered pad (flag ∷ kept) [] a b low below = list_itself (replicate pad 0) ∙ nat_cmp_is a b Equal (omega arith)
unrank_ordered pad (flag ∷ kept) (key ∷ keys) a b low below =
    let w = product_of kept keys in
    let k = radix flag key in
    ap (λ (o : Ordering). ordering_then o (slice_cmp nat_cmp (unrank pad kept keys (a % w)) (unrank pad kept keys (b % w)))) (kept_order flag key (a / w) (b / w) (digit_low k w a low) (digit_low k w b below))
    ∙ ap (λ (o : Ordering). ordering_then (nat_cmp (a / w) (b / w)) o) (unrank_ordered pad kept keys (a % w) (b % w) (rest_low k w a low) (rest_low k w b below))
    ∙ place_order (a / w) (a % w) (b / w) (b % w) w (rest_low k w a low) (rest_low k w b below)
    ∙ ap (λ (n : ℕ). nat_cmp n (b / w * w + b % w)) (div-add-mod' a w)
    ∙ ap (nat_cmp a) (div-add-mod' b w)

-- ---- products

-- where a product is some number, so is the rest of it
pub rest_some : (a w : ℕ) → zero < a * w → zero < w
rest_some a w some = some_worth a w zero some

first_some : (a w : ℕ) → zero < a * w → 1 ≤ a
first_some zero w some = absurd (omega arith)
first_some (suc a) w some = omega arith

-- and it is no greater
pub rest_small : (a w m : ℕ) → zero < a * w → a * w < m → w < m
rest_small a w m some below =
    let least : w * 1 ≤ w * a = mul-le-mul_left w (first_some a w some) in
    omega (arith, least, below, mul_comm a w)
