-- The set after the set of a rank is that of the next rank.
use Rattle.std.proofs.Common.{◌≡◌, ◌<◌, ◌==◌, ◌&&◌, ◌∙◌, ◌+◌, ◌*◌, ◌/◌, ◌%◌, ℕ, suc, Bool, true, false, not, List, [], ◌∷◌, ◌++◌, length, take, drop, ap, arith, cond, refl, sym}
use Rattle.std.specs.Prelude.{nat_lt, replicate, if◌then◌else◌}
use Rattle.std.proofs.lemmas.Bool.{eqb-true, eq-eqb, ne_eqb}
use Rattle.std.proofs.lemmas.Bool.Decides.{nat_tests}
use Rattle.std.proofs.lemmas.Nat.{mul-add-lt, div-mul-add, mod-mul-add, div-add-mod'}
use Rattle.std.proofs.Math.Nat.{mul_comm}
use Rattle.std.proofs.Math.Seq.{drop-append_seam, take-append_seam}
use Rattle.metric_facts.specs.declared.facts.KeyFacts.{KeyFacts}
use Rattle.metric_facts.specs.Products.{product_of, radix}
use Rattle.metric_dense.specs.Ranks.{entry_if, unrank}
use Rattle.metric_dense.specs.Steps.{are_last, entry_after, is_last, stepped}
use Rattle.metric_dense.proofs.Ranking.{digit_low, rest_low}

-- ---- the last entry apart

last_are : (kept : List Bool) (keys : List KeyFacts) (set : List ℕ) (flag : Bool) (key : KeyFacts) (entry : ℕ) → length kept ≡ length keys → length set ≡ length keys
    → are_last (kept ++ flag ∷ []) (keys ++ key ∷ []) (set ++ entry ∷ []) ≡ (are_last kept keys set && is_last flag key entry)
last_are [] [] [] flag key entry flags places = and_true (is_last flag key entry)
  where
    and_true : (b : Bool) → (b && true) ≡ b
    and_true true = refl
    and_true false = refl
last_are [] [] (x ∷ set) flag key entry flags places = absurd (omega (arith, places))
last_are [] (k ∷ keys) set flag key entry flags places = absurd (omega (arith, flags))
last_are (f ∷ kept) [] set flag key entry flags places = absurd (omega (arith, flags))
last_are (f ∷ kept) (k ∷ keys) [] flag key entry flags places = absurd (omega (arith, places))
last_are (f ∷ kept) (k ∷ keys) (x ∷ set) flag key entry flags places =
    ap (λ (b : Bool). is_last f k x && b) (last_are kept keys set flag key entry (omega (arith, flags)) (omega (arith, places)))
    ∙ assoc (is_last f k x) (are_last kept keys set) (is_last flag key entry)
  where
    assoc : (a b c : Bool) → (a && (b && c)) ≡ ((a && b) && c)
    assoc true b c = refl
    assoc false b c = refl

last_stepped : (kept : List Bool) (keys : List KeyFacts) (set : List ℕ) (flag : Bool) (key : KeyFacts) (entry : ℕ) → length kept ≡ length keys → length set ≡ length keys
    → stepped (kept ++ flag ∷ []) (keys ++ key ∷ []) (set ++ entry ∷ [])
    ≡ (if is_last flag key entry then stepped kept keys set else set) ++ entry_after flag key entry ∷ []
last_stepped [] [] [] flag key entry flags places = one (is_last flag key entry)
  where
    one : (b : Bool) → (entry_after flag key entry ∷ []) ≡ (if b then [] else []) ++ entry_after flag key entry ∷ []
    one true = refl
    one false = refl
last_stepped [] [] (x ∷ set) flag key entry flags places = absurd (omega (arith, places))
last_stepped [] (k ∷ keys) set flag key entry flags places = absurd (omega (arith, flags))
last_stepped (f ∷ kept) [] set flag key entry flags places = absurd (omega (arith, flags))
last_stepped (f ∷ kept) (k ∷ keys) [] flag key entry flags places = absurd (omega (arith, places))
last_stepped (f ∷ kept) (k ∷ keys) (x ∷ set) flag key entry flags places =
    ap (λ (b : Bool). (if b then entry_after f k x else x) ∷ stepped (kept ++ flag ∷ []) (keys ++ key ∷ []) (set ++ entry ∷ []))
    (last_are kept keys set flag key entry (omega (arith, flags)) (omega (arith, places)))
    ∙ ap (λ (xs : List ℕ). (if are_last kept keys set && is_last flag key entry then entry_after f k x else x) ∷ xs)
    (last_stepped kept keys set flag key entry (omega (arith, flags)) (omega (arith, places)))
    ∙ by (is_last flag key entry) (are_last kept keys set)
  where
    by : (last all : Bool) → ((if all && last then entry_after f k x else x) ∷ ((if last then stepped kept keys set else set) ++ entry_after flag key entry ∷ []))
        ≡ (if last then (if all then entry_after f k x else x) ∷ stepped kept keys set else x ∷ set) ++ entry_after flag key entry ∷ []
    by true true = refl
    by true false = refl
    by false true = refl
    by false false = refl

-- a list is what its last element and the others make it
pub step_is : (kept : List Bool) (keys : List KeyFacts) (set : List ℕ) (flags : List Bool) (flag : Bool) (others : List KeyFacts) (key : KeyFacts) (rest : List ℕ) (entry : ℕ)
    → kept ≡ flags ++ flag ∷ [] → keys ≡ others ++ key ∷ [] → set ≡ rest ++ entry ∷ [] → length flags ≡ length others → length rest ≡ length others
    → (last : Bool) → is_last flag key entry ≡ last
    → (if last then stepped flags others rest else rest) ++ entry_after flag key entry ∷ [] ≡ stepped kept keys set
step_is kept keys set flags flag others key rest entry kept_is keys_is set_is long places last is =
    rw (kept_is, keys_is, set_is, ← is) (sym (last_stepped flags others rest flag key entry long places))

-- ---- sets of ranks

-- the next rank, after the last one the first
abbrev pub rank_after : ℕ → ℕ → ℕ
rank_after product r = if r + 1 == product then 0 else r + 1

-- what is known of a rank by its first digit and the rest
pub record Steps (pad : ℕ) (kept : List Bool) (keys : List KeyFacts) (r : ℕ) : Type 0 where
  pub last : are_last kept keys (unrank pad kept keys r) ≡ (r + 1 == product_of kept keys)
  pub next : stepped kept keys (unrank pad kept keys r) ≡ unrank pad kept keys (rank_after (product_of kept keys) r)

-- what is below and not the last one has a next one
below_next : (n m : ℕ) → n < m → (n + 1 == m) ≡ false → n + 1 < m
below_next n m low is = grind (arith, nat_tests, low, is)

-- the last number of two digits is the last of both
last_parts : (a w d q : ℕ) (of_q of_d : Bool) → (q + 1 == w) ≡ of_q → (d + 1 == a) ≡ of_d → d < a → q < w
    → (d * w + q + 1 == a * w) ≡ (of_d && of_q)
last_parts a w d q true true is_q is_d low below =
    let q_is : q + 1 ≡ w = eqb-true (q + 1) w is_q in
    let d_is : d + 1 ≡ a = eqb-true (d + 1) a is_d in
    eq-eqb (d * w + q + 1) (a * w) (omega (arith, q_is, mul_comm a w, mul_comm d w, ap (λ (n : ℕ). n * w) d_is))
last_parts a w d q true false is_q is_d low below =
    let q_is : q + 1 ≡ w = eqb-true (q + 1) w is_q in
    let less = mul-add-lt (d + 1) w 0 a (below_next d a low is_d) (omega (arith, below)) in
    ne_eqb (d * w + q + 1) (a * w) (λ same. omega (arith, q_is, less, mul_comm a w, same))
last_parts a w d q false of_d is_q is_d low below =
    let less = mul-add-lt d w (q + 1) a low (below_next q w below is_q) in
    ne_eqb (d * w + q + 1) (a * w) (λ same. omega (arith, less, mul_comm a w, same)) ∙ sym (none of_d)
  where
    none : (b : Bool) → (b && false) ≡ false
    none true = refl
    none false = refl

-- the digits of the number after one
parts_after : (a w d q : ℕ) (of_q of_d : Bool) → (q + 1 == w) ≡ of_q → (d + 1 == a) ≡ of_d → d < a → q < w
    → rank_after (a * w) (d * w + q) ≡ (if of_q then rank_after a d else d) * w + rank_after w q
parts_after a w d q true true is_q is_d low below = rw (last_parts a w d q true true is_q is_d low below, is_q, is_d) (omega arith)
parts_after a w d q true false is_q is_d low below =
    let q_is : q + 1 ≡ w = eqb-true (q + 1) w is_q in
    rw (last_parts a w d q true false is_q is_d low below, is_q, is_d) (omega (arith, q_is, mul_comm d w, mul_comm (d + 1) w))
parts_after a w d q false true is_q is_d low below = rw (last_parts a w d q false true is_q is_d low below, is_q) (omega arith)
parts_after a w d q false false is_q is_d low below = rw (last_parts a w d q false false is_q is_d low below, is_q) (omega arith)

-- the entry of a digit is the last one, and has one after it, as the digit
entry_last : (flag : Bool) (key : KeyFacts) (d : ℕ) → d < radix flag key → is_last flag key (entry_if flag key d) ≡ (d + 1 == radix flag key)
entry_last true key d low = by key.optional low
  where
    by : (o : Bool) → d < key.values + cond o 1 0 → not (nat_lt (cond o d (d + 1)) key.values) ≡ (d + 1 == key.values + cond o 1 0)
    by true below = grind (arith, nat_tests, below)
    by false below = grind (arith, nat_tests, below)
entry_last false key d low = grind (arith, nat_tests, low)

entry_next : (flag : Bool) (key : KeyFacts) (d : ℕ) → d < radix flag key → entry_after flag key (entry_if flag key d) ≡ entry_if flag key (rank_after (radix flag key) d)
entry_next true key d low = by key.optional low
  where
    by : (o : Bool) → d < key.values + cond o 1 0
        → cond (nat_lt (cond o d (d + 1)) key.values) (cond o d (d + 1) + 1) (cond o 0 1) ≡ cond o (cond (d + 1 == key.values + cond o 1 0) 0 (d + 1)) (cond (d + 1 == key.values + cond o 1 0) 0 (d + 1) + 1)
    by true below = grind (arith, nat_tests, below)
    by false below = grind (arith, nat_tests, below)
entry_next false key d low = refl

rank_after_low : (w q : ℕ) → q < w → rank_after w q < w
rank_after_low w q below = by (q + 1 == w) refl
  where
    by : (b : Bool) → (q + 1 == w) ≡ b → cond b 0 (q + 1) < w
    by true is = omega (arith, below)
    by false is = below_next q w below is

pub steps : (pad : ℕ) (kept : List Bool) (keys : List KeyFacts) (r : ℕ) → length kept ≡ length keys → r < product_of kept keys → Steps pad kept keys r
steps pad [] [] r flags below =
    let none : r ≡ 0 = omega (arith, below) in
    record { last = rw none refl; next = refl }
steps pad [] (key ∷ keys) r flags below = absurd (omega (arith, flags))
steps pad (flag ∷ kept) [] r flags below = absurd (omega (arith, flags))
steps pad (flag ∷ kept) (key ∷ keys) r flags below =
    let a = radix flag key in
    let w = product_of kept keys in
    let d = r / w in
    let q = r % w in
    let low : d < a = digit_low a w r below in
    let rest : q < w = rest_low a w r below in
    let whole : d * w + q ≡ r = div-add-mod' r w in
    let others = steps pad kept keys q (omega (arith, flags)) rest in
    let number : rank_after (a * w) r ≡ (if q + 1 == w then rank_after a d else d) * w + rank_after w q =
    ap (rank_after (a * w)) (sym whole) ∙ parts_after a w d q (q + 1 == w) (d + 1 == a) refl refl low rest in
    let after : rank_after w q < w = rank_after_low w q rest in
    let digit : ℕ = if q + 1 == w then rank_after a d else d in
    record {
      last =
          ap (λ (b : Bool). is_last flag key (entry_if flag key d) && b) others.last
          ∙ ap (λ (b : Bool). b && (q + 1 == w)) (entry_last flag key d low)
          ∙ sym (last_parts a w d q (q + 1 == w) (d + 1 == a) refl refl low rest)
          ∙ ap (λ (n : ℕ). n + 1 == a * w) whole;
      next =
          ap (λ (b : Bool). (if b then entry_after flag key (entry_if flag key d) else entry_if flag key d) ∷ stepped kept keys (unrank pad kept keys q)) others.last
          ∙ ap (λ (xs : List ℕ). (if q + 1 == w then entry_after flag key (entry_if flag key d) else entry_if flag key d) ∷ xs) others.next
          ∙ ap (λ (n : ℕ). n ∷ unrank pad kept keys (rank_after w q)) (entry_is (q + 1 == w))
          ∙ ap (λ (n : ℕ). entry_if flag key n ∷ unrank pad kept keys (rank_after w q)) (sym (div-mul-add digit w (rank_after w q) after))
          ∙ ap (λ (n : ℕ). entry_if flag key ((digit * w + rank_after w q) / w) ∷ unrank pad kept keys n) (sym (mod-mul-add digit w (rank_after w q) after))
          ∙ ap (λ (n : ℕ). entry_if flag key (n / w) ∷ unrank pad kept keys (n % w)) (sym number);
    }
  where
    entry_is : (b : Bool) → (if b then entry_after flag key (entry_if flag key (r / product_of kept keys)) else entry_if flag key (r / product_of kept keys))
        ≡ entry_if flag key (if b then rank_after (radix flag key) (r / product_of kept keys) else r / product_of kept keys)
    entry_is true = entry_next flag key (r / product_of kept keys) (digit_low (radix flag key) (product_of kept keys) r below)
    entry_is false = refl

-- ---- a set key has zeros behind the entries of its keys

pub padded : (pad : ℕ) (kept : List Bool) (keys : List KeyFacts) (r : ℕ) → length kept ≡ length keys
    → unrank pad kept keys r ≡ unrank 0 kept keys r ++ replicate pad 0
padded pad [] [] r flags = refl
padded pad [] (key ∷ keys) r flags = absurd (omega (arith, flags))
padded pad (flag ∷ kept) [] r flags = absurd (omega (arith, flags))
padded pad (flag ∷ kept) (key ∷ keys) r flags =
    ap (λ (xs : List ℕ). entry_if flag key (r / product_of kept keys) ∷ xs) (padded pad kept keys (r % product_of kept keys) (omega (arith, flags)))

pub long : (kept : List Bool) (keys : List KeyFacts) (r : ℕ) → length kept ≡ length keys → length (unrank 0 kept keys r) ≡ length keys
long [] [] r flags = refl
long [] (key ∷ keys) r flags = absurd (omega (arith, flags))
long (flag ∷ kept) [] r flags = absurd (omega (arith, flags))
long (flag ∷ kept) (key ∷ keys) r flags = ap suc (long kept keys (r % product_of kept keys) (omega (arith, flags)))

-- the entries of the keys are stepped, and the zeros stay
pub series_after : (pad : ℕ) (kept : List Bool) (keys : List KeyFacts) (r : ℕ) (set : List ℕ) → length kept ≡ length keys → r + 1 < product_of kept keys
    → set ≡ unrank pad kept keys r → stepped kept keys (take (length keys) set) ++ drop (length keys) set ≡ unrank pad kept keys (r + 1)
series_after pad kept keys r set flags low is =
    let own : List ℕ = unrank 0 kept keys r in
    let many : length own ≡ length keys = long kept keys r flags in
    let whole : set ≡ own ++ replicate pad 0 = is ∙ padded pad kept keys r flags in
    let first : take (length keys) set ≡ own = rw (whole, ← many) (take-append_seam own (replicate pad 0)) in
    let rest : drop (length keys) set ≡ replicate pad 0 = rw (whole, ← many) (drop-append_seam own (replicate pad 0)) in
    let not_last : (r + 1 == product_of kept keys) ≡ false = ne_eqb (r + 1) (product_of kept keys) (λ same. omega (arith, low, same)) in
    ap (λ (xs : List ℕ). stepped kept keys xs ++ drop (length keys) set) first
    ∙ ap (λ (xs : List ℕ). stepped kept keys own ++ xs) rest
    ∙ ap (λ (xs : List ℕ). xs ++ replicate pad 0) ((steps 0 kept keys r flags (omega (arith, low))).next)
    ∙ ap (λ (b : Bool). unrank 0 kept keys (if b then 0 else r + 1) ++ replicate pad 0) not_last
    ∙ sym (padded pad kept keys (r + 1) flags)
