-- Two full sets of one rank are of one series, so there are no more series than the product.
use Rattle.std.proofs.Common.{◌≡◌, ℕ, zero, suc, ◌-◌, Bool, true, false, cond, List, [], ◌∷◌, length, refl, sym, arith}
use Rattle.std.specs.Prelude.{◌==◌, nat_le}
use Rattle.std.proofs.lemmas.Bool.{and_parts, true≢false}
use Rattle.std.proofs.lemmas.Nat.{same_from_place}
use Rattle.metric_facts.specs.declared.facts.KeyFacts.{KeyFacts}
use Rattle.metric_facts.specs.Facts.{is_entry, is_full_set}
use Rattle.metric_facts.specs.FullSetLaws.{zeros_same}
use Rattle.metric_facts.specs.Products.{product_of}
use Rattle.metric_facts.specs.Ranks.{digit_if, rank, rank_below}
use Rattle.metric_combinations.specs.Restrictions.{restricted}

entry_same : (values : ℕ) (optional : Bool) (x y : ℕ) → cond (x == 0) optional (nat_le x values) ≡ true → cond (y == 0) optional (nat_le y values) ≡ true
    → cond optional x (x - 1) ≡ cond optional y (y - 1) → x ≡ y
entry_same values true x y p q e = e
entry_same values false zero y p q e = absurd (true≢false (sym p))
entry_same values false (suc x) zero p q e = absurd (true≢false (sym q))
entry_same values false (suc x) (suc y) p q e = omega arith

-- what a kept entry or a dropped one is in the series
kept_same : (flag : Bool) (key : KeyFacts) (x y : ℕ) → is_entry key x ≡ true → is_entry key y ≡ true → digit_if flag key x ≡ digit_if flag key y
    → cond flag x 0 ≡ cond flag y 0
kept_same true key x y p q e = entry_same key.values key.optional x y p q e
kept_same false key x y p q e = refl

-- two full sets of one rank are of one series
pub rank_same : (kept : List Bool) (keys : List KeyFacts) (xs ys : List ℕ) → length kept ≡ length keys → length xs ≡ length ys → is_full_set keys xs ≡ true → is_full_set keys ys ≡ true
    → rank kept keys xs ≡ rank kept keys ys → restricted kept xs ≡ restricted kept ys
rank_same [] [] xs ys flags long p q e = zeros_same xs ys p q long
rank_same [] (key ∷ keys) xs ys flags long p q e = absurd (omega arith)
rank_same (flag ∷ kept) [] xs ys flags long p q e = absurd (omega arith)
rank_same (flag ∷ kept) (key ∷ keys) [] ys flags long p q e = absurd (true≢false (sym p))
rank_same (flag ∷ kept) (key ∷ keys) (x ∷ xs) [] flags long p q e = absurd (true≢false (sym q))
rank_same (flag ∷ kept) (key ∷ keys) (x ∷ xs) (y ∷ ys) flags long p q e =
    let a = and_parts (is_entry key x) (is_full_set keys xs) p in
    let b = and_parts (is_entry key y) (is_full_set keys ys) q in
    let one = same_from_place (digit_if flag key x) (rank kept keys xs) (digit_if flag key y) (rank kept keys ys) (product_of kept keys) (rank_below kept keys xs a.1) (rank_below kept keys ys b.1) e in
    let heads : cond flag x 0 ≡ cond flag y 0 = kept_same flag key x y a.0 b.0 one.0 in
    let tails : restricted kept xs ≡ restricted kept ys = rank_same kept keys xs ys (omega arith) (omega arith) a.1 b.1 one.1 in
    cc
