-- What a set weighs is its rank, and what the least entries weigh.
use Rattle.std.proofs.Common.{◌≡◌, ℕ, zero, suc, ◌+◌, ◌-◌, ◌*◌, ◌≤◌, ◌<◌, Bool, true, false, cond, List, [], ◌∷◌, length, min, refl, sym, ap, ◌∙◌, arith}
use Rattle.std.specs.Prelude.{◌==◌, nat_le, replicate, slice_index_or}
use Rattle.std.proofs.lemmas.Bool.{and_parts, true≢false}
use Rattle.std.proofs.lemmas.Bool.Decides.{nat_tests}
use Rattle.std.proofs.Math.Nat.{mul_comm}
use Rattle.metric_facts.specs.declared.facts.KeyFacts.{KeyFacts}
use Rattle.metric_facts.specs.Facts.{is_entry, is_full_set}
use Rattle.metric_facts.specs.Products.{product_of}
use Rattle.metric_facts.specs.Ranks.{digit_if, rank}
use Rattle.metric_dense.specs.Weights.{IsTable, weighted, weights_of}
use Rattle.metric_facts.specs.EntryRanges.{least_of}

-- the first place apart
shift : (n w x : ℕ) (weights set : List ℕ) → weighted (suc n) (w ∷ weights) (x ∷ set) ≡ w * x + weighted n weights set
shift zero w x weights set = omega arith
shift (suc n) w x weights set =
    let rest = shift n w x weights set in
    omega (arith, rest)

zero_at : (m n : ℕ) → ◌≡◌ {A = ℕ} (slice_index_or (replicate m 0) n 0) 0
zero_at zero n = refl
zero_at (suc m) zero = refl
zero_at (suc m) (suc n) = zero_at m n

no_worth : (x w d : ℕ) → x ≡ 0 → w ≡ 0 → x + w * d ≡ 0
no_worth x w d e z = rw (e, z) (omega arith)

nothing : (n m : ℕ) (set : List ℕ) → weighted n (replicate m 0) set ≡ 0
nothing zero m set = refl
nothing (suc n) m set = no_worth _ _ (slice_index_or set n 0) (nothing n m set) (zero_at m n)

-- an entry weighs as much as its digit and the least entry
entry_worth : (values : ℕ) (optional : Bool) (x w : ℕ) → cond (x == 0) optional (nat_le x values) ≡ true → w * x ≡ cond optional x (x - 1) * w + w * cond optional 0 1
entry_worth values true x w e = omega (arith, mul_comm w x)
entry_worth values false zero w e = absurd (true≢false (sym e))
entry_worth values false (suc x) w e =
    let less : x ≡ suc x - 1 = omega arith in
    let own : w * suc x ≡ x * w + w * 1 = omega (arith, mul_comm w x) in
    own ∙ ap (λ (n : ℕ). n * w + w * 1) less

kept_worth : (flag : Bool) (key : KeyFacts) (x w : ℕ) → is_entry key x ≡ true → cond flag w 0 * x ≡ digit_if flag key x * w + cond flag w 0 * cond key.optional 0 1
kept_worth true key x w e = entry_worth key.values key.optional x w e
kept_worth false key x w e = omega arith

-- a full set weighs as much as its rank and the least entries
weighted_rank : (n : ℕ) (kept : List Bool) (keys : List KeyFacts) (set : List ℕ) → length kept ≡ length keys → length keys ≤ n → is_full_set keys set ≡ true
    → weighted n (weights_of n kept keys) set ≡ rank kept keys set + weighted n (weights_of n kept keys) (least_of n keys)
weighted_rank zero [] keys set flags few full = omega arith
weighted_rank zero (flag ∷ kept) [] set flags few full = absurd (omega arith)
weighted_rank zero (flag ∷ kept) (key ∷ keys) set flags few full = absurd (omega arith)
weighted_rank (suc n) [] keys set flags few full = omega (arith, nothing (suc n) (suc n) set, nothing (suc n) (suc n) (least_of (suc n) keys))
weighted_rank (suc n) (flag ∷ kept) [] set flags few full = absurd (omega arith)
weighted_rank (suc n) (flag ∷ kept) (key ∷ keys) [] flags few full = absurd (true≢false (sym full))
weighted_rank (suc n) (flag ∷ kept) (key ∷ keys) (x ∷ set) flags few full =
    let parts = and_parts (is_entry key x) (is_full_set keys set) full in
    let w = product_of kept keys in
    omega (
      arith,
      shift n (cond flag w 0) x (weights_of n kept keys) set,
      shift n (cond flag w 0) (cond key.optional 0 1) (weights_of n kept keys) (least_of n keys),
      kept_worth flag key x w parts.0,
      weighted_rank n kept keys set (omega arith) (omega arith) parts.1,
    )

-- a table finds the rank of each full set
pub table_ranks : (kept : List Bool) (keys : List KeyFacts) (weights : List ℕ) (base : ℕ) (set : List ℕ) → IsTable kept keys weights base → is_full_set keys set ≡ true
    → weighted 8 weights set ≡ rank kept keys set + base
table_ranks kept keys weights base set table full =
    ap (λ (ws : List ℕ). weighted 8 ws set) table.weighed
    ∙ weighted_rank 8 kept keys set table.ranked.flags table.ranked.few full
    ∙ ap (λ (ws : List ℕ). rank kept keys set + weighted 8 ws (least_of 8 keys)) (sym table.weighed)
    ∙ ap (λ (n : ℕ). rank kept keys set + n) (sym table.least)

-- a product of which a part was cut off at a number, cut off there
pub saturated : (a b m : ℕ) → min (a * min b m) m ≡ min (a * b) m
saturated zero b m = omega arith
saturated (suc a) b m = at (nat_le b m) refl
  where
    at : (test : Bool) → nat_le b m ≡ test → min (suc a * min b m) m ≡ min (suc a * b) m
    at true e =
        let low : b ≤ m = grind (arith, nat_tests) in
        let same : min b m ≡ b = omega arith in
        ap (λ (n : ℕ). min (suc a * n) m) same
    at false e =
        let high : m < b = grind (arith, nat_tests) in
        let cut : min b m ≡ m = omega arith in
        let own : min (suc a * m) m ≡ m = omega arith in
        let all : min (suc a * b) m ≡ m = omega arith in
        ap (λ (n : ℕ). min (suc a * n) m) cut ∙ own ∙ sym all
