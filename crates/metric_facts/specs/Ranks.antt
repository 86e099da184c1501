-- The rank of a full set among those of a stream: its place in the mixed radix that the choices of
-- each kept key make. It is below the product of these choices.
use Rattle.std.proofs.Common.{◌≡◌, ℕ, zero, suc, ◌+◌, ◌-◌, ◌*◌, ◌<◌, Bool, true, false, cond, List}
use Rattle.std.proofs.Common.{[], ◌∷◌, sym, arith}
use Rattle.std.specs.Prelude.{◌==◌, nat_le, if◌then◌else◌}
use Rattle.std.proofs.lemmas.Bool.{and_parts, true≢false}
use Rattle.std.proofs.lemmas.Bool.Decides.{nat_tests}
use Rattle.std.proofs.lemmas.Nat.{mul-add-lt}
use Rattle.std.proofs.Math.Nat.{mul_comm}
use Rattle.metric_facts.specs.declared.facts.KeyFacts.{KeyFacts}
use Rattle.metric_facts.specs.Facts.{is_entry, is_full_set}
use Rattle.metric_facts.specs.Products.{product_of, radix}

-- an entry of a key as a digit: where the key may be left out, that is the first of its choices
abbrev pub digit : KeyFacts → ℕ → ℕ
digit key entry = if key.optional then entry else entry - 1

abbrev pub digit_if : Bool → KeyFacts → ℕ → ℕ
digit_if kept key entry = if kept then digit key entry else 0

-- the rank of a set: its digits in declared order, the first of them the most significant
abbrev pub rank : List Bool → List KeyFacts → List ℕ → ℕ
rank [] keys set = 0
rank (flag ∷ kept) [] set = 0
rank (flag ∷ kept) (key ∷ keys) [] = 0
rank (flag ∷ kept) (key ∷ keys) (entry ∷ set) =
    digit_if flag key entry * product_of kept keys + rank kept keys set

-- the rank of a full set is below the product
abbrev pub IsBelow : List Bool → List KeyFacts → List ℕ → Type 0
IsBelow kept keys set = is_full_set keys set ≡ true → rank kept keys set < product_of kept keys

entry_below : (values : ℕ) (optional : Bool) (entry : ℕ)
    → cond (entry == 0) optional (nat_le entry values) ≡ true
    → cond optional entry (entry - 1) < values + cond optional 1 0
entry_below values true zero e = omega arith
entry_below values false zero e = absurd (true≢false (sym e))
entry_below values true (suc n) e = grind (arith, nat_tests, e)
entry_below values false (suc n) e = grind (arith, nat_tests, e)

digit_below : (flag : Bool) (key : KeyFacts) (entry : ℕ) → is_entry key entry ≡ true
    → digit_if flag key entry < radix flag key
digit_below true key entry e = entry_below key.values key.optional entry e
digit_below false key entry e = omega arith

pub rank_below : (kept : List Bool) (keys : List KeyFacts) (set : List ℕ) → IsBelow kept keys set
rank_below [] keys set full = omega arith
rank_below (flag ∷ kept) [] set full = omega arith
rank_below (flag ∷ kept) (key ∷ keys) [] full = absurd (true≢false (sym full))
rank_below (flag ∷ kept) (key ∷ keys) (entry ∷ set) full =
    let parts = and_parts (is_entry key entry) (is_full_set keys set) full in
    let rest = rank_below kept keys set parts.1 in
    omega (
      arith,
      mul-add-lt (digit_if flag key entry) (product_of kept keys) (rank kept keys set)
          (radix flag key) (digit_below flag key entry parts.0) rest,
      mul_comm (radix flag key) (product_of kept keys),
    )
