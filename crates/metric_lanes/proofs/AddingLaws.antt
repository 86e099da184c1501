-- Counts that are added bucket by bucket, one after the other.
use Rattle.std.proofs.Common.{◌≡◌, ℕ, zero, suc, ◌+◌, ◌<◌, ◌^◌, All, List, [], ◌∷◌, ◌++◌, length, take, get_or, refl, ap, ◌∙◌, arith}
use Rattle.std.specs.Prelude.{max, slice_index}
use Rattle.std.proofs.lemmas.List.{take_more}
use Rattle.metric_lanes.specs.Joined.{added}

pub added_long : (a b : List ℕ) → length (added a b) ≡ max (length a) (length b)
added_long [] b = omega arith
added_long (m ∷ ms) [] = omega arith
added_long (m ∷ ms) (n ∷ ns) = omega (arith, added_long ms ns)

pub added_get : (a b : List ℕ) (i : ℕ) → get_or (added a b) i 0 ≡ slice_index a i + slice_index b i
added_get [] b i = omega arith
added_get (m ∷ ms) [] i = omega arith
added_get (m ∷ ms) (n ∷ ns) zero = refl
added_get (m ∷ ms) (n ∷ ns) (suc i) = added_get ms ns i

-- one bucket more
pub added_more : (a b : List ℕ) (i : ℕ) → i < max (length a) (length b)
    → take (i + 1) (added a b) ≡ take i (added a b) ++ (slice_index a i + slice_index b i) ∷ []
added_more a b i below =
    take_more (added a b) i 0 (omega (arith, added_long a b, below))
    ∙ ap (λ (n : ℕ). take i (added a b) ++ n ∷ []) (added_get a b i)

-- each is a number of 64 bits where all are
pub added_fit : (a b : List ℕ) (i : ℕ) → All (λ n. n < 2 ^ 64) (added a b) → i < max (length a) (length b)
    → slice_index a i + slice_index b i < 2 ^ 64
added_fit a b i all below =
    omega (arith, all i 0 (omega (arith, added_long a b, below)), added_get a b i)
