-- A full set has an entry of the key's range at each place.
use Rattle.std.proofs.Common.{◌≡◌, ◌≤◌, ◌<◌, ◌==◌, ◌&&◌, ◌∙◌, ℕ, zero, suc, Bool, true, false, List, [], ◌∷◌, length, ap, arith, cond, refl, sym}
use Rattle.std.specs.Prelude.{nat_le, replicate, slice_index_or}
use Rattle.std.proofs.lemmas.Bool.{leb-false, leb-true}
use Rattle.std.proofs.lemmas.Bool.Decides.{nat_tests}
use Rattle.metric_facts.specs.declared.facts.KeyFacts.{KeyFacts}
use Rattle.metric_facts.specs.EntryRanges.{AreRanges, are_within, least_of, most_of}
use Rattle.metric_facts.specs.Facts.{is_entry, is_full_set}

-- an entry is between two
abbrev between : ℕ → ℕ → ℕ → Bool
between low high entry = nat_le low entry && nat_le entry high

and_assoc : (a b c : Bool) → ((a && b) && c) ≡ (a && (b && c))
and_assoc true b c = refl
and_assoc false b c = refl

and_true : (a : Bool) → (a && true) ≡ a
and_true true = refl
and_true false = refl

-- the first place apart
shift : (n low high entry : ℕ) (least most set : List ℕ)
    → are_within (suc n) (low ∷ least) (high ∷ most) (entry ∷ set) ≡ (between low high entry && are_within n least most set)
shift zero low high entry least most set = sym (and_true (between low high entry))
shift (suc n) low high entry least most set =
    ap (λ (b : Bool). b && (nat_le (slice_index_or least n 0) (slice_index_or set n 0) && nat_le (slice_index_or set n 0) (slice_index_or most n 0)))
    (shift n low high entry least most set)
    ∙ and_assoc (between low high entry) (are_within n least most set)
    (nat_le (slice_index_or least n 0) (slice_index_or set n 0) && nat_le (slice_index_or set n 0) (slice_index_or most n 0))

entry_between : (values : ℕ) (optional : Bool) (entry : ℕ)
    → between (cond optional 0 1) values entry ≡ cond (entry == 0) optional (nat_le entry values)
entry_between values true zero = grind (arith, nat_tests)
entry_between values false zero = grind (arith, nat_tests)
entry_between values true (suc n) = grind (arith, nat_tests)
entry_between values false (suc n) = grind (arith, nat_tests)

zero_between : (entry : ℕ) → between 0 0 entry ≡ (entry == 0)
zero_between zero = grind (arith, nat_tests)
zero_between (suc n) = grind (arith, nat_tests)

zeros_within : (n : ℕ) (set : List ℕ) → length set ≡ n → are_within n (replicate n 0) (replicate n 0) set ≡ is_full_set [] set
zeros_within zero [] len = refl
zeros_within zero (x ∷ set) len = absurd (omega (arith, len))
zeros_within (suc n) [] len = absurd (omega (arith, len))
zeros_within (suc n) (x ∷ set) len =
    shift n 0 0 x (replicate n 0) (replicate n 0) set
    ∙ ap (λ (b : Bool). b && are_within n (replicate n 0) (replicate n 0) set) (zero_between x)
    ∙ ap (λ (b : Bool). (x == 0) && b) (zeros_within n set (omega (arith, len)))

pub full_within : (n : ℕ) (keys : List KeyFacts) (set : List ℕ) → length set ≡ n → length keys ≤ n
    → are_within n (least_of n keys) (most_of n keys) set ≡ is_full_set keys set
full_within zero [] [] len few = refl
full_within zero [] (x ∷ set) len few = absurd (omega (arith, len))
full_within zero (key ∷ keys) set len few = absurd (omega (arith, few))
full_within (suc n) keys [] len few = absurd (omega (arith, len))
full_within (suc n) [] (x ∷ set) len few = zeros_within (suc n) (x ∷ set) len
full_within (suc n) (key ∷ keys) (x ∷ set) len few =
    shift n (cond key.optional 0 1) key.values x (least_of n keys) (most_of n keys) set
    ∙ ap (λ (b : Bool). b && are_within n (least_of n keys) (most_of n keys) set) (entry_between key.values key.optional x)
    ∙ ap (λ (b : Bool). is_entry key x && b) (full_within n keys set (omega (arith, len)) (omega (arith, few)))

pub too_many : (keys : List KeyFacts) (set : List ℕ) → length set ≤ length keys → (length keys ≡ length set → ⊥) → is_full_set keys set ≡ false
too_many [] [] few differs = absurd (differs refl)
too_many [] (x ∷ set) few differs = absurd (omega (arith, few))
too_many (key ∷ keys) [] few differs = refl
too_many (key ∷ keys) (x ∷ set) few differs =
    ap (λ (b : Bool). is_entry key x && b) (too_many keys set (omega (arith, few)) (λ same. differs (ap suc same))) ∙ none (is_entry key x)
  where
    none : (b : Bool) → (b && false) ≡ false
    none true = refl
    none false = refl

-- the test of a set key by ranges
pub takes_full : (keys : List KeyFacts) (least most set : List ℕ) (few : Bool) → AreRanges keys least most few → length set ≡ 8
    → (few && are_within 8 least most set) ≡ is_full_set keys set
takes_full keys least most set true ranges len = rw (ranges.least_is, ranges.most_is)
    (full_within 8 keys set len (leb-true (length keys) 8 (sym ranges.few_is)))
takes_full keys least most set false ranges len =
    let over : 8 < length keys = leb-false (length keys) 8 (sym ranges.few_is) in
    sym (too_many keys set (omega (arith, len, over)) (λ same. absurd (omega (arith, len, over, same))))
