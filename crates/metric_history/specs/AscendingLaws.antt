-- Set keys that are put one after the other before the first that comes
-- after them stand in ascending order.
use Rattle.std.proofs.Common.{◌≡◌, Ordering, Less, Equal, Greater, ℕ, zero, suc, ◌+◌, Bool, true}
use Rattle.std.proofs.Common.{false, not, cond, List, [], ◌∷◌, refl, sym, subst, arith}
use Rattle.std.specs.Prelude.{fold}
use Rattle.std.specs.List.{prefix_len}
use Rattle.std.specs.List.Sorted.{IsSorted}
use Rattle.std.specs.Ordering.{nat_cmp, is_lt, ordering_reverse}
use Rattle.std.specs.Cmp.Lexicographic.{slice_cmp}
use Rattle.std.proofs.lemmas.Cmp.{nat_list_cmp_total}
use Rattle.metric_history.specs.Points.{ascending, comes_before, with_key}

-- none comes before the one that stands before it
abbrev IsChain : List ℕ → List (List ℕ) → Type 0
IsChain key [] = Unit {0}
IsChain key (next ∷ keys) = (comes_before next key ≡ false) × IsChain next keys

abbrev IsAscending : List (List ℕ) → Type 0
IsAscending [] = Unit {0}
IsAscending (key ∷ keys) = IsChain key keys

reversed : (order : Ordering) → is_lt order ≡ true → is_lt (ordering_reverse order) ≡ false
reversed Less e = refl
reversed Equal e = absurd cc
reversed Greater e = absurd cc

not_before : (a b : List ℕ) → comes_before a b ≡ true → comes_before b a ≡ false
not_before a b e = rw (nat_list_cmp_total.antisymm b a) (reversed (slice_cmp nat_cmp a b) e)

one_more : (n : ℕ) → 1 + n ≡ suc n
one_more n = omega arith

-- a key is put first, or among those behind the first
put_first : (key first : List ℕ) (keys : List (List ℕ)) (before : Bool)
    → comes_before key first ≡ before
    → with_key (first ∷ keys) key ≡ cond before (key ∷ first ∷ keys) (first ∷ with_key keys key)
put_first key first keys true e = rw e refl
put_first key first keys false e =
    rw (e, one_more (prefix_len (λ k. not (comes_before key k)) keys)) refl

chain_step : (least key first : List ℕ) (keys : List (List ℕ)) (before : Bool)
    → comes_before key first ≡ before → comes_before key least ≡ false
    → IsChain least (first ∷ keys)
    → (comes_before key first ≡ false → IsChain first (with_key keys key))
    → IsChain least (with_key (first ∷ keys) key)
chain_step least key first keys true e above chain later =
    subst (IsChain least) (sym (put_first key first keys true e))
    (above, (not_before key first e, chain.1))
chain_step least key first keys false e above chain later =
    subst (IsChain least) (sym (put_first key first keys false e)) (chain.0, later e)

chain_put : (least key : List ℕ) (keys : List (List ℕ)) → comes_before key least ≡ false
    → IsChain least keys → IsChain least (with_key keys key)
chain_put least key [] above chain = (above, tt)
chain_put least key (first ∷ keys) above chain =
    chain_step least key first keys (comes_before key first) refl above chain
    (λ e. chain_put first key keys e chain.1)

ascending_put : (key : List ℕ) (keys : List (List ℕ)) → IsAscending keys
    → IsAscending (with_key keys key)
ascending_put key [] up = tt
ascending_put key (first ∷ keys) up = at (comes_before key first) refl
  where
    at : (before : Bool) → comes_before key first ≡ before
        → IsAscending (with_key (first ∷ keys) key)
    at true e =
        subst IsAscending (sym (put_first key first keys true e)) (not_before key first e, up)
    at false e =
        subst IsAscending (sym (put_first key first keys false e)) (chain_put first key keys e up)

ascending_fold : (keys sorted : List (List ℕ)) → IsAscending sorted
    → IsAscending (fold with_key sorted keys)
ascending_fold [] sorted up = up
ascending_fold (key ∷ keys) sorted up =
    ascending_fold keys (with_key sorted key) (ascending_put key sorted up)

suc_one : (n : ℕ) → suc n + 1 ≡ suc (n + 1)
suc_one n = omega arith

chain_sorted : (key : List ℕ) (keys : List (List ℕ)) → IsChain key keys
    → IsSorted (slice_cmp nat_cmp) (key ∷ keys)
chain_sorted key [] chain k d low below = absurd (omega arith)
chain_sorted key (next ∷ keys) chain zero d low below = chain.0
chain_sorted key (next ∷ keys) chain (suc k) d low below =
    rw (suc_one k) (chain_sorted next keys chain.1 k d (omega arith) (omega arith))

sorted_of : (keys : List (List ℕ)) → IsAscending keys → IsSorted (slice_cmp nat_cmp) keys
sorted_of [] up = λ k d low below. absurd (omega arith)
sorted_of (key ∷ keys) up = chain_sorted key keys up

pub ascending-IsSorted : (keys : List (List ℕ)) → IsSorted (slice_cmp nat_cmp) (ascending keys)
ascending-IsSorted keys = sorted_of (ascending keys) (ascending_fold keys [] tt)
