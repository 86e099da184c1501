-- A table that has at each place what a function gives for the place.
use Rattle.std.proofs.Common.{◌≡◌, ◌≤◌, ◌<◌, ◌++◌, ℕ, List, length, map, get_or, take, drop, take_all, sym, ◌∙◌, arith}
use Rattle.std.specs.List.{range_with_len}
use Rattle.std.proofs.lemmas.List.{same_lists, take-append-le}
use Rattle.std.proofs.lemmas.List.FromFn.{get_or-map-range_with_len, length-map-range_with_len}
use Rattle.metric_bounds.proofs.Budgets.{at_any}

pub table_is : {X : Type 0} (f : ℕ → X) (d : X) (xs : List X) (n : ℕ) → length xs ≡ n → ((i : ℕ) → i < n → get_or xs i d ≡ f i) → xs ≡ map f (range_with_len 0 n)
table_is f d xs n long each =
    let same : length (map f (range_with_len 0 n)) ≡ n = length-map-range_with_len f 0 n in
    same_lists xs (map f (range_with_len 0 n)) (long ∙ sym same)
    (λ k e within.
    let inside : k < n = omega arith in
    at_any xs k e d within ∙ each k inside ∙ sym (get_or-map-range_with_len f 0 n k k e inside (omega arith)))

-- what a list is after all its elements are written
pub written_back : (len : ℕ) (new old : List ℕ) → length new ≡ length old → len ≡ length old → take len (new ++ drop (length new) old) ≡ new
written_back len new old same is =
    let within : len ≤ length new = omega arith in
    take-append-le len new (drop (length new) old) within ∙ take_all len new (omega arith)
