-- The only one of the numbers that pass, with one number more.
use Rattle.std.proofs.Common.{◌≡◌, ℕ, ◌+◌, Bool, true, false, cond, List, [], ◌∷◌, ◌++◌, refl, ap, ◌∙◌}
use Rattle.std.specs.Prelude.{filter}
use Rattle.std.specs.List.{range_with_len}
use Rattle.std.proofs.lemmas.List.{append-nil}
use Rattle.std.proofs.lemmas.List.Elements.{filter-append}
use Rattle.metric_resolve.proofs.Numbers.{range_more}
use Rattle.wormweekly_commands.specs.PageReaders.{only_reader, with_served}

filter_more : (p : ℕ → Bool) (n : ℕ) → filter p (range_with_len 0 (n + 1)) ≡ filter p (range_with_len 0 n) ++ cond (p n) (n ∷ []) []
filter_more p n = ap (filter p) (range_more n) ∙ filter-append p (range_with_len 0 n) (n ∷ [])

one_served : (found : List ℕ) (n : ℕ) → only_reader (found ++ n ∷ []) ≡ with_served (only_reader found) n
one_served [] n = refl
one_served (a ∷ []) n = refl
one_served (a ∷ b ∷ found) n = refl

turned : (found : List ℕ) (n : ℕ) (b : Bool) → only_reader (found ++ cond b (n ∷ []) []) ≡ cond b (with_served (only_reader found) n) (only_reader found)
turned found n true = one_served found n
turned found n false = ap only_reader (append-nil found)

pub one_turn : (p : ℕ → Bool) (n : ℕ) → only_reader (filter p (range_with_len 0 (n + 1)))
    ≡ cond (p n) (with_served (only_reader (filter p (range_with_len 0 n))) n) (only_reader (filter p (range_with_len 0 n)))
one_turn p n = ap only_reader (filter_more p n) ∙ turned (filter p (range_with_len 0 n)) n (p n)
