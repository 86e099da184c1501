-- A list in which each value is a whole number.
use Rattle.std.proofs.Common.{◌≡◌, Bool, ◌&&◌, cond, ℤ, List, [], ◌∷◌, ◌++◌, map, Option, Some, None, is_some, Ok, Err, unwrap_or, pos, refl, sym, ap, ◌∙◌}
use Rattle.std.proofs.lemmas.List.{append_assoc, append-nil}
use Rattle.std.specs.List.{list_all}
use Rattle.toml.specs.Data.{Data, as_integer}
use Rattle.metric_base.specs.Steps.{each, require_some, ◌>>=◌}
use Rattle.metric_table.specs.declared.faults.FieldFaults.{FieldFaults}
use Rattle.metric_table.specs.Fields.{each_alone, integer_of, whole_in}

abbrev is_whole : {X : Type 0} → (X → Data) → X → Bool
is_whole f x = is_some (as_integer (f x))

-- the numbers of values that are all whole, after others, or the fault
more : {X F : Type 0} (faults : FieldFaults F) (f : X → Data) (before : List ℤ) (xs : List X)
    → each (λ _ d. integer_of faults d) before (map f xs) ≡ cond (list_all (is_whole f) xs) (Ok (before ++ map (λ x. whole_in (f x)) xs)) (Err faults.wrong_kind)
unfolding integer_of
more faults f before [] = ap Ok (sym (append-nil before))
more faults f before (x ∷ xs) = at (as_integer (f x)) (λ n. more faults f (before ++ n ∷ []) xs)
  where
    at : (o : Option ℤ) → ((n : ℤ) → each (λ _ d. integer_of faults d) (before ++ n ∷ []) (map f xs) ≡ cond (list_all (is_whole f) xs) (Ok ((before ++ n ∷ []) ++ map (λ y. whole_in (f y)) xs)) (Err faults.wrong_kind))
        → ((require_some o faults.wrong_kind >>= λ y. Ok (before ++ y ∷ [])) >>= λ next. each (λ _ d. integer_of faults d) next (map f xs))
        ≡ cond (is_some o && list_all (is_whole f) xs) (Ok (before ++ unwrap_or o (pos 0) ∷ map (λ y. whole_in (f y)) xs)) (Err faults.wrong_kind)
    at None rest = refl
    at (Some n) rest = rest n ∙ ap (λ ns. cond (list_all (is_whole f) xs) (Ok ns) (Err faults.wrong_kind)) (append_assoc before (n ∷ []) (map (λ y. whole_in (f y)) xs))

-- the numbers of values that are all whole, or the fault
pub whole_numbers : {X F : Type 0} (faults : FieldFaults F) (f : X → Data) (xs : List X)
    → each_alone (integer_of faults) (map f xs) ≡ cond (list_all (is_whole f) xs) (Ok (map (λ x. whole_in (f x)) xs)) (Err faults.wrong_kind)
whole_numbers faults f xs = more faults f [] xs

pub ruleset whole_laws = (whole_numbers)
