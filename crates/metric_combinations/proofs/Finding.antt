-- Rows are found, and nothing else is.
use Rattle.std.proofs.Common.{◌≡◌, ℕ, zero, suc, ◌+◌, ◌<◌, Bool, true, false, not, cond, ◌&&◌, ◌||◌, List, [], ◌∷◌, ◌++◌, length, get_or, take, drop, drop-cons, add-one, Option, Some, None, refl, sym, ap, ◌∙◌}
use Rattle.std.proofs.lemmas.List.Folds.{list_any_more, list_any-append}
use Rattle.std.proofs.lemmas.Slice.Eq.{bytes_eq-Decides}
use Rattle.std.specs.Cmp.Lexicographic.{slice_cmp}
use Rattle.std.specs.List.{list_any, slice_get}
use Rattle.std.specs.Option.{option_and_then}
use Rattle.std.specs.Ordering.{nat_cmp, is_eq}
use Rattle.std.specs.Str.{bytes_eq}
use Rattle.std.proofs.lemmas.Bool.{or_right}
use Rattle.metric_combinations.specs.Combinations.{allows}
use Rattle.metric_combinations.specs.RestrictionLaws.{sets_tied}
use Rattle.metric_combinations.specs.Tries.{end_of, is_set, is_set_at}

at_place : (rows : List (List ℕ)) (set : List ℕ) (place : ℕ) → is_set set (slice_get rows place) ≡ true → allows rows set ≡ true
at_place [] set place e = absurd cc
at_place (row ∷ rows) set zero e = rw e refl
at_place (row ∷ rows) set (suc place) e = or_right (bytes_eq row set) (allows rows set) (at_place rows set place e)

-- what stands at a place is among the rows
pub found_is_row : (rows : List (List ℕ)) (set : List ℕ) (place : Option ℕ) → is_set_at rows set place ≡ true → allows rows set ≡ true
found_is_row rows set None e = absurd cc
found_is_row rows set (Some place) e = at_place rows set place e

-- a row that is the set key and is not found
abbrev pub is_other : (List ℕ → Bool) → List ℕ → List ℕ → Bool
is_other found set row = bytes_eq row set && not (found row)

-- where a set key is not found, no row that is equal to it is
unfound : (found : List ℕ → Bool) (set : List ℕ) → found set ≡ false → (row : List ℕ) (same : Bool) → bytes_eq row set ≡ same → (same && not (found row)) ≡ same
unfound found set e row true s = rw (ap found ((bytes_eq-Decides row set).0 s) ∙ e) refl
unfound found set e row false s = refl

-- the rows that are found and the others are the rows
pub found_or_other : (found : List ℕ → Bool) (rows : List (List ℕ)) (set : List ℕ) → (found set ≡ true → allows rows set ≡ true)
    → (found set || list_any (is_other found set) rows) ≡ allows rows set
found_or_other found rows set sound = at (found set) refl
  where
    at : (b : Bool) → found set ≡ b → (b || list_any (is_other found set) rows) ≡ allows rows set
    at true e = sym (sound e)
    at false e = λ i. list_any (λ row. unfound found set e row (bytes_eq row set) refl i) rows

-- one row more, which is another where it is not found
pub one_more_other : (found : List ℕ → Bool) (rows : List (List ℕ)) (i : ℕ) (set : List ℕ) (own old new : Bool) → i < length rows
    → found (get_or rows i []) ≡ own → old ≡ list_any (is_other found set) (take i rows)
    → new ≡ cond own old (cond (is_eq (slice_cmp nat_cmp (get_or rows i []) set)) true old)
    → new ≡ list_any (is_other found set) (take (i + 1) rows)
one_more_other found rows i set own old new below is_own was is =
    let row = get_or rows i [] in
    is ∙ ap (λ tied. cond own old (cond tied true old)) (sets_tied row set)
    ∙ at own (bytes_eq row set) old
    ∙ ap (λ b. b || (bytes_eq row set && not own)) was
    ∙ ap (λ b. list_any (is_other found set) (take i rows) || (bytes_eq row set && not b)) (sym is_own)
    ∙ sym (list_any_more (is_other found set) rows i [] below)
  where
    at : (own same old : Bool) → cond own old (cond same true old) ≡ (old || (same && not own))
    at true true true = refl
    at true true false = refl
    at true false true = refl
    at true false false = refl
    at false true true = refl
    at false true false = refl
    at false false true = refl
    at false false false = refl

-- one row more, which is new
pub one_more_row : (rows : List (List ℕ)) (row set : List ℕ) (old new : Bool) → old ≡ allows rows set
    → new ≡ cond (is_eq (slice_cmp nat_cmp row set)) true old → new ≡ allows (rows ++ row ∷ []) set
one_more_row rows row set old new was is =
    is ∙ ap (λ tied. cond tied true old) (sets_tied row set)
    ∙ at (bytes_eq row set) old
    ∙ ap (λ b. b || (bytes_eq row set || false)) was
    ∙ sym (list_any-append (λ other. bytes_eq other set) rows (row ∷ []))
  where
    at : (same old : Bool) → cond same true old ≡ (old || (same || false))
    at true true = refl
    at true false = refl
    at false true = refl
    at false false = refl

first_step : (entries : List ℕ) (i : ℕ) → i < length entries → drop i entries ≡ get_or entries i 0 ∷ drop (i + 1) entries
first_step entries i below = rw (add-one, drop-cons entries i 0) refl

-- what is left of the way after one step more
pub end_after : (steps entries : List ℕ) (at i : ℕ) (end : Option ℕ) → i < length entries → end_of steps at (drop i entries) ≡ end
    → option_and_then (λ next. end_of steps next (drop (i + 1) entries)) (slice_get steps (at + get_or entries i 0)) ≡ end
end_after steps entries at i end below e = sym (ap (end_of steps at) (first_step entries i below)) ∙ e

-- where the step leads on, so does the way
pub end_some : (steps entries : List ℕ) (at i next : ℕ) (end : Option ℕ) → i < length entries → end_of steps at (drop i entries) ≡ end
    → slice_get steps (at + get_or entries i 0) ≡ Some next → end_of steps next (drop (i + 1) entries) ≡ end
end_some steps entries at i next end below e s =
    sym (ap (option_and_then (λ n. end_of steps n (drop (i + 1) entries))) s) ∙ end_after steps entries at i end below e

-- where it leads nowhere, the way ends nowhere
pub end_none : (steps entries : List ℕ) (at i : ℕ) (end : Option ℕ) → i < length entries → end_of steps at (drop i entries) ≡ end
    → slice_get steps (at + get_or entries i 0) ≡ None → None ≡ end
end_none steps entries at i end below e s =
    sym (ap (option_and_then (λ n. end_of steps n (drop (i + 1) entries))) s) ∙ end_after steps entries at i end below e
