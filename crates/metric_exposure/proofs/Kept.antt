-- The names of the kept keys before a place, with one key more.
use Rattle.std.proofs.Common.{◌≡◌, ℕ, zero, suc, ◌+◌, Bool, true, false, cond, List, [], ◌∷◌, ◌++◌, take, Option, Some, None, refl, ap, ◌∙◌, arith}
use Rattle.std.specs.Prelude.{slice_get}
use Rattle.std.specs.List.{cons_option}
use Rattle.std.specs.Option.{unwrap_or}
use Rattle.metric_contents.specs.declared.contents.Key.{Key}
use Rattle.metric_lines.specs.Keys.{kept_name, kept_names}

-- its name, where it is kept
abbrev pub name_if : Bool → Key → List (List ℕ)
name_if keep key = cond keep (key.name ∷ []) []

cons_before : (o : Option (List ℕ)) (xs ys : List (List ℕ)) → cons_option o (xs ++ ys) ≡ cons_option o xs ++ ys
cons_before None xs ys = refl
cons_before (Some x) xs ys = refl

none_kept : (keys : List Key) → kept_names keys [] ≡ []
none_kept [] = refl
none_kept (key ∷ keys) = refl

abbrev no_flags : List Bool
no_flags = []

none_taken : (n : ℕ) → take n no_flags ≡ no_flags
none_taken zero = refl
none_taken (suc n) = refl

one_kept : (key : Key) (keep : Bool) → cons_option (kept_name key keep) [] ≡ name_if keep key
one_kept key true = refl
one_kept key false = refl

pub kept_more : (keys : List Key) (kept : List Bool) (n : ℕ) (key : Key) (keep : Bool) → slice_get keys n ≡ Some key → unwrap_or (slice_get kept n) false ≡ keep
    → kept_names (take (n + 1) keys) (take (n + 1) kept) ≡ kept_names (take n keys) (take n kept) ++ name_if keep key
kept_more [] kept n key keep at is = absurd cc
kept_more (k ∷ keys) [] n key keep at is =
    rw (none_taken (n + 1), none_taken n, none_kept (take (n + 1) (k ∷ keys)), none_kept (take n (k ∷ keys))) (ap (λ b. name_if b key) is)
kept_more (k ∷ keys) (b ∷ kept) zero key keep at is =
    let same : k ≡ key = cc in
    one_kept k b ∙ ap (λ flag. name_if flag k) is ∙ ap (name_if keep) same
kept_more (k ∷ keys) (b ∷ kept) (suc n) key keep at is =
    let longer : suc n + 1 ≡ suc (n + 1) = omega arith in
    rw longer (ap (cons_option (kept_name k b)) (kept_more keys kept n key keep at is) ∙ cons_before (kept_name k b) (kept_names (take n keys) (take n kept)) (name_if keep key))
