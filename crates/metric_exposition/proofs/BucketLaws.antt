-- Where no count is left, all buckets are told.
use Rattle.std.proofs.Common.{◌≡◌, ℕ, ℤ, ◌≤◌, List, [], ◌∷◌, ◌++◌, length, drop, refl, ap, sym, ◌∙◌, append-nil}
use Rattle.std.proofs.lemmas.List.{drop_all}
use Rattle.std.specs.List.{flat_map}
use Rattle.metric_exposition.specs.Samples.{buckets_from}

none_left : (before : ℕ) (boundaries : List ℤ) → buckets_from before boundaries [] ≡ []
none_left before [] = refl
none_left before (boundary ∷ boundaries) = refl

pub all_told : (told : List ℕ × ℕ → List ℕ) (out all : List ℕ) (before : ℕ) (boundaries : List ℤ) (counts : List ℕ) (at : ℕ)
    → length counts ≤ at → out ++ flat_map told (buckets_from before boundaries (drop at counts)) ≡ all → out ≡ all
all_told told out all before boundaries counts at past is =
    sym (append-nil out)
    ∙ ap (λ left. out ++ flat_map told left) (sym (none_left before boundaries))
    ∙ ap (λ left. out ++ flat_map told (buckets_from before boundaries left)) (sym (drop_all at counts past))
    ∙ is
