-- What handles hold after what was made is put into the first of them.
use Rattle.std.proofs.Common.{◌≡◌, ℕ, zero, suc, List, [], ◌∷◌, ◌++◌, length, map, drop, refl, sym, ap, ◌∙◌}
use Rattle.std.proofs.lemmas.List.{length-map, map-append}

drop_map : {H T : Type 0} (f : H → T) (n : ℕ) (xs : List H) → map f (drop n xs) ≡ drop n (map f xs)
drop_map f zero xs = refl
drop_map f (suc n) [] = refl
drop_map f (suc n) (x ∷ xs) = drop_map f n xs

pub first_held : {H T : Type 0} (f : H → T) (made before after : List H) → after ≡ made ++ drop (length made) before
    → map f after ≡ map f made ++ drop (length (map f made)) (map f before)
first_held f made before after is =
    ap (map f) is
    ∙ map-append f made (drop (length made) before)
    ∙ ap (λ (rest : List _). map f made ++ rest) (drop_map f (length made) before ∙ ap (λ (n : ℕ). drop n (map f before)) (sym (length-map made f)))
