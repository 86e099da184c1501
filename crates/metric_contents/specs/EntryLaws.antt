-- One more entry of a set key.
use Rattle.std.proofs.Common.{◌≡◌, ℕ, suc, ◌+◌, ◌-◌, ◌<◌, ◌≤◌, ◌++◌, length, take, get_or}
use Rattle.std.proofs.Common.{replicate, slice_set, append_assoc, subst, arith, List, [], ◌∷◌, map}
use Rattle.std.proofs.Common.{sym, ap, ◌∙◌}
use Rattle.std.proofs.lemmas.List.{length-map, length-take-le, map-append, take_more}
use Rattle.std.proofs.Math.Seq.{set-append_seam}

-- one more entry after those of a set key
pub entry_put : (front : List ℕ) (p entry : ℕ) → length front ≡ p → p < 8
    → slice_set (front ++ replicate (8 - p) 0) p entry ≡ (front ++ entry ∷ []) ++ replicate
    (8 - (p + 1)) 0
entry_put front p entry len within =
    let one : 8 - p ≡ suc (8 - (p + 1)) = omega arith in
    let left : replicate (8 - p) 0 ≡ 0 ∷ replicate (8 - (p + 1)) 0 = ap (λ (n : ℕ). replicate n 0)
    one in
    let seam : slice_set (front ++ 0 ∷ replicate (8 - (p + 1)) 0) p entry ≡ front ++ entry ∷
    replicate (8 - (p + 1)) 0
    = subst (λ (n : ℕ). slice_set (front ++ 0 ∷ replicate (8 - (p + 1)) 0) n entry ≡ front ++ entry
    ∷ replicate (8 - (p + 1)) 0) len (set-append_seam front 0 (replicate (8 - (p + 1)) 0) entry)
    in
    ap (λ (zeros : List ℕ). slice_set (front ++ zeros) p entry) left ∙ seam ∙
    sym (append_assoc front (entry ∷ []) (replicate (8 - (p + 1)) 0))

-- one more entry of a set key
pub entry_more : {X : Type 0} (f : X → ℕ) (keys : List X) (p : ℕ) (key : X) → p < length keys
    → length keys ≤ 8 → key ≡ get_or keys p key
    → slice_set (map f (take p keys) ++ replicate (8 - p) 0) p (f key) ≡ map f (take (p + 1) keys)
    ++ replicate (8 - (p + 1)) 0
entry_more {X} f keys p key within few is =
    let len : length (map f (take p keys)) ≡ p = length-map (take p keys) f ∙
    length-take-le p keys (omega arith) in
    let more : take (p + 1) keys ≡ take p keys ++ key ∷ [] = take_more keys p key within ∙
    ap (λ (k : X). take p keys ++ k ∷ []) (sym is) in
    let mapped : map f (take (p + 1) keys) ≡ map f (take p keys) ++ f key ∷ [] = ap (map f) more ∙
    map-append f (take p keys) (key ∷ []) in
    entry_put (map f (take p keys)) p (f key) len (omega arith) ∙
    ap (λ (front : List ℕ). front ++ replicate (8 - (p + 1)) 0) (sym mapped)
