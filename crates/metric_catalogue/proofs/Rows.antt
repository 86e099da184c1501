-- Whether a list of whole numbers is a row, told key by key.
use Rattle.std.proofs.Common.{◌≡◌, ◌≢◌, ℕ, ◌+◌, ◌-◌, ◌<◌, ◌≤◌, ℤ, Bool, true, false, ◌&&◌, cond, List, [], ◌∷◌, ◌++◌, length, map, drop, take, replicate, get_or, Some, None, unsigned_abs, refl, sym, ap, ◌∙◌, arith}
use Rattle.std.proofs.lemmas.List.{at_drop_more, drop_all, length-map, take_all}
use Rattle.metric_contents.specs.declared.contents.Key.{Key}
use Rattle.metric_catalogue.specs.Allowed.{is_entry_of, is_row, row_set}

-- a list of another length is none
pub unlike : (keys : List Key) (entries : List ℤ) → length entries ≢ length keys → is_row keys entries ≡ false
unlike [] [] other = absurd (other refl)
unlike [] (x ∷ xs) other = refl
unlike (key ∷ keys) [] other = refl
unlike (key ∷ keys) (x ∷ xs) other = at (is_entry_of key x) (unlike keys xs (λ same. other (omega arith)))
  where
    at : (b : Bool) → is_row keys xs ≡ false → (b && is_row keys xs) ≡ false
    at true e = e
    at false e = refl

-- what is found to be an entry is one
pub entry_is : (b : Bool) (z n : ℕ) → Some n ≡ cond b (Some z) None → (b ≡ true) × (n ≡ z)
entry_is true z n e = (refl, cc)
entry_is false z n e = absurd cc

-- what is left of a row, at its first entry
pub row_at : {X : Type 0} (f : X → ℤ) (keys : List Key) (xs : List X) (p : ℕ) (key : Key) (x : X) → p < length keys → p < length xs → key ≡ get_or keys p key → x ≡ get_or xs p x
    → is_row (drop p keys) (map f (drop p xs)) ≡ (is_entry_of key (f x) && is_row (drop (p + 1) keys) (map f (drop (p + 1) xs)))
row_at {X} f keys xs p key x within inside is_key is_x =
    at_drop_more (λ (ks : List Key). is_row ks (map f (drop p xs))) keys p key within
    ∙ ap (λ (k : Key). is_row (k ∷ drop (p + 1) keys) (map f (drop p xs))) (sym is_key)
    ∙ at_drop_more (λ (ys : List X). is_row (key ∷ drop (p + 1) keys) (map f ys)) xs p x inside
    ∙ ap (λ (y : X). is_row (key ∷ drop (p + 1) keys) (map f (y ∷ drop (p + 1) xs))) (sym is_x)

-- after all keys of a row
pub row_end : {X : Type 0} (f : X → ℤ) (keys : List Key) (xs : List X) (p : ℕ) → length xs ≡ length keys → length keys ≤ p → is_row (drop p keys) (map f (drop p xs)) ≡ true
row_end {X} f keys xs p same end =
    ap (λ (ks : List Key). is_row ks (map f (drop p xs))) (drop_all p keys end)
    ∙ ap (λ (ys : List X). is_row [] (map f ys)) (drop_all p xs (omega arith))

map_twice : {X Y Z : Type 0} (g : Y → Z) (f : X → Y) (xs : List X) → map (λ x. g (f x)) xs ≡ map g (map f xs)
map_twice g f [] = refl
map_twice g f (x ∷ xs) = ap (λ (zs : List _). g (f x) ∷ zs) (map_twice g f xs)

-- the entries of all keys are the set key of the row
pub entries_end : {X : Type 0} (f : X → ℤ) (xs : List X) (p : ℕ) → length xs ≡ p → map (λ x. unsigned_abs (f x)) (take p xs) ++ replicate (8 - p) 0 ≡ row_set (map f xs)
entries_end {X} f xs p long =
    let entries : map (λ x. unsigned_abs (f x)) (take p xs) ≡ map unsigned_abs (map f xs)
    = ap (λ (ys : List X). map (λ x. unsigned_abs (f x)) ys) (take_all p xs (omega arith)) ∙ map_twice unsigned_abs f xs in
    let count : p ≡ length (map f xs) = sym long ∙ sym (length-map xs f) in
    ap (λ (front : List ℕ). front ++ replicate (8 - p) 0) entries ∙ ap (λ (n : ℕ). map unsigned_abs (map f xs) ++ replicate (8 - n) 0) count
