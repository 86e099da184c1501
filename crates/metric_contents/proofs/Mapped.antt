-- A test over the attributes is the same test over what they give.
use Rattle.std.proofs.lemmas.List.{length-append, length-replicate, length-take}
use Rattle.std.proofs.Common.{◌≡◌, ℕ, ◌+◌, ◌-◌, ◌<◌, ◌++◌, length, min, take}
use Rattle.std.proofs.Common.{replicate, arith, Bool, true, false}
use Rattle.std.proofs.Common.{cond, ◌||◌, List, [], ◌∷◌, map, Option, Some, find, refl, sym, ap}
use Rattle.std.proofs.Common.{◌∙◌}
use Rattle.std.proofs.lemmas.List.Folds.{list_all-map}
use Rattle.std.specs.List.{list_any}
use Rattle.std.specs.Option.{option_map}
use Rattle.metric_contents.specs.declared.contents.Key.{Key}
use Rattle.metric_contents.specs.Encoding.{Given, entry_at, entry_of, entry_with, is_of}

pub list_any-map : {X Y : Type 0} (p : X → Bool) (h : Y → X) (ys : List Y)
    → list_any p (map h ys) ≡ list_any (λ y. p (h y)) ys
list_any-map p h [] = refl
list_any-map p h (y ∷ ys) = ap (λ b. p (h y) || b) (list_any-map p h ys)

find-map : {X Y : Type 0} (p : X → Bool) (h : Y → X) (ys : List Y)
    → find p (map h ys) ≡ option_map h (find (λ y. p (h y)) ys)
find-map p h [] = refl
find-map p h (y ∷ ys) = by (p (h y)) (find-map p h ys)
  where
    by : (b : Bool) → find p (map h ys) ≡ option_map h (find (λ z. p (h z)) ys)
        → cond b (Some (h y)) (find p (map h ys)) ≡ option_map h
        (cond b (Some y) (find (λ z. p (h z)) ys))
    by true e = refl
    by false e = e

pub entry-map : {Y : Type 0} (h : Y → Given) (ys : List Y) (key : Key)
    → entry_at (map h ys) key ≡ entry_of key (option_map h (find (λ y. is_of key.name (h y)) ys))
entry-map h ys key = ap (entry_of key) (find-map (is_of key.name) h ys)

-- the entry of a key that an attribute gives a value
pub entry-found : {Y : Type 0} (h : Y → Given) (ys : List Y) (key : Key) (y : Y)
    → find (λ z. is_of key.name (h z)) ys ≡ Some y
    → entry_at (map h ys) key ≡ entry_with key (h y).1
entry-found h ys key y e = entry-map h ys key ∙
    ap (λ (o : Option _). entry_of key (option_map h o)) e

-- as many entries as there are places before those that are left
pub entries_before : (set : List ℕ) (p : ℕ) → p < 8 → set ≡ take p set ++ replicate (8 - p) 0
    → (length set ≡ 8) × (length (take p set) ≡ p)
entries_before set p within e =
    let zeros : List ℕ = replicate (8 - p) 0 in
    let all : length set ≡ length (take p set) + length zeros = ap length e ∙
    length-append (take p set) zeros in
    let left : length zeros ≡ 8 - p = length-replicate {A = ℕ} (8 - p) 0 in
    let before : length (take p set) ≡ min p (length set) = length-take p set in
    (omega (arith, all, left, before), omega (arith, all, left, before))

pub ruleset maps = (list_any-map, list_all-map, entry-map)
