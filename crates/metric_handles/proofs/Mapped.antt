-- A test over things is the same test over what they give.
use Rattle.std.proofs.Common.{◌≡◌, ℕ, ◌+◌, Bool, true, false, cond, ◌||◌, List, [], ◌∷◌, map, Option, Some, find, refl, ap, ◌∙◌}
use Rattle.std.proofs.lemmas.List.Folds.{list_all-map}
use Rattle.std.specs.List.{list_any, position_from}
use Rattle.std.specs.Option.{option_map}
use Rattle.metric_contents.specs.declared.contents.Key.{Key}
use Rattle.metric_contents.specs.Encoding.{Given, entry_at, entry_of, entry_with, is_of}

pub list_any-map : {X Y : Type 0} (p : X → Bool) (h : Y → X) (ys : List Y) → list_any p (map h ys) ≡ list_any (λ y. p (h y)) ys
list_any-map p h [] = refl
list_any-map p h (y ∷ ys) = ap (λ b. p (h y) || b) (list_any-map p h ys)

pub position_from-map : {X Y : Type 0} (p : X → Bool) (h : Y → X) (at : ℕ) (ys : List Y) → position_from p at (map h ys) ≡ position_from (λ y. p (h y)) at ys
position_from-map p h at [] = refl
position_from-map p h at (y ∷ ys) = ap (λ later. cond (p (h y)) (Some at) later) (position_from-map p h (at + 1) ys)

find-map : {X Y : Type 0} (p : X → Bool) (h : Y → X) (ys : List Y) → find p (map h ys) ≡ option_map h (find (λ y. p (h y)) ys)
find-map p h [] = refl
find-map p h (y ∷ ys) = by (p (h y)) (find-map p h ys)
  where
    by : (b : Bool) → find p (map h ys) ≡ option_map h (find (λ z. p (h z)) ys) → cond b (Some (h y)) (find p (map h ys)) ≡ option_map h (cond b (Some y) (find (λ z. p (h z)) ys))
    by true e = refl
    by false e = e

-- the entry of a key by the first thing that gives the key
pub entry-map : {Y : Type 0} (h : Y → Given) (ys : List Y) (key : Key) → entry_at (map h ys) key ≡ entry_of key (option_map h (find (λ y. is_of key.name (h y)) ys))
entry-map h ys key = ap (entry_of key) (find-map (is_of key.name) h ys)

-- the same where it is found
pub entry-found : {Y : Type 0} (h : Y → Given) (ys : List Y) (key : Key) (y : Y) → find (λ z. is_of key.name (h z)) ys ≡ Some y → entry_at (map h ys) key ≡ entry_with key (h y).1
entry-found h ys key y e = entry-map h ys key ∙ ap (λ (o : Option _). entry_of key (option_map h o)) e

pub ruleset maps = (list_any-map, list_all-map, position_from-map, entry-map)
