-- A loop over two lists at once, as a list of pairs.
use Rattle.std.proofs.Common.{◌≡◌, ℕ, ◌+◌, ◌<◌, Bool, true, false, List, map, append-nil, [], ◌∷◌, ◌++◌, length, take, get_or, min, Option, Some, None, Bor, Iter, ap, ◌∙◌, sym, arith}
use Rattle.std.specs.List.{filter_map, zip}
use Rattle.std.specs.Iterator.{Yields}
use Rattle.std.specs.Iterator.Adapters.{zip_first, zip_second}
use Rattle.std.specs.Slice.Iter.{iter_rest}
use Rattle.std.specs.declared.iter.Zip.{Zip}
use Rattle.std.proofs.iter.Yields.{fronts}
use Rattle.std.proofs.lemmas.Iterator.{zips}
use Rattle.std.proofs.lemmas.List.{length_push, map-append, take_all, take_more}
use Rattle.std.proofs.lemmas.List.Elements.{filter_map-append}
use Rattle.std.proofs.lemmas.Slice.Zip.{get_or-zip, length-zip, zip_end, zip_turn}
use Rattle.metric_contents.specs.declared.contents.Key.{Key}
use Rattle.metric_lines.specs.Keys.{kept_name}
use Rattle.metric_family.specs.Labels.{label_of}

-- one pair more
pub pairs_turn : {A B : Type 0} (ks : List A) (vs : List B) (xs : List (Bor A × Bor B)) (s t u : Zip (Iter A) (Iter B)) (r : Option (Bor A × Bor B))
    → iter_rest (zip_first s) ≡ ks → iter_rest (zip_second s) ≡ vs → Yields (zips fronts fronts) s xs t → (p : Bor A × Bor B) → r ≡ Some p → zips fronts fronts t r u
    → take (length (xs ++ p ∷ [])) (zip ks vs) ≡ take (length xs) (zip ks vs) ++ (p.0.now, p.1.now) ∷ []
pairs_turn ks vs xs s t u r first second y p is steps =
    let turn = zip_turn ks vs xs s t u r first second y p is steps in
    let within : length xs < length (zip ks vs) = simp length-zip (omega (arith, turn.0, turn.1)) in
    ap (λ n. take n (zip ks vs)) (length_push xs p)
    ∙ take_more (zip ks vs) (length xs) (p.0.now, p.1.now) within
    ∙ ap (λ x. take (length xs) (zip ks vs) ++ x ∷ []) (get_or-zip ks vs (length xs) (p.0.now, p.1.now) turn.0 turn.1 ∙ same (get_or ks (length xs) p.0.now) (get_or vs (length xs) p.1.now) p.0.now p.1.now (turn.2 p.0.now) (turn.3 p.1.now))
  where
    same : {A B : Type 0} (a : A) (b : B) (x : A) (y : B) → x ≡ a → y ≡ b → ◌≡◌ {A = A × B} (a, b) (x, y)
    same a b x y e f = cc

-- what a loop makes of one pair more
pub mapped_more : {A B C : Type 0} (f : A × B → C) (before after : List (A × B)) (x : A × B) (old new : List C) (y : C)
    → after ≡ before ++ x ∷ [] → old ≡ map f before → new ≡ old ++ y ∷ [] → y ≡ f x → new ≡ map f after
mapped_more f before after x old new y pairs so_far pushed made =
    pushed ∙ ap (λ l. l ++ y ∷ []) so_far ∙ ap (λ z. map f before ++ z ∷ []) made ∙ sym (ap (map f) pairs ∙ map-append f before (x ∷ []))

-- all pairs
pub pairs_end : {A B : Type 0} (ks : List A) (vs : List B) (xs : List (Bor A × Bor B)) (s t u : Zip (Iter A) (Iter B)) (r : Option (Bor A × Bor B))
    → iter_rest (zip_first s) ≡ ks → iter_rest (zip_second s) ≡ vs → Yields (zips fronts fronts) s xs t → r ≡ None → zips fronts fronts t r u
    → take (length xs) (zip ks vs) ≡ zip ks vs
pairs_end ks vs xs s t u r first second y is steps =
    let n = zip_end ks vs xs s t u r first second y is steps in
    take_all (length xs) (zip ks vs) (simp length-zip (omega (arith, n)))

-- the labels of kept keys
abbrev pub labels_of : List (Key × Bool) → List (List ℕ)
labels_of pairs = map label_of (filter_map (λ x. kept_name x.0 x.1) pairs)

labels_append : (before : List (Key × Bool)) (key : Key × Bool) → labels_of (before ++ key ∷ []) ≡ labels_of before ++ labels_of (key ∷ [])
labels_append before key =
    ap (map label_of) (filter_map-append (λ x. kept_name x.0 x.1) before (key ∷ []))
    ∙ map-append label_of (filter_map (λ x. kept_name x.0 x.1) before) (filter_map (λ x. kept_name x.0 x.1) (key ∷ []))

-- one key more, where it is kept, and where it is not
pub labels_more : (before after : List (Key × Bool)) (key : Key) (keep : Bool) (old new : List (List ℕ)) (label : List ℕ)
    → after ≡ before ++ (key, keep) ∷ [] → keep ≡ true → old ≡ labels_of before → new ≡ old ++ label ∷ [] → label ≡ label_of key.name → new ≡ labels_of after
labels_more before after key keep old new label pairs kept so_far pushed made =
    pushed
    ∙ ap (λ labels. labels ++ label ∷ []) so_far
    ∙ ap (λ x. labels_of before ++ x ∷ []) made
    ∙ sym (ap labels_of (pairs ∙ ap (λ (b : Bool). before ++ (key, b) ∷ []) kept) ∙ labels_append before (key, true))

pub labels_same : (before after : List (Key × Bool)) (key : Key) (keep : Bool) (old : List (List ℕ))
    → after ≡ before ++ (key, keep) ∷ [] → keep ≡ false → old ≡ labels_of before → old ≡ labels_of after
labels_same before after key keep old pairs left so_far =
    so_far
    ∙ sym (ap labels_of (pairs ∙ ap (λ (b : Bool). before ++ (key, b) ∷ []) left) ∙ labels_append before (key, false) ∙ append-nil (labels_of before))
