-- Laws of lists of which each element was made with those before it in sight.
use Rattle.std.proofs.Common.{◌≡◌, ℕ, ◌<◌, ◌≤◌, Bool, true, false, List, [], ◌∷◌, ◌++◌, length, take, get_or, Some, Result, Ok, slice_get, refl, sym, ap, subst, ◌∙◌, arith, nat_lt}
use Rattle.std.proofs.Math.Seq.{take-append_seam, get_or-append_seam}
use Rattle.std.proofs.lemmas.Bool.Decides.{nat_tests}
use Rattle.std.proofs.lemmas.List.{take-append-le, get_or_append_left, length-append}
use Rattle.std.proofs.lemmas.Option.{slice_get_within, slice_get-get_or, get_or_from_slice_get}
use Rattle.metric_base.specs.Steps.{with_next, each}
use Rattle.metric_base.specs.StepLaws.{after_ok, ok_is, in_turn_keeps}
use Rattle.metric_views.specs.Sound.{EachAt}

-- the fact holds of one more element at the end
pub EachAt-push : {Y : Type 0} (P : List Y → Y → Type 0) (ys : List Y) (y : Y) → EachAt P ys → P ys y → EachAt P (ys ++ y ∷ [])
EachAt-push P ys y all last k z e = by (nat_lt k (length ys)) refl
  where
    inside : k < length ys → slice_get ys k ≡ Some z
    inside h = slice_get-get_or ys k z h ∙ ap Some (sym (get_or_append_left ys (y ∷ []) z k h) ∙ get_or_from_slice_get (ys ++ y ∷ []) k z z e)

    by : (b : Bool) → nat_lt k (length ys) ≡ b → P (take k (ys ++ y ∷ [])) z
    by true h =
        let below : k < length ys = grind (arith, nat_tests) in
        let same = sym (take-append-le k ys (y ∷ []) (omega arith)) in
        subst (λ (before : List _). P before z) same (all k z (inside below))
    by false h =
        let within = slice_get_within (ys ++ y ∷ []) k z e in
        let long = length-append ys (y ∷ []) in
        let not_below : length ys ≤ k = grind (arith, nat_tests) in
        let here : k ≡ length ys = omega arith in
        let seam : get_or (ys ++ y ∷ []) (length ys) z ≡ y = get_or-append_seam ys y [] z in
        let moved : get_or (ys ++ y ∷ []) (length ys) z ≡ get_or (ys ++ y ∷ []) k z = ap (λ (n : ℕ). get_or (ys ++ y ∷ []) n z) (sym here) in
        let same : y ≡ z = sym seam ∙ moved ∙ get_or_from_slice_get (ys ++ y ∷ []) k z z e in
        let all_before : take (length ys) (ys ++ y ∷ []) ≡ ys = take-append_seam ys (y ∷ []) in
        subst (λ (n : ℕ). P (take n (ys ++ y ∷ [])) z) (sym here) (subst (λ (before : List _). P before z) (sym all_before) (subst (P ys) same last))

-- no element, so no fact to show
pub EachAt-empty : {Y : Type 0} (P : List Y → Y → Type 0) → EachAt P []
EachAt-empty P k y e = absurd cc

-- what each step gives of its element holds of each element in the end
pub each_made : {Y X E : Type 0} (P : List Y → Y → Type 0) (step : List Y → X → Result Y E) → ((before : List Y) (x : X) (y : Y) → step before x ≡ Ok y → P before y)
    → (before : List Y) (xs : List X) (ys : List Y) → each step before xs ≡ Ok ys → EachAt P before → EachAt P ys
each_made P step gives before xs ys e all = in_turn_keeps (EachAt P) (with_next step) keeps before xs ys e all
  where
    keeps : (s : List _) (x : _) (t : List _) → with_next step s x ≡ Ok t → EachAt P s → EachAt P t
    keeps s x t made so_far =
        after_ok (step s x) _ t made (λ y is last. subst (EachAt P) (ok_is (s ++ y ∷ []) t (Ok (s ++ y ∷ [])) refl last) (EachAt-push P s y so_far (gives s x y is)))
