-- The refusals of one instrument more.
use Rattle.std.proofs.Common.{◌≡◌, ℕ, ◌+◌, ◌<◌, List, ◌∷◌, ◌++◌, length, get_or, drop, add-one, drop-cons, ap, sym, ◌∙◌}
use Rattle.std.proofs.lemmas.List.{append_assoc}
use Rattle.metric_handles.specs.Counts.{CountsValue}
use Rattle.metric_handles.specs.Refused.{refusals_from, refusals_on}
use Rattle.metric_handles.specs.declared.refused.Refused.{Refused}

-- what is done and what is left give what all gives
pub one_instrument_more : (n : ℕ) (xs : List CountsValue) (x : CountsValue) (all now next : List Refused)
    → n < length xs → x ≡ get_or xs n x → now ++ refusals_from n (drop n xs) ≡ all
    → next ≡ now ++ refusals_on n x
    → next ++ refusals_from (n + 1) (drop (n + 1) xs) ≡ all
one_instrument_more n xs x all now next within is before after =
    let rest = refusals_from (n + 1) (drop (n + 1) xs) in
    let left : drop n xs ≡ x ∷ drop (n + 1) xs =
    drop-cons xs n x within ∙ (λ j. sym is j ∷ drop (sym (add-one n) j) xs) in
    ap (λ (ys : List Refused). ys ++ rest) after ∙ append_assoc now (refusals_on n x) rest
    ∙ ap (λ (ys : List CountsValue). now ++ refusals_from n ys) (sym left) ∙ before
