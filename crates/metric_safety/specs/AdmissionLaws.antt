-- Recordings that an instrument admits.
use Rattle.std.proofs.Common.{◌≡◌, ℕ, Bool, true, ◌&&◌, List, [], ◌∷◌, ◌++◌, length, ap, ◌∙◌}
use Rattle.std.specs.Prelude.{◌==◌}
use Rattle.std.proofs.lemmas.List.Folds.{list_all-append}
use Rattle.metric_history.specs.declared.entry.Entry.{Entry}
use Rattle.metric_facts.specs.declared.facts.Facts.{Facts}
use Rattle.metric_facts.specs.Facts.{in_bounds, is_allowed_set}
use Rattle.metric_safety.specs.SafeFacts.{are_admitted, is_admitted}

pub admitted : (facts : Facts) (entry : Entry) → length entry.set ≡ 8
    → is_allowed_set facts entry.set ≡ true → in_bounds facts entry.value ≡ true
    → is_admitted facts entry ≡ true
admitted facts entry eight allowed within =
    ap
    (λ (n : ℕ). (n == 8) && (is_allowed_set facts entry.set && in_bounds facts entry.value)) eight
    ∙ ap (λ (b : Bool). b && in_bounds facts entry.value) allowed
    ∙ within

-- and one more
pub admitted_more : (facts : Facts) (journal : List Entry) (entry : Entry)
    → are_admitted facts journal ≡ true → is_admitted facts entry ≡ true
    → are_admitted facts (journal ++ entry ∷ []) ≡ true
admitted_more facts journal entry before one =
    list_all-append (is_admitted facts) journal (entry ∷ [])
    ∙ ap (λ (b : Bool). b && (is_admitted facts entry && true)) before
    ∙ ap (λ (b : Bool). b && true) one
