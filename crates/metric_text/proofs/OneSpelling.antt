-- Each text and each value has one spelling at most.
use Rattle.std.proofs.Common.{drop, ◌≡◌, ℕ, false, List, [], ◌∷◌, ◌++◌, sym, ap, ◌∙◌}
use Rattle.std.specs.List.{flat_map}
use Rattle.metric_names.specs.declared.value.AttrValue.{AttrValue}
use Rattle.metric_text.specs.Written.{escape, quoted, value_text, IsValue}
use Rattle.metric_text.specs.Reading.{unquoted_in, value_in}
use Rattle.metric_text.specs.ReadingLaws.{pair_is}
use Rattle.metric_text.specs.QuoteLaws.{unquoted_in-text}
use Rattle.metric_text.specs.ValueLaws.{value_in-text}

-- Each value has exactly one spelling.
pub value_text-one : (v w : AttrValue) → IsValue v → IsValue w → value_text v ≡ value_text w → v ≡ w
value_text-one v w fits also same =
    let left = value_in-text v [] fits tt in
    let right = value_in-text w [] also tt in
    let joint : value_in (value_text v ++ []) ≡ value_in (value_text w ++ []) = ap (λ xs. value_in (xs ++ [])) same in
    (pair_is v w [] [] (sym left ∙ joint ∙ right)).0

pub quoted-one : (text other : List ℕ) → quoted text ≡ quoted other → text ≡ other
quoted-one text other same =
    let left = unquoted_in-text text [] in
    let right = unquoted_in-text other [] in
    let joint : unquoted_in false (flat_map escape text ++ 34 ∷ []) ≡ unquoted_in false (flat_map escape other ++ 34 ∷ []) =
    ap (λ (xs : List ℕ). unquoted_in false (drop 1 xs)) same in
    (pair_is text other [] [] (sym left ∙ joint ∙ right)).0
