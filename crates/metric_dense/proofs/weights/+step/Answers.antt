-- the last entry is stepped, and the others where it was the last one
use Rattle.std.proofs.Common.{◌∙◌, ℕ, List, [], ◌∷◌, ◌++◌, ap, arith, true, false, sym}
use Rattle.metric_dense.specs.Steps.{stepped}
use Rattle.metric_dense.proofs.StepLaws.{step_is}
use Rattle.metric_dense.proofs.weights.+step.Goals as goal

pub returns-then-is_end : goal.returns-then-is_end
returns-then-is_end t c =
    ap (λ (xs : List ℕ). xs ++ c.entry_after.result ∷ []) c.step.ensures
    ∙ ap (λ (n : ℕ). stepped c.in-Some.kept.now c.in-Some-split_last.keys.now c.in-Some-split_last_mut.rest.now ++ n ∷ []) c.entry_after.ensures
    ∙ step_is c.args.kept.now c.args.keys.now c.args.set.now c.in-Some.kept.now c.in-Some.flag.now c.in-Some-split_last.keys.now c.in-Some-split_last.key.now
    c.in-Some-split_last_mut.rest.now c.in-Some-split_last_mut.last.now c.in-Some.ensures.cases.0 c.in-Some-split_last.ensures.cases.0 c.in-Some-split_last_mut.ensures.cases.0
    (omega (arith, c.requires.flags, c.in-Some.ensures.cases.1, c.in-Some-split_last.ensures.cases.1))
    (omega (arith, c.requires.places, c.in-Some-split_last_mut.ensures.cases.1, c.in-Some-split_last.ensures.cases.1))
    true (sym c.is_last-is_end.ensures ∙ c.if-is_end.true)

pub returns-else-is_end : goal.returns-else-is_end
returns-else-is_end t c =
    ap (λ (n : ℕ). c.in-Some-split_last_mut.rest.now ++ n ∷ []) c.entry_after.ensures
    ∙ step_is c.args.kept.now c.args.keys.now c.args.set.now c.in-Some.kept.now c.in-Some.flag.now c.in-Some-split_last.keys.now c.in-Some-split_last.key.now
    c.in-Some-split_last_mut.rest.now c.in-Some-split_last_mut.last.now c.in-Some.ensures.cases.0 c.in-Some-split_last.ensures.cases.0 c.in-Some-split_last_mut.ensures.cases.0
    (omega (arith, c.requires.flags, c.in-Some.ensures.cases.1, c.in-Some-split_last.ensures.cases.1))
    (omega (arith, c.requires.places, c.in-Some-split_last_mut.ensures.cases.1, c.in-Some-split_last.ensures.cases.1))
    false (sym c.is_last-is_end.ensures ∙ c.if-is_end.false)
