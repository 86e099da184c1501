use Rattle.std.proofs.Common.{◌≡◌, ◌∙◌, ap, sym, subst, ℕ, ◌+◌, ◌<◌, List, [], ◌∷◌, ◌++◌, length, get_or, take, arith}
use Rattle.std.specs.List.{AllZip}
use Rattle.std.proofs.lemmas.List.{take_more}
use Rattle.metric_queries.specs.Remarks.{IsAsked}
use Rattle.metric_queries.proofs.asked.asked_of.Goals as goal

all_zip_push : {X Y : Type 0} (R : X → Y → Type 0) (xs : List X) (ys : List Y) (x : X) (y : Y) → AllZip R xs ys → R x y → AllZip R (xs ++ x ∷ []) (ys ++ y ∷ [])
all_zip_push R [] [] x y all one = (one, tt)
all_zip_push R [] (b ∷ ys) x y all one = absurd all
all_zip_push R (a ∷ xs) [] x y all one = absurd all
all_zip_push R (a ∷ xs) (b ∷ ys) x y all one = (all.0, all_zip_push R xs ys x y all.1 one)

pub loop-test-preserved : goal.loop-test-preserved
loop-test-preserved c =
    let tests = c.args.tests.now in
    let i = c.loop-test.test-index in
    let asked = c.in_ok-asked_by.field-0 in
    let more = sym (take_more tests i c.test-item.result c.loop-test-test.true) in
    let one = all_zip_push IsAsked (take i tests) c.loop-test.asked c.test-item.result asked c.loop-test.invariant c.in_ok-asked_by.ensures in
    subst (AllZip IsAsked (take (i + 1) tests)) (sym c.in_ok-push.ensures.ok) (subst (λ l. AllZip IsAsked l (c.loop-test.asked ++ asked ∷ [])) (ap (λ x. take i tests ++ x ∷ []) c.test-item.is ∙ more) one)
