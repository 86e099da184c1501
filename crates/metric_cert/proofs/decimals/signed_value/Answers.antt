-- by the first character
use Rattle.std.proofs.Common.{◌≡◌, [], arith}
use Rattle.std.proofs.lemmas.Grind.{common_steps}
use Rattle.metric_cert.proofs.Spelled.{spelled_is_long, spelled_negative, spelled_positive}
use Rattle.metric_cert.proofs.decimals.signed_value.Goals as goal

pub returns-in_err-first : goal.returns-in_err-first
returns-in_err-first c = λ z fits same.
    let none : c.args.text.now ≡ [] = grind (arith, common_steps) in
    absurd (spelled_is_long z c.args.text.now fits same none)

pub returns-then-first-eq45 : goal.returns-then-first-eq45
returns-then-first-eq45 c = λ z fits same.
    spelled_negative z c.args.text.now c.in_ok-first.digits.now c.in_ok-first.first.now c.negative_value.result fits same c.in_ok-first.ensures.cases.0 c.if-first-eq45.true c.negative_value.ensures

pub returns-else-first-eq45 : goal.returns-else-first-eq45
returns-else-first-eq45 c = λ z fits same.
    spelled_positive z c.args.text.now c.in_ok-first.digits.now c.in_ok-first.first.now c.positive_value.result fits same c.in_ok-first.ensures.cases.0 c.if-first-eq45.false c.positive_value.ensures
