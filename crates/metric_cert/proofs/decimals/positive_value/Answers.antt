-- the digits are those of the number
use Rattle.std.proofs.Common.{◌≡◌, ◌^◌, Some, pos, ap, ◌∙◌, arith, lit≤}
use Rattle.std.specs.Int.{w128}
use Rattle.std.proofs.lemmas.Int.{to_z_pos}
use Rattle.metric_cert.proofs.Digits.{none_never, some_same}
use Rattle.metric_cert.proofs.Spelled.{decimal_value}
use Rattle.metric_cert.proofs.decimals.positive_value.Goals as goal

pub returns-in_err-number : goal.returns-in_err-number
returns-in_err-number c = λ n below same.
    let held = decimal_value n (2 ^ 127) c.args.digits.now below (lit≤ tt) same in
    none_never _ (c.in_err-number.ensures held.0 (let value = held.1 in omega arith))

pub returns-then-number : goal.returns-then-number
returns-then-number c = λ n below same.
    let held = decimal_value n (2 ^ 127) c.args.digits.now below (lit≤ tt) same in
    let value = held.1 in
    let is : c.in_ok-number.number ≡ n = some_same _ _ (c.in_ok-number.ensures held.0 (omega arith)) ∙ held.1 in
    ap (λ z. Some z) (to_z_pos w128 c.in_ok-number.number (omega arith) ∙ ap pos is)

pub returns-else-number : goal.returns-else-number
returns-else-number c = λ n below same.
    let held = decimal_value n (2 ^ 127) c.args.digits.now below (lit≤ tt) same in
    let value = held.1 in
    let is : c.in_ok-number.number ≡ n = some_same _ _ (c.in_ok-number.ensures held.0 (omega arith)) ∙ held.1 in
    absurd (omega arith)
