-- the digits are those of the number without its sign
use Rattle.std.proofs.Common.{◌≡◌, ◌^◌, suc, Some, ap, ◌∙◌, arith, lit≤}
use Rattle.std.proofs.lemmas.Int.{ints}
use Rattle.metric_cert.proofs.Digits.{none_never, some_same}
use Rattle.metric_cert.proofs.Spelled.{decimal_value}
use Rattle.metric_cert.proofs.decimals.negative_value.Goals as goal

pub returns-in_err-digits_value : goal.returns-in_err-digits_value
returns-in_err-digits_value c = λ n below same.
    let held = decimal_value (suc n) (2 ^ 128) c.args.digits.now (omega arith) (lit≤ tt) same in
    none_never _ (c.in_err-digits_value.ensures held.0 (let value = held.1 in omega arith))

pub returns-in_err-less : goal.returns-in_err-less
returns-in_err-less c = λ n below same.
    let held = decimal_value (suc n) (2 ^ 128) c.args.digits.now (omega arith) (lit≤ tt) same in
    let value = held.1 in
    let is : c.in_ok-digits_value.field-0 ≡ suc n = some_same _ _ (c.in_ok-digits_value.ensures held.0 (omega arith)) ∙ held.1 in
    absurd (c.in_err-less.ensures (omega arith))

pub returns-then-less : goal.returns-then-less
returns-then-less c = λ n below same.
    let held = decimal_value (suc n) (2 ^ 128) c.args.digits.now (omega arith) (lit≤ tt) same in
    let value = held.1 in
    let is : c.in_ok-digits_value.field-0 ≡ suc n = some_same _ _ (c.in_ok-digits_value.ensures held.0 (omega arith)) ∙ held.1 in
    let less = c.in_ok-less.ensures.1 in
    let rest : c.in_ok-less.less ≡ n = omega arith in
    ap (λ z. Some z) (omega (arith, ints))

pub returns-else-less : goal.returns-else-less
returns-else-less c = λ n below same.
    let held = decimal_value (suc n) (2 ^ 128) c.args.digits.now (omega arith) (lit≤ tt) same in
    let value = held.1 in
    let is : c.in_ok-digits_value.field-0 ≡ suc n = some_same _ _ (c.in_ok-digits_value.ensures held.0 (omega arith)) ∙ held.1 in
    let less = c.in_ok-less.ensures.1 in
    absurd (omega arith)
