-- the next digit of those that are left
use Rattle.std.proofs.Common.{◌^◌, arith, refl}
use Rattle.metric_cert.proofs.Digits.{digits_left, next_digit, none_never, some_same}
use Rattle.metric_cert.proofs.decimals.digits_value.Goals as goal

pub loop-digit-init : goal.loop-digit-init
loop-digit-init c = λ all small. record { value = refl; left = all }

pub returns-in_err-number : goal.returns-in_err-number
returns-in_err-number c = λ all small.
    let old = c.loop-digit.invariant all small in
    let next = next_digit c.args.digits.now c.loop-digit.digit-index c.loop-digit.number (2 ^ 128) c.loop-digit-test.true old.left (omega (arith, old.value, small)) in
    none_never _ (c.in_err-number.ensures next.is_digit next.fits)

pub loop-digit-preserved : goal.loop-digit-preserved
loop-digit-preserved c = λ all small.
    let old = c.loop-digit.invariant all small in
    let next = next_digit c.args.digits.now c.loop-digit.digit-index c.loop-digit.number (2 ^ 128) c.loop-digit-test.true old.left (omega (arith, old.value, small)) in
    let same = some_same _ _ (c.in_ok-number.ensures next.is_digit next.fits) in
    digits_left c.args.digits.now c.loop-digit.number c.loop-digit.digit-index c.in_ok-number.number old next same
