-- the digits that are left, after the number so far, write what all write
use Rattle.std.proofs.Common.{◌<◌, ◌^◌}
use Rattle.std.specs.Str.Parse.{AllDigits, digits_value}
use Rattle.metric_cert.proofs.Digits.{DigitsLeft}
use Rattle.metric_cert.proofs.decimals.digits_value.Given as goal

abbrev pub invariant-loop-digit : goal.invariant-loop-digit
invariant-loop-digit l = AllDigits 10 l.digits → digits_value 10 l.digits < 2 ^ 128 → DigitsLeft l.digits l.number l.digit-index
