-- Whole numbers in decimal.
use Rattle.std.specs.Prelude.{ℕ, ℤ, ◌^◌, ◌&&◌, nat_lt, if◌then◌else◌, List, Option, Some, None}
use Rattle.std.specs.Fmt.{signed_decimal}
use Rattle.std.specs.Int.Signed.{mag}
use Rattle.std.specs.Str.{bytes_eq}
use Rattle.std.specs.Str.Parse.{signed_digits_value}

-- a text that is the decimal spelling of an i128
unfoldable pub wide_of : List ℕ → Option ℤ
wide_of text =
    if nat_lt (mag (signed_digits_value 10 text)) (2 ^ 127)
    && bytes_eq (signed_decimal (signed_digits_value 10 text)) text
    then Some (signed_digits_value 10 text) else None
