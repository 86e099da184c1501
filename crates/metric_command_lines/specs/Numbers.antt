-- The number that an option has.
use Rattle.std.specs.Prelude.{◌&&◌, ◌^◌, ℕ, Bool, true, List, [], ◌∷◌, Option, length}
use Rattle.std.specs.Prelude.{if◌then◌else◌, nat_lt}
use Rattle.std.specs.Char.{digit_value}
use Rattle.std.specs.Option.{option_map_or}
use Rattle.std.specs.Str.Parse.{digits_value, without_leading_plus}

abbrev pub all_digits : List ℕ → Bool
all_digits [] = true
all_digits (c ∷ cs) = nat_lt (digit_value c) 10 && all_digits cs

-- one decimal digit or more, and nothing else
abbrev pub is_numeral : List ℕ → Bool
is_numeral text = nat_lt 0 (length text) && all_digits text

-- the text is a number of 32 bits, with or without a plus before it
abbrev pub is_number : List ℕ → Bool
is_number text =
    is_numeral (without_leading_plus text)
    && nat_lt (digits_value 10 (without_leading_plus text)) (2 ^ 32)

-- that number, and 0 where the text is none
abbrev pub number_of : List ℕ → ℕ
number_of text = if is_number text then digits_value 10 (without_leading_plus text) else 0

-- the number of an option, and 0 where it has no text
abbrev pub number_in : Option (List ℕ) → ℕ
number_in read = option_map_or number_of read 0
