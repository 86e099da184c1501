-- Numbers of options, as std and clap read them.
use Rattle.std.proofs.Common.{◌≡◌, ◌<◌, ◌^◌, ℕ, Bool, true, false, List, [], ◌∷◌, Result, Ok, Err, Decides, cond, length, refl}
use Rattle.std.proofs.lemmas.Bool.Decides.{Decides-and, Decides-ltb}
use Rattle.std.specs.Char.{digit_value}
use Rattle.std.specs.Result.{result_unwrap_or}
use Rattle.std.specs.Str.Parse.{AllDigits, IsNumeral, ParsesUnsigned, digits_value, without_leading_plus}
use Rattle.metric_command_lines.specs.Numbers.{all_digits, is_number, number_of}

digits : (text : List ℕ) → Decides (all_digits text) (AllDigits 10 text)
digits [] = (λ _. tt, λ _. refl)
digits (c ∷ cs) = Decides-and _ _ (Decides-ltb (digit_value c) 10) (digits cs)

number : (text : List ℕ)
    → Decides (is_number text) (IsNumeral 10 (without_leading_plus text) × (digits_value 10 (without_leading_plus text) < 2 ^ 32))
number text =
    let plain = without_leading_plus text in
    Decides-and _ _ (Decides-and _ _ (Decides-ltb 0 (length plain)) (digits plain)) (Decides-ltb (digits_value 10 plain) (2 ^ 32))

-- what `parse` makes of a text is its number
pub parsed : {E : Type 0} (text : List ℕ) (r : Result ℕ E) → ParsesUnsigned 32 10 text r → result_unwrap_or r 0 ≡ number_of text
parsed text (Ok n) (holds, is) = rw ((number text).1 holds) is
parsed text (Err e) fails = go (is_number text) refl
  where
    go : (b : Bool) → is_number text ≡ b → 0 ≡ cond b (digits_value 10 (without_leading_plus text)) 0
    go true is = absurd (fails ((number text).0 is))
    go false is = refl
