-- Digits that are read one after the other.
use Rattle.std.proofs.Common.{◌≡◌, ℕ, ◌+◌, ◌*◌, ◌^◌, ◌<◌, ◌≤◌, List, [], ◌∷◌, length, get_or, drop, Option, Some, None, arith, ap, subst, sym, ◌∙◌}
use Rattle.std.specs.Char.{digit_value}
use Rattle.std.specs.Str.Parse.{AllDigits, digits_value_after}
use Rattle.std.proofs.lemmas.List.{drop_more}

-- more digits write no smaller number
after_grows : (n : ℕ) (digits : List ℕ) → n ≤ digits_value_after 10 n digits
after_grows n [] = omega arith
after_grows n (d ∷ digits) = omega (arith, after_grows (n * 10 + digit_value d) digits)

-- The next of the digits that are left.
pub record NextDigit (digits : List ℕ) (i n digit limit : ℕ) : Type 0 where
  pub is_digit : digit_value digit < 10
  pub fits : n * 10 + digit_value digit < limit
  pub left : AllDigits 10 (drop (i + 1) digits)
  pub value : digits_value_after 10 (n * 10 + digit_value digit) (drop (i + 1) digits) ≡ digits_value_after 10 n (drop i digits)

pub next_digit : (digits : List ℕ) (i n limit : ℕ) → i < length digits → AllDigits 10 (drop i digits) → digits_value_after 10 n (drop i digits) < limit
    → NextDigit digits i n (get_or digits i 0) limit
next_digit digits i n limit within all small =
    let parts = drop_more digits i 0 within in
    let shown : AllDigits 10 (get_or digits i 0 ∷ drop (i + 1) digits) = subst (AllDigits 10) parts all in
    let same = ap (digits_value_after 10 n) parts in
    record {
      is_digit = shown.0;
      fits = omega (arith, after_grows (n * 10 + digit_value (get_or digits i 0)) (drop (i + 1) digits), same);
      left = shown.1;
      value = sym same;
    }

-- what is left of the digits, after the number so far
pub record DigitsLeft (digits : List ℕ) (number i : ℕ) : Type 0 where
  pub value : digits_value_after 10 number (drop i digits) ≡ digits_value_after 10 0 digits
  pub left : AllDigits 10 (drop i digits)

pub digits_left : (digits : List ℕ) (number i made : ℕ) → DigitsLeft digits number i → NextDigit digits i number (get_or digits i 0) (2 ^ 128)
    → made ≡ number * 10 + digit_value (get_or digits i 0) → DigitsLeft digits made (i + 1)
digits_left digits number i made old next is =
    subst (λ (m : ℕ). DigitsLeft digits m (i + 1)) (sym is) (record { value = next.value ∙ old.value; left = next.left })

-- an answer, where there is one answer only
pub some_same : (x y : ℕ) → ◌≡◌ {A = Option ℕ} (Some x) (Some y) → x ≡ y
some_same x y e = cc

pub none_never : {P : Type 0} (y : ℕ) → ◌≡◌ {A = Option ℕ} None (Some y) → P
none_never y e = absurd cc
