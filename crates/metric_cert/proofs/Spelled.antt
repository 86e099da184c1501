-- Numbers of 128 bits, spelled and read.
use Rattle.std.proofs.Common.{◌≡◌, ℕ, ℤ, pos, negsuc, suc, ◌^◌, ◌<◌, ◌≤◌, ◌==◌, ◌&&◌, nat_lt, Bool, true, false, List, [], ◌∷◌, Option, Some, None, length, neg_ℤ, refl, sym, ap, subst, ◌∙◌, inl, inr, arith, eq-eqb, to_z, of_z, ◌≢◌}
use Rattle.std.specs.Prelude.{FitsSigned}
use Rattle.std.specs.Fmt.{decimal, signed_decimal}
use Rattle.std.specs.Int.Signed.{mag}
use Rattle.std.specs.Int.{w128}
use Rattle.std.specs.Int.{IsInRange}
use Rattle.std.specs.Str.{bytes_eq}
use Rattle.std.specs.Str.Parse.{digits_value, signed_digits_value, AllDigits}
use Rattle.std.proofs.lemmas.Bool.{and_parts}
use Rattle.std.proofs.lemmas.Bool.Decides.{eqb_tells, nat_tests}
use Rattle.std.proofs.lemmas.Int.{to_z-of_z}
use Rattle.std.proofs.lemmas.Fmt.{decimal_is_IsNumeral_wide}
use Rattle.std.proofs.lemmas.Slice.Eq.{bytes_eq-Decides}
use Rattle.std.proofs.lemmas.Str.Parse.{digit_from_value}
use Rattle.metric_text.specs.ReadingLaws.{none_from, some_when}
use Rattle.metric_cert.specs.Decimals.{wide_of}

-- the first of some digits is no sign
no_sign : (ds : List ℕ) → (0 < length ds) × AllDigits 10 ds → signed_digits_value 10 ds ≡ pos (digits_value 10 ds)
no_sign [] numeral = absurd (omega (arith, numeral.0))
no_sign (d ∷ more) numeral =
    let range : IsInRange 48 57 d = digit_from_value d numeral.1.0 in
    let minus : (d == 45) ≡ false = elim (eqb_tells d 45) [ inl same ↦ absurd (omega arith) | inr apart ↦ apart.0 ] in
    let plus : (d == 43) ≡ false = elim (eqb_tells d 43) [ inl same ↦ absurd (omega arith) | inr apart ↦ apart.0 ] in
    rw (minus, plus) refl

wide_value : (z : ℤ) → FitsSigned w128 z → signed_digits_value 10 (signed_decimal z) ≡ z
wide_value (pos n) fits =
    let numeral = decimal_is_IsNumeral_wide n (omega (arith, fits.sfits)) in
    no_sign (decimal n) numeral.0 ∙ ap pos numeral.1
wide_value (negsuc n) fits =
    let numeral = decimal_is_IsNumeral_wide (suc n) (omega (arith, fits.sfits)) in
    ap (λ (m : ℕ). neg_ℤ (pos m)) numeral.1

fits_test : (z : ℤ) → FitsSigned w128 z → nat_lt (mag z) (2 ^ 127) ≡ true
fits_test (pos n) fits = let small : n < 2 ^ 127 = omega (arith, fits.sfits) in grind (arith, nat_tests)
fits_test (negsuc n) fits = let small : n < 2 ^ 127 = omega (arith, fits.sfits) in grind (arith, nat_tests)

below_from_test : (n limit : ℕ) → nat_lt n limit ≡ true → n < limit
below_from_test n limit test = grind (arith, nat_tests)

fits_from_test : (z : ℤ) → nat_lt (mag z) (2 ^ 127) ≡ true → FitsSigned w128 z
fits_from_test (pos n) test = let small = below_from_test n (2 ^ 127) test in record { sfits = omega arith }
fits_from_test (negsuc n) test = let small = below_from_test n (2 ^ 127) test in record { sfits = omega arith }

pub wide_of-text : (z : ℤ) → FitsSigned w128 z → wide_of (signed_decimal z) ≡ Some z
unfolding wide_of
wide_of-text z fits =
    let read = wide_value z fits in
    let small : nat_lt (mag z) (2 ^ 127) ≡ true = fits_test z fits in
    let same : bytes_eq (signed_decimal z) (signed_decimal z) ≡ true = (bytes_eq-Decides (signed_decimal z) (signed_decimal z)).1 refl in
    rw (read, small, same) refl

wide_of-some : (z : ℤ) (text : List ℕ) → wide_of text ≡ Some z → FitsSigned w128 z × (text ≡ signed_decimal z)
unfolding wide_of
wide_of-some z text e =
    let value = signed_digits_value 10 text in
    let held = some_when (nat_lt (mag value) (2 ^ 127) && bytes_eq (signed_decimal value) text) value z e in
    let tests = and_parts (nat_lt (mag value) (2 ^ 127)) (bytes_eq (signed_decimal value) text) held.0 in
    let same : signed_decimal value ≡ text = (bytes_eq-Decides (signed_decimal value) text).0 tests.1 in
    (subst (FitsSigned w128) held.1 (fits_from_test value tests.0), sym same ∙ ap signed_decimal held.1)

-- where the only number that a text can spell is not spelled so, the text spells none
pub wide_of-other : (text : List ℕ) (found : Option ℤ) → ((z : ℤ) → FitsSigned w128 z → text ≡ signed_decimal z → found ≡ Some z)
    → ((z : ℤ) → found ≡ Some z → text ≡ signed_decimal z → ⊥) → wide_of text ≡ None
wide_of-other text found only other =
    none_from (wide_of text) (λ z e.
    let spelled = wide_of-some z text e in
    other z (only z spelled.0 spelled.1) spelled.1)

pub wide_of-same : (z : ℤ) (text : List ℕ) → FitsSigned w128 z → text ≡ signed_decimal z → wide_of text ≡ Some z
wide_of-same z text fits same = subst (λ xs. wide_of xs ≡ Some z) (sym same) (wide_of-text z fits)

-- what the digits of a number are
pub decimal_value : (n limit : ℕ) (digits : List ℕ) → n < limit → limit ≤ 2 ^ 128 → digits ≡ decimal n → AllDigits 10 digits × (digits_value 10 digits ≡ n)
decimal_value n limit digits below small same =
    let numeral = decimal_is_IsNumeral_wide n (omega arith) in
    (subst (AllDigits 10) (sym same) numeral.0.1, ap (digits_value 10) same ∙ numeral.1)

-- a spelled number has a first character
pub spelled_is_long : (z : ℤ) (text : List ℕ) → FitsSigned w128 z → text ≡ signed_decimal z → text ≡ [] → ⊥
spelled_is_long (pos n) text fits same none =
    let numeral = decimal_is_IsNumeral_wide n (omega (arith, fits.sfits)) in
    let long : length (decimal n) ≡ 0 = ap length (sym same ∙ none) in
    omega (arith, numeral.0.0)
spelled_is_long (negsuc n) text fits same none = cc

-- the first of some digits is no minus
first_is_digit : (d : ℕ) (rest digits : List ℕ) → digits ≡ d ∷ rest → AllDigits 10 digits → (d == 45) ≡ false
first_is_digit d rest digits same all =
    let shown : AllDigits 10 (d ∷ rest) = subst (AllDigits 10) same all in
    let range : IsInRange 48 57 d = digit_from_value d shown.0 in
    elim (eqb_tells d 45) [ inl equal ↦ absurd (omega arith) | inr apart ↦ apart.0 ]

-- what follows a minus is read as the digits of a negative number
pub spelled_negative : (z : ℤ) (text rest : List ℕ) (first : ℕ) (found : Option ℤ) → FitsSigned w128 z → text ≡ signed_decimal z → text ≡ first ∷ rest
    → first ≡ 45 → ((n : ℕ) → n < 2 ^ 127 → rest ≡ decimal (suc n) → found ≡ Some (negsuc n)) → found ≡ Some z
spelled_negative (pos n) text rest first found fits same parts minus read =
    let numeral = decimal_is_IsNumeral_wide n (omega (arith, fits.sfits)) in
    let other = first_is_digit first rest (decimal n) (sym same ∙ parts) numeral.0.1 in
    let equal = eq-eqb first 45 minus in
    absurd cc
spelled_negative (negsuc n) text rest first found fits same parts minus read =
    let digits : rest ≡ decimal (suc n) = cc in
    read n (omega (arith, fits.sfits)) digits

-- a text without a minus is read as digits
pub spelled_positive : (z : ℤ) (text rest : List ℕ) (first : ℕ) (found : Option ℤ) → FitsSigned w128 z → text ≡ signed_decimal z → text ≡ first ∷ rest
    → first ≢ 45 → ((n : ℕ) → n < 2 ^ 127 → text ≡ decimal n → found ≡ Some (pos n)) → found ≡ Some z
spelled_positive (pos n) text rest first found fits same parts plain read = read n (omega (arith, fits.sfits)) same
spelled_positive (negsuc n) text rest first found fits same parts plain read =
    let minus : first ≡ 45 = cc in absurd (plain minus)

-- a number that is printed as the text
pub printed_same : (text printed : List ℕ) (number : ℤ) → FitsSigned w128 number → printed ≡ signed_decimal (to_z w128 (of_z w128 number)) → true ≡ bytes_eq printed text
    → ◌≡◌ {A = Option ℤ} (Some (to_z w128 (of_z w128 number))) (wide_of text)
printed_same text printed number fits is test =
    let equal : printed ≡ text = (bytes_eq-Decides printed text).0 (sym test) in
    let held = to_z-of_z w128 number fits in
    rw held (sym (wide_of-same number text fits (sym equal ∙ is ∙ ap signed_decimal held)))

signed_same : (y z : ℤ) → ◌≡◌ {A = Option ℤ} (Some y) (Some z) → y ≡ z
signed_same y z e = cc

-- a number that is printed otherwise
pub printed_other : (text printed : List ℕ) (number : ℤ) → ((z : ℤ) → FitsSigned w128 z → text ≡ signed_decimal z → ◌≡◌ {A = Option ℤ} (Some number) (Some z))
    → printed ≡ signed_decimal (to_z w128 (of_z w128 number)) → false ≡ bytes_eq printed text → ◌≡◌ {A = Option ℤ} None (wide_of text)
printed_other text printed number only is test =
    sym (none_from (wide_of text) (λ z e.
    let spelled = wide_of-some z text e in
    let same : number ≡ z = signed_same number z (only z spelled.0 spelled.1) in
    let held = to_z-of_z w128 z spelled.0 in
    let equal : printed ≡ text = is ∙ ap (λ (y : ℤ). signed_decimal (to_z w128 (of_z w128 y))) same ∙ ap signed_decimal held ∙ sym spelled.1 in
    let shown : bytes_eq printed text ≡ true = (bytes_eq-Decides printed text).1 equal in
    absurd cc))
