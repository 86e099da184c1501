-- What is spelled is read, and what is read is spelled so.
use Rattle.std.proofs.Common.{
  w64,
  ◌≡◌,
  ◌≢◌,
  ℕ,
  ◌<◌,
  ◌≤◌,
  ◌^◌,
  Bool,
  true,
  false,
  ◌&&◌,
  ◌==◌,
  nat_lt,
  List,
  [],
  ◌∷◌,
  ◌++◌,
  Option,
  Some,
  None,
  length,
  ℤ,
  pos,
  negsuc,
  neg_ℤ,
  suc,
  refl,
  sym,
  ap,
  subst,
  ◌∙◌,
  ◌⊎◌,
  inl,
  inr,
  arith,
  lit≤,
}
use Rattle.std.specs.Prelude.{FitsSigned, if◌then◌else◌}
use Rattle.std.specs.Fmt.{decimal, signed_decimal}
use Rattle.std.specs.Int.Signed.{mag}
use Rattle.std.specs.Int.{IsInRange}
use Rattle.std.specs.Option.{option_map_or}
use Rattle.std.specs.Str.{bytes_eq}
use Rattle.std.specs.Str.Parse.{digits_value, signed_digits_value, AllDigits}
use Rattle.std.proofs.lemmas.Bool.{and_parts}
use Rattle.std.proofs.lemmas.Bool.Decides.{eqb_tells, nat_tests}
use Rattle.std.proofs.lemmas.Fmt.{decimal_is_IsNumeral}
use Rattle.std.proofs.lemmas.Slice.Eq.{bytes_eq-Decides}
use Rattle.std.proofs.lemmas.Str.Parse.{digit_from_value}
use Rattle.metric_text.specs.Reading.{◌>>=◌, after_in, is_space, split_before, word_in, number_of}
use Rattle.metric_text.specs.Reading.{signed_of, number_in, signed_in}

-- a test that decided for a value
pub some_when : {A : Type 0} (test : Bool) (x y : A) → (if test then Some x else None) ≡ Some y
    → (test ≡ true) × (x ≡ y)
some_when true x y e = (refl, cc)
some_when false x y e = absurd cc

pub pair_is : {A B : Type 0} (a c : A) (b d : B)
    → ◌≡◌ {A = Option (A × B)} (Some (a, b)) (Some (c, d)) → (a ≡ c) × (b ≡ d)
pair_is {A} {B} a c b d e = (
  ap (λ (o : Option (A × B)). option_map_or (λ p. p.0) o a) e,
  ap (λ (o : Option (A × B)). option_map_or (λ p. p.1) o b) e,
)

-- the value and the rest of a step that did not fail
pub after_some : {A B P : Type 0} (o : Option A) (f : A → Option B) (y : B) → (o >>= f) ≡ Some y
    → ((x : A) → o ≡ Some x → f x ≡ Some y → P) → P
after_some None f y e rest = absurd cc
after_some (Some x) f y e rest = rest x refl e

-- a step that never succeeds fails
pub none_from : {A : Type 0} (o : Option A) → ((x : A) → o ≡ Some x → ⊥) → o ≡ None
none_from None never = refl
none_from (Some x) never = absurd (never x refl)

-- Keywords

pub after_in-some : (keyword bytes rest : List ℕ) → after_in keyword bytes ≡ Some rest
    → bytes ≡ keyword ++ rest
after_in-some [] bytes rest e = cc
after_in-some (c ∷ keyword) [] rest e = absurd cc
after_in-some (c ∷ keyword) (b ∷ bytes) rest e =
    elim (eqb_tells c b) [
      | inl same ↦
          let read = rw same.0 at e in
          let more = after_in-some keyword bytes rest read in
          let first = same.1 in cc
      | inr other ↦ let read = rw other.0 at e in absurd cc
    ]

-- Words

-- no byte of the word passes
abbrev pub NonePass : (ℕ → Bool) → List ℕ → Type 0
NonePass passes [] = Unit {0}
NonePass passes (b ∷ word) = (passes b ≡ false) × NonePass passes word

-- the first byte passes, or there is none
abbrev pub BeginsWith : (ℕ → Bool) → List ℕ → Type 0
BeginsWith passes [] = Unit {0}
BeginsWith passes (b ∷ bytes) = passes b ≡ true

-- where a word ends: at a space or at the line's end
abbrev pub IsWordEnd : List ℕ → Type 0
IsWordEnd rest = BeginsWith is_space rest

split_before-append : (passes : ℕ → Bool) (front rest : List ℕ) → NonePass passes front
    → BeginsWith passes rest → split_before passes (front ++ rest) ≡ (front, rest)
split_before-append passes [] [] none begins = refl
split_before-append passes [] (b ∷ rest) none begins = rw begins refl
split_before-append passes (b ∷ front) rest none begins =
    rw (none.0, split_before-append passes front rest none.1 begins) refl

joined_either : (test : Bool) (x y : List ℕ × List ℕ) (whole : List ℕ) → x.0 ++ x.1 ≡ whole
    → y.0 ++ y.1 ≡ whole → (if test then x else y).0 ++ (if test then x else y).1 ≡ whole
joined_either true x y whole left right = left
joined_either false x y whole left right = right

split_before-whole : (passes : ℕ → Bool) (bytes : List ℕ)
    → (split_before passes bytes).0 ++ (split_before passes bytes).1 ≡ bytes
split_before-whole passes [] = refl
split_before-whole passes (b ∷ bytes) =
    joined_either (passes b) ([], b ∷ bytes)
    (b ∷ (split_before passes bytes).0, (split_before passes bytes).1) (b ∷ bytes)
    refl (ap (λ xs. b ∷ xs) (split_before-whole passes bytes))

pub word_in-append : (word rest : List ℕ) → NonePass is_space word → IsWordEnd rest
    → word_in (word ++ rest) ≡ (word, rest)
word_in-append word rest = split_before-append is_space word rest

pub word_in-whole : (bytes : List ℕ) → (word_in bytes).0 ++ (word_in bytes).1 ≡ bytes
word_in-whole bytes = split_before-whole is_space bytes

-- Numbers

digits_without : (b : ℕ) (ds : List ℕ) → 57 < b ⊎ b < 48 → AllDigits 10 ds
    → NonePass (λ d. d == b) ds
digits_without b [] out digits = tt
digits_without b (d ∷ ds) out digits =
    let range : IsInRange 48 57 d = digit_from_value d digits.0 in
    let other : (d == b) ≡ false = elim (eqb_tells d b) [
      | inl same ↦ absurd
          (elim out [ inl above ↦ omega arith | inr below ↦ omega arith ])
      | inr apart ↦ apart.0
    ] in
    (other, digits_without b ds out digits.1)

decimal-no_space : (n : ℕ) → n < 2 ^ 64 → NonePass is_space (decimal n)
decimal-no_space n small =
    digits_without 32 (decimal n) (inr (omega arith)) (decimal_is_IsNumeral n small).0.1

pub signed_decimal-no_space : (z : ℤ) → FitsSigned w64 z → NonePass is_space (signed_decimal z)
signed_decimal-no_space (pos n) fits = decimal-no_space n (omega (arith, fits.sfits))
signed_decimal-no_space (negsuc n) fits =
    (refl, decimal-no_space (suc n) (omega (arith, fits.sfits)))

digits_begin : (ds : List ℕ) → (0 < length ds) × AllDigits 10 ds
    → (d : ℕ) × (more : List ℕ) × (ds ≡ d ∷ more) × (d ≤ 57) × (d ≢ 34)
digits_begin [] numeral = absurd (omega (arith, numeral.0))
digits_begin (d ∷ more) numeral =
    let range : IsInRange 48 57 d = digit_from_value d numeral.1.0 in
    (d, more, refl, range.1, λ e. absurd (omega arith))

-- a spelled number begins with a digit or with `-`, and so with no quote and no letter
pub signed_decimal-begins : (z : ℤ) → FitsSigned w64 z
    → (d : ℕ) × (more : List ℕ) × (signed_decimal z ≡ d ∷ more) × (d ≤ 57) × (d ≢ 34)
signed_decimal-begins (pos n) fits =
    digits_begin (decimal n) (decimal_is_IsNumeral n (omega (arith, fits.sfits))).0
signed_decimal-begins (negsuc n) fits =
    (45, decimal (suc n), refl, lit≤ tt, λ e. absurd (omega (arith, e)))

pub number_of-text : (limit n : ℕ) → n < limit → limit ≤ 2 ^ 64
    → number_of limit (decimal n) ≡ Some n
unfolding number_of
number_of-text limit n below small =
    let read : digits_value 10 (decimal n) ≡ n = (decimal_is_IsNumeral n (omega arith)).1 in
    let fits : nat_lt n limit ≡ true = grind (arith, nat_tests) in
    let same : bytes_eq (decimal n) (decimal n) ≡ true =
    (bytes_eq-Decides (decimal n) (decimal n)).1 refl in
    rw (read, fits, same) refl

pub number_of-some : (limit n : ℕ) (word : List ℕ) → number_of limit word ≡ Some n
    → (n < limit) × (word ≡ decimal n)
unfolding number_of
number_of-some limit n word e =
    let value = digits_value 10 word in
    let held = some_when (nat_lt value limit && bytes_eq (decimal value) word) value n e in
    let tests = and_parts (nat_lt value limit) (bytes_eq (decimal value) word) held.0 in
    let same : decimal value ≡ word = (bytes_eq-Decides (decimal value) word).0 tests.1 in
    let below : value < limit = (let t = tests.0 in grind (arith, nat_tests)) in
    (let e2 = held.1 in omega arith, sym same ∙ ap decimal held.1)

digits_front : (ds : List ℕ) → (0 < length ds) × AllDigits 10 ds
    → signed_digits_value 10 ds ≡ pos (digits_value 10 ds)
digits_front [] numeral = absurd (omega (arith, numeral.0))
digits_front (d ∷ more) numeral =
    let range : IsInRange 48 57 d = digit_from_value d numeral.1.0 in
    let minus : (d == 45) ≡ false =
    elim (eqb_tells d 45) [ inl same ↦ absurd (omega arith) | inr apart ↦ apart.0 ] in
    let plus : (d == 43) ≡ false =
    elim (eqb_tells d 43) [ inl same ↦ absurd (omega arith) | inr apart ↦ apart.0 ] in
    rw (minus, plus) refl

signed_digits_value-decimal : (z : ℤ) → FitsSigned w64 z
    → signed_digits_value 10 (signed_decimal z) ≡ z
signed_digits_value-decimal (pos n) fits =
    let numeral = decimal_is_IsNumeral n (omega (arith, fits.sfits)) in
    digits_front (decimal n) numeral.0 ∙ ap pos numeral.1
signed_digits_value-decimal (negsuc n) fits =
    let numeral = decimal_is_IsNumeral (suc n) (omega (arith, fits.sfits)) in
    ap (λ m. neg_ℤ (pos m)) numeral.1

fits_test : (z : ℤ) → FitsSigned w64 z → nat_lt (mag z) (2 ^ 63) ≡ true
fits_test (pos n) fits =
    let small : n < 2 ^ 63 = omega (arith, fits.sfits) in grind (arith, nat_tests)
fits_test (negsuc n) fits =
    let small : n < 2 ^ 63 = omega (arith, fits.sfits) in grind (arith, nat_tests)

below_from_test : (n limit : ℕ) → nat_lt n limit ≡ true → n < limit
below_from_test n limit test = grind (arith, nat_tests)

fits_from_test : (z : ℤ) → nat_lt (mag z) (2 ^ 63) ≡ true → FitsSigned w64 z
fits_from_test (pos n) test =
    let small = below_from_test n (2 ^ 63) test in record { sfits = omega arith }
fits_from_test (negsuc n) test =
    let small = below_from_test n (2 ^ 63) test in record { sfits = omega arith }

pub signed_of-text : (z : ℤ) → FitsSigned w64 z → signed_of (signed_decimal z) ≡ Some z
unfolding signed_of
signed_of-text z fits =
    let read = signed_digits_value-decimal z fits in
    let small : nat_lt (mag z) (2 ^ 63) ≡ true = fits_test z fits in
    let same : bytes_eq (signed_decimal z) (signed_decimal z) ≡ true =
    (bytes_eq-Decides (signed_decimal z) (signed_decimal z)).1 refl in
    rw (read, small, same) refl

pub signed_of-some : (z : ℤ) (word : List ℕ) → signed_of word ≡ Some z
    → FitsSigned w64 z × (word ≡ signed_decimal z)
unfolding signed_of
signed_of-some z word e =
    let value = signed_digits_value 10 word in
    let held =
    some_when (nat_lt (mag value) (2 ^ 63) && bytes_eq (signed_decimal value) word) value z e in
    let tests =
    and_parts (nat_lt (mag value) (2 ^ 63)) (bytes_eq (signed_decimal value) word) held.0 in
    let same : signed_decimal value ≡ word =
    (bytes_eq-Decides (signed_decimal value) word).0 tests.1 in (
      subst (FitsSigned w64) held.1 (fits_from_test value tests.0),
      sym same
          ∙ ap signed_decimal held.1,
    )

pub number_in-text : (limit n : ℕ) (rest : List ℕ) → n < limit → limit ≤ 2 ^ 64 → IsWordEnd rest
    → number_in limit (decimal n ++ rest) ≡ Some (n, rest)
unfolding number_in
number_in-text limit n rest below small ends =
    rw (
      word_in-append (decimal n) rest (decimal-no_space n (omega arith)) ends,
      number_of-text limit n below small,
    ) refl

pub number_in-some : (limit n : ℕ) (bytes rest : List ℕ) → number_in limit bytes ≡ Some (n, rest)
    → (n < limit) × (bytes ≡ decimal n ++ rest)
unfolding number_in
number_in-some limit n bytes rest e =
    after_some (number_of limit (word_in bytes).0) _ (n, rest) e (λ m read made.
    let parts = pair_is m n (word_in bytes).1 rest made in
    let word = number_of-some limit m (word_in bytes).0 read in (
      let same = parts.0 in let below = word.0 in omega arith,
      sym (word_in-whole bytes) ∙ ap (λ xs. xs ++ (word_in bytes).1) (word.1 ∙ ap decimal parts.0)
          ∙ ap (λ xs. decimal n ++ xs) parts.1,
    ))

pub signed_in-text : (z : ℤ) (rest : List ℕ) → FitsSigned w64 z → IsWordEnd rest
    → signed_in (signed_decimal z ++ rest) ≡ Some (z, rest)
unfolding signed_in
signed_in-text z rest fits ends =
    rw (
      word_in-append (signed_decimal z) rest (signed_decimal-no_space z fits) ends,
      signed_of-text z fits,
    ) refl

pub signed_in-some : (z : ℤ) (bytes rest : List ℕ) → signed_in bytes ≡ Some (z, rest)
    → FitsSigned w64 z × (bytes ≡ signed_decimal z ++ rest)
unfolding signed_in
signed_in-some z bytes rest e =
    after_some (signed_of (word_in bytes).0) _ (z, rest) e (λ y read made.
    let parts = pair_is y z (word_in bytes).1 rest made in
    let word = signed_of-some y (word_in bytes).0 read in (
      subst (FitsSigned w64) parts.0 word.0,
      sym (word_in-whole bytes) ∙ ap (λ xs. xs ++ (word_in bytes).1)
          (word.1 ∙ ap signed_decimal parts.0) ∙ ap (λ xs. signed_decimal z ++ xs) parts.1,
    ))
