-- Attribute values: what is spelled is read, and what is read is spelled so.
use Rattle.std.proofs.Common.{w64, ◌≡◌, ℕ, Bool, true, false, ◌==◌, List, [], ◌∷◌, ◌++◌, Option}
use Rattle.std.proofs.Common.{Some, None, codes, ℤ, refl, sym, ap, subst, ◌∙◌, inl, inr, arith, ◌<◌}
use Rattle.std.proofs.Common.{lit<}
use Rattle.std.specs.Prelude.{FitsSigned, if◌then◌else◌, is_some}
use Rattle.std.specs.Fmt.{signed_decimal}
use Rattle.std.specs.Option.{option_map}
use Rattle.std.specs.Str.{bytes_eq}
use Rattle.std.proofs.lemmas.Bool.{false_from_ne_true}
use Rattle.std.proofs.lemmas.Bool.Decides.{eqb_tells}
use Rattle.std.proofs.lemmas.Slice.Eq.{bytes_eq-Decides}
use Rattle.metric_names.specs.declared.value.AttrValue.{AttrValue}
use Rattle.metric_names.specs.declared.value.AttrValue.TheVariants.{Text, Whole, Flag}
use Rattle.metric_text.specs.Written.{value_text, flag_text, IsValue}
use Rattle.metric_text.specs.Reading.{after_in, is_space, word_in, signed_of, text_in, bare_of}
use Rattle.metric_text.specs.Reading.{bare_in, quoted_value_in, value_in}
use Rattle.metric_text.specs.ReadingLaws.{after_some, pair_is, IsWordEnd, NonePass, word_in-append}
use Rattle.metric_text.specs.ReadingLaws.{word_in-whole, signed_decimal-no_space}
use Rattle.metric_text.specs.ReadingLaws.{signed_decimal-begins, signed_of-text, signed_of-some}
use Rattle.metric_text.specs.QuoteLaws.{text_in-text, text_in-some}

by_test : {A P : Type 0} (test : Bool) (x y r : A) → (if test then x else y) ≡ r
    → (test ≡ true → x ≡ r → P) → (y ≡ r → P) → P
by_test true x y r e yes_case no_case = yes_case refl e
by_test false x y r e yes_case no_case = no_case e

whole_of : {P : Type 0} (read : Option ℤ) (value : AttrValue) → option_map
    (λ number. Whole number) read ≡ Some value → ((z : ℤ) → read ≡ Some z → Whole z ≡ value → P) → P
whole_of None value e next = absurd cc
whole_of (Some z) value e next = next z refl cc

-- a spelled number is no word that begins with a letter
other_word : (z : ℤ) (letter : ℕ) (word : List ℕ) → FitsSigned w64 z → 57 < letter
    → bytes_eq (signed_decimal z) (letter ∷ word) ≡ false
other_word z letter word fits above =
    false_from_ne_true (bytes_eq (signed_decimal z) (letter ∷ word)) (λ test.
    let same : signed_decimal z ≡ letter ∷ word =
    (bytes_eq-Decides (signed_decimal z) (letter ∷ word)).0 test in
    let begins = signed_decimal-begins z fits in
    let first : begins.0 ≡ letter = cc (begins.2, same) in
    absurd (omega (arith, begins.3, first)))

no_quote : (z : ℤ) (rest : List ℕ) → FitsSigned w64 z
    → is_some (after_in (34 ∷ []) (signed_decimal z ++ rest)) ≡ false
no_quote z rest fits =
    let begins = signed_decimal-begins z fits in
    let other : (34 == begins.0) ≡ false = elim (eqb_tells 34 begins.0) [
      | inl same ↦ absurd (begins.4 (sym same.1))
      | inr apart ↦ apart.0
    ] in
    rw (begins.2, other) refl

bare_of-number : (z : ℤ) → FitsSigned w64 z → bare_of (signed_decimal z) ≡ Some (Whole z)
unfolding bare_of
bare_of-number z fits =
    rw (
      other_word z 116 (114 ∷ 117 ∷ 101 ∷ []) fits (lit< tt),
      other_word z 102 (97 ∷ 108 ∷ 115 ∷ 101 ∷ []) fits (lit< tt),
      signed_of-text z fits,
    ) refl

bare_of-flag : (flag : Bool) → bare_of (flag_text flag) ≡ Some (Flag flag)
unfolding bare_of
bare_of-flag true = refl
bare_of-flag false = refl

bare_of-some : (value : AttrValue) (word : List ℕ) → bare_of word ≡ Some value
    → IsValue value × (word ≡ value_text value)
unfolding bare_of
bare_of-some value word e =
    by_test (bytes_eq word (codes "true")) _ _ (Some value) e
    (λ test read. let v : Flag true ≡ value = cc in subst (λ v. IsValue v × (word ≡ value_text v)) v
    (tt, (bytes_eq-Decides word (codes "true")).0 test))
    (λ e. by_test (bytes_eq word (codes "false")) _ _ (Some value) e
    (λ test read. let v : Flag false ≡ value = cc in subst
    (λ v. IsValue v × (word ≡ value_text v)) v (tt, (bytes_eq-Decides word (codes "false")).0 test))
    (λ e. whole_of (signed_of word) value e (λ z number v.
    subst (λ v. IsValue v × (word ≡ value_text v)) v (signed_of-some z word number))))

bare_in-word : (value : AttrValue) (word rest : List ℕ) → NonePass is_space word → IsWordEnd rest
    → bare_of word ≡ Some value → bare_in (word ++ rest) ≡ Some (value, rest)
unfolding bare_in
bare_in-word value word rest none ends read = rw (word_in-append word rest none ends, read) refl

bare_in-some : (value : AttrValue) (bytes rest : List ℕ) → bare_in bytes ≡ Some (value, rest)
    → IsValue value × (bytes ≡ value_text value ++ rest)
unfolding bare_in
bare_in-some value bytes rest e =
    after_some (bare_of (word_in bytes).0) _ (value, rest) e (λ v read made.
    let parts = pair_is v value (word_in bytes).1 rest made in
    let word = bare_of-some v (word_in bytes).0 read in (
      subst IsValue parts.0 word.0,
      sym (word_in-whole bytes) ∙ ap (λ xs. xs ++ (word_in bytes).1)
          (word.1 ∙ ap value_text parts.0) ∙ ap (λ xs. value_text value ++ xs) parts.1,
    ))

pub value_in-text : (value : AttrValue) (rest : List ℕ) → IsValue value → IsWordEnd rest
    → value_in (value_text value ++ rest) ≡ Some (value, rest)
unfolding value_in quoted_value_in
value_in-text (Text text) rest utf8 ends = rw (text_in-text text rest utf8) refl
value_in-text (Whole z) rest fits ends =
    rw (no_quote z rest fits) (bare_in-word (Whole z) (signed_decimal z) rest
    (signed_decimal-no_space z fits) ends (bare_of-number z fits))
value_in-text (Flag true) rest fits ends =
    bare_in-word (Flag true) (codes "true") rest (refl, (refl, (refl, (refl, tt)))) ends
    (bare_of-flag true)
value_in-text (Flag false) rest fits ends =
    bare_in-word (Flag false) (codes "false") rest (refl, (refl, (refl, (refl, (refl, tt))))) ends
    (bare_of-flag false)

pub value_in-some : (value : AttrValue) (bytes rest : List ℕ) → value_in bytes ≡ Some (value, rest)
    → IsValue value × (bytes ≡ value_text value ++ rest)
unfolding value_in quoted_value_in
value_in-some value bytes rest e =
    by_test (is_some (after_in (34 ∷ []) bytes)) _ _ (Some (value, rest)) e
    (λ test read. after_some (text_in bytes) _ (value, rest) read (λ x found made.
    let parts = pair_is (Text x.0) value x.1 rest made in
    let text = text_in-some bytes x.0 x.1 found in (
      subst IsValue parts.0 text.0,
      text.1 ∙ ap (λ v. value_text v ++ x.1) parts.0 ∙ ap (λ xs. value_text value ++ xs) parts.1,
    )))
    (λ read. bare_in-some value bytes rest read)

-- what stands first is read so, with what follows
abbrev pub ReadsText : List ℕ → List ℕ → List ℕ → Type 0
ReadsText bytes text rest = text_in bytes ≡ Some (text, rest)

abbrev pub ReadsValue : List ℕ → AttrValue → List ℕ → Type 0
ReadsValue bytes value rest = value_in bytes ≡ Some (value, rest)
