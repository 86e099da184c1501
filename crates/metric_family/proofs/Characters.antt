-- Which characters words, families and labels have.
use Rattle.std.proofs.Common.{◌≡◌, ℕ, zero, suc, ◌<◌, Bool, true, false, cond, not, ◌&&◌, List, [], ◌∷◌, ◌++◌, filter, refl, ◌∙◌, arith}
use Rattle.std.specs.Prelude.{IsUtf8}
use Rattle.std.specs.Char.{is_ascii_alphanumeric, is_ascii_digit}
use Rattle.std.specs.List.{after_first, before_first, list_all, list_any, onto_first, slice_split}
use Rattle.std.specs.Str.{IsAscii, bytes_eq}
use Rattle.std.proofs.lemmas.Bool.Decides.{nat_tests}
use Rattle.std.proofs.lemmas.List.Folds.{list_all-append}
use Rattle.std.proofs.lemmas.Str.{IsUtf8-from_ascii}
use Rattle.metric_views.specs.declared.stream.Stream.{Stream}
use Rattle.metric_family.specs.Families.{family, family_parts, is_ratio, left_out, named_parts, ratio_parts, type_of, unless_digit}
use Rattle.metric_family.specs.Grammar.{is_label_character}
use Rattle.metric_family.specs.Units.{after_per, is_brace, is_slash, main_words, per_name, per_words, side, trimmed, unit_name, unit_parts}
use Rattle.metric_family.specs.Words.{is_among, is_between, is_some, joined, with_part, with_parts, words}

-- all characters of a text may stand in a label
abbrev pub Plain : List ℕ → Type 0
Plain text = list_all is_label_character text ≡ true

abbrev pub AllPlain : List (List ℕ) → Type 0
AllPlain parts = list_all (list_all is_label_character) parts ≡ true

pub and_first : (a b : Bool) → (a && b) ≡ true → a ≡ true
and_first true b e = refl
and_first false b e = e

pub and_second : (a b : Bool) → (a && b) ≡ true → b ≡ true
and_second true b e = e
and_second false b e = absurd cc

pub and_both : (a b : Bool) → a ≡ true → b ≡ true → (a && b) ≡ true
and_both a b e f = rw e f

pub plain_letter : (c : ℕ) → is_ascii_alphanumeric c ≡ true → is_label_character c ≡ true
plain_letter c e = rw e refl

plain_onto : (c : ℕ) (parts : List (List ℕ)) → is_label_character c ≡ true → AllPlain parts → AllPlain (onto_first c parts)
plain_onto c [] h e = rw h refl
plain_onto c (part ∷ parts) h e = rw h e

plain_split : (text : List ℕ) → AllPlain (slice_split is_between text)
plain_split [] = refl
plain_split (c ∷ text) = by (is_ascii_alphanumeric c) refl (plain_split text)
  where
    by : (b : Bool) → is_ascii_alphanumeric c ≡ b → AllPlain (slice_split is_between text)
        → AllPlain (cond (not b) ([] ∷ slice_split is_between text) (onto_first c (slice_split is_between text)))
    by true e h = plain_onto c (slice_split is_between text) (plain_letter c e) h
    by false e h = h

plain_filter : (test : List ℕ → Bool) (parts : List (List ℕ)) → AllPlain parts → AllPlain (filter test parts)
plain_filter test [] e = refl
plain_filter test (part ∷ parts) e = by (test part) (plain_filter test parts (and_second (list_all is_label_character part) _ e))
  where
    by : (b : Bool) → AllPlain (filter test parts) → AllPlain (cond b (part ∷ filter test parts) (filter test parts))
    by true h = and_both _ _ (and_first (list_all is_label_character part) _ e) h
    by false h = h

plain_words : (text : List ℕ) → AllPlain (words text)
unfolding words
plain_words text = plain_filter is_some (slice_split is_between text) (plain_split text)

plain_append : (parts others : List (List ℕ)) → AllPlain parts → AllPlain others → AllPlain (parts ++ others)
plain_append parts others e f = list_all-append (list_all is_label_character) parts others ∙ and_both _ _ e f

plain_part : (out part : List ℕ) → Plain out → Plain part → Plain (with_part out part)
plain_part [] part e f = f
plain_part (c ∷ out) part e f = list_all-append is_label_character (c ∷ out) (95 ∷ part) ∙ and_both _ _ e f

plain_parts : (out : List ℕ) (parts : List (List ℕ)) → Plain out → AllPlain parts → Plain (with_parts out parts)
plain_parts out [] e f = e
plain_parts out (part ∷ parts) e f =
    plain_parts (with_part out part) parts (plain_part out part e (and_first (list_all is_label_character part) _ f)) (and_second (list_all is_label_character part) _ f)

pub plain_joined : (parts : List (List ℕ)) → AllPlain parts → Plain (joined parts)
unfolding joined
plain_joined parts e = plain_parts [] parts refl e

plain_side : (named : List ℕ → List ℕ) (text : List ℕ) → Plain (side named text)
unfolding side
plain_side named text = by (list_any is_brace text)
  where
    by : (b : Bool) → Plain (cond b [] (joined (words (named (trimmed text)))))
    by true = refl
    by false = plain_joined (words (named (trimmed text))) (plain_words (named (trimmed text)))

plain_per : (text : List ℕ) → Plain text → Plain (after_per text)
plain_per [] e = refl
plain_per (c ∷ text) e = e

pub plain_units : (unit : List ℕ) → AllPlain (unit_parts unit)
unfolding unit_parts main_words per_words
plain_units unit =
    let main = before_first is_slash unit in
    let per = after_first is_slash unit in
    plain_filter is_some (side unit_name main ∷ (after_per (side per_name per) ∷ []))
    (and_both _ _ (plain_side unit_name main) (and_both _ _ (plain_per (side per_name per) (plain_side per_name per)) refl))

plain_named : (name unit : List ℕ) → AllPlain (named_parts name unit)
unfolding named_parts
plain_named name unit =
    let test : List ℕ → Bool = λ part. not (is_among (words name) part) in
    plain_append (words name) (filter test (unit_parts unit)) (plain_words name) (plain_filter test (unit_parts unit) (plain_units unit))

plain_ratio : (ratio : Bool) → AllPlain (ratio_parts ratio)
plain_ratio true = refl
plain_ratio false = refl

pub plain_family_parts : (stream : Stream) → AllPlain (family_parts stream)
unfolding family_parts
plain_family_parts stream =
    let other : List ℕ = left_out (type_of stream) (is_ratio stream) in
    let test : List ℕ → Bool = λ part. not (bytes_eq part other) in
    plain_append (filter test (named_parts stream.name stream.unit)) (ratio_parts (is_ratio stream))
    (plain_filter test (named_parts stream.name stream.unit) (plain_named stream.name stream.unit)) (plain_ratio (is_ratio stream))

pub plain_unless_digit : (name : List ℕ) → Plain name → Plain (unless_digit name)
plain_unless_digit [] e = refl
plain_unless_digit (c ∷ name) e = by (is_ascii_digit c)
  where
    by : (b : Bool) → Plain (cond b (95 ∷ c ∷ name) (c ∷ name))
    by true = e
    by false = e

-- such a text is UTF-8
small : (c : ℕ) → is_label_character c ≡ true → c < 128
small c e = grind (arith, nat_tests)

ascii_of : (text : List ℕ) → Plain text → IsAscii text
ascii_of [] e i = omega arith
ascii_of (c ∷ text) e zero = small c (and_first (is_label_character c) _ e)
ascii_of (c ∷ text) e (suc i) = ascii_of text (and_second (is_label_character c) _ e) i

pub utf8_of : (text : List ℕ) → Plain text → IsUtf8 text
utf8_of text e = IsUtf8-from_ascii text (ascii_of text e)
