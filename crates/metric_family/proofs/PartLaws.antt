-- Parts that are written one after the other.
use Rattle.std.proofs.Common.{◌≡◌, ℕ, Bool, true, false, cond, not, ◌==◌, List, [], ◌∷◌, ◌++◌, filter, length, refl, sym, ap, ◌∙◌, arith}
use Rattle.std.specs.List.{list_any, slice_split}
use Rattle.std.specs.Str.{bytes_eq}
use Rattle.std.proofs.lemmas.Bool.Decides.{nat_tests}
use Rattle.std.proofs.lemmas.List.Elements.{filter-append}
use Rattle.metric_family.specs.Families.{named_parts}
use Rattle.metric_family.specs.Units.{is_brace, main_words, per_words, side, trimmed, unit_parts}
use Rattle.metric_family.specs.Words.{is_among, is_between, is_some, joined, with_part, with_parts, without, words}

pub parts_append : (out : List ℕ) (parts others : List (List ℕ)) → with_parts out (parts ++ others) ≡ with_parts (with_parts out parts) others
parts_append out [] others = refl
parts_append out (part ∷ parts) others = parts_append (with_part out part) parts others

some_is : (c : ℕ) (text : List ℕ) → (length (c ∷ text) == 0) ≡ false
some_is c text = grind (arith, nat_tests)

-- No part is empty.
none_empty : (parts : List (List ℕ)) → without [] (filter is_some parts) ≡ filter is_some parts
none_empty [] = refl
none_empty ([] ∷ parts) = none_empty parts
none_empty ((c ∷ part) ∷ parts) = rw (some_is c part) (ap (λ (others : List (List ℕ)). (c ∷ part) ∷ others) (none_empty parts))

pub without_none : (text : List ℕ) → without [] (words text) ≡ words text
unfolding words
without_none text = none_empty (slice_split is_between text)

-- a side of a unit that is no remark
pub side_is : (named : List ℕ → List ℕ) (text : List ℕ) → list_any is_brace text ≡ false → side named text ≡ with_parts [] (without [] (words (named (trimmed text))))
unfolding side joined
side_is named text e = ap (λ b. cond b [] (with_parts [] (words (named (trimmed text))))) e ∙ ap (with_parts []) (sym (without_none (named (trimmed text))))

split_pair : (test : List ℕ → Bool) (a b : List ℕ) → filter test (filter is_some (a ∷ b ∷ [])) ≡ filter test (filter is_some (a ∷ [])) ++ filter test (filter is_some (b ∷ []))
split_pair test a b = by (is_some a)
  where
    rest : List (List ℕ)
    rest = filter is_some (b ∷ [])

    kept : (q : Bool) → cond q (a ∷ filter test rest) (filter test rest) ≡ cond q (a ∷ []) [] ++ filter test rest
    kept true = refl
    kept false = refl

    by : (s : Bool) → filter test (cond s (a ∷ rest) rest) ≡ filter test (cond s (a ∷ []) []) ++ filter test rest
    by true = kept (test a)
    by false = refl

-- the words of a name, and then the parts of a unit, one after the other
pub named_written : (out other name unit : List ℕ)
    → with_parts out (without other (named_parts name unit))
    ≡ with_parts (with_parts (with_parts out (without other (words name)))
    (without other (filter (λ part. not (is_among (words name) part)) (filter is_some (main_words unit ∷ [])))))
    (without other (filter (λ part. not (is_among (words name) part)) (filter is_some (per_words unit ∷ []))))
unfolding named_parts unit_parts
named_written out other name unit =
    let test : List ℕ → Bool = λ part. not (is_among (words name) part) in
    let apart : List ℕ → Bool = λ part. not (bytes_eq part other) in
    let main = filter test (filter is_some (main_words unit ∷ [])) in
    let per = filter test (filter is_some (per_words unit ∷ [])) in
    ap (λ (parts : List (List ℕ)). with_parts out (filter apart (words name ++ parts))) (split_pair test (main_words unit) (per_words unit))
    ∙ ap (with_parts out) (filter-append apart (words name) (main ++ per))
    ∙ parts_append out (filter apart (words name)) (filter apart (main ++ per))
    ∙ ap (with_parts (with_parts out (filter apart (words name)))) (filter-append apart main per)
    ∙ parts_append (with_parts out (filter apart (words name))) (filter apart main) (filter apart per)
