-- Words, cut at the first character that is none of theirs.
use Rattle.std.proofs.Common.{◌≡◌, ℕ, suc, ◌+◌, ◌<◌, Bool, true, false, cond, not, ◌&&◌, ◌||◌, List, [], ◌∷◌, length, take, drop, filter, Some, refl, sym, ap, ◌∙◌, arith, length-drop}
use Rattle.std.specs.List.{after_first, before_first, onto_first, position_from, position_or_len, slice_split}
use Rattle.std.specs.Option.{unwrap_or}
use Rattle.std.specs.Str.{bytes_eq}
use Rattle.metric_family.specs.Words.{is_among, is_between, is_some, with_parts, without, words}

-- the place at which a text is cut
place_from : (test : ℕ → Bool) (i : ℕ) (text : List ℕ) → unwrap_or (position_from test i text) (i + length text) ≡ i + position_or_len test text
place_from test i [] = refl
place_from test i (c ∷ text) = by (test c) (place_from test (i + 1) text)
  where
    by : (b : Bool) → unwrap_or (position_from test (i + 1) text) (i + 1 + length text) ≡ i + 1 + position_or_len test text
        → unwrap_or (cond b (Some i) (position_from test (i + 1) text)) (i + length (c ∷ text)) ≡ i + cond (not b) (1 + position_or_len test text) 0
    by true h = omega arith
    by false h =
        let long : i + length (c ∷ text) ≡ i + 1 + length text = omega arith in
        let more : i + 1 + position_or_len test text ≡ i + (1 + position_or_len test text) = omega arith in
        rw long (h ∙ more)

pub place_is : (test : ℕ → Bool) (text : List ℕ) → unwrap_or (position_from test 0 text) (length text) ≡ position_or_len test text
place_is test text =
    let start : 0 + length text ≡ length text = omega arith in
    let same : 0 + position_or_len test text ≡ position_or_len test text = omega arith in
    ap (unwrap_or (position_from test 0 text)) (sym start) ∙ place_from test 0 text ∙ same

pub after_shorter : (test : ℕ → Bool) (text : List ℕ) → 0 < length text → length (after_first test text) < length text
after_shorter test text some = omega (arith, length-drop (position_or_len test text + 1) text)

-- the parts after the first
abbrev rest_of : List ℕ → List (List ℕ)
rest_of [] = []
rest_of (c ∷ text) = cond (is_between c) (slice_split is_between text) (rest_of text)

split_is : (text : List ℕ) → slice_split is_between text ≡ before_first is_between text ∷ rest_of text
split_is [] = refl
split_is (c ∷ text) = by (is_between c) (split_is text)
  where
    by : (b : Bool) → slice_split is_between text ≡ before_first is_between text ∷ rest_of text
        → cond b ([] ∷ slice_split is_between text) (onto_first c (slice_split is_between text))
        ≡ take (cond (not b) (1 + position_or_len is_between text) 0) (c ∷ text) ∷ cond b (slice_split is_between text) (rest_of text)
    by true h = refl
    by false h =
        let more : 1 + position_or_len is_between text ≡ suc (position_or_len is_between text) = omega arith in
        rw more (ap (onto_first c) h)

rest_is : (text : List ℕ) → filter is_some (rest_of text) ≡ words (after_first is_between text)
unfolding words
rest_is [] = refl
rest_is (c ∷ text) = by (is_between c) (rest_is text)
  where
    by : (b : Bool) → filter is_some (rest_of text) ≡ filter is_some (slice_split is_between (after_first is_between text))
        → filter is_some (cond b (slice_split is_between text) (rest_of text))
        ≡ filter is_some (slice_split is_between (drop (cond (not b) (1 + position_or_len is_between text) 0 + 1) (c ∷ text)))
    by true h = refl
    by false h =
        let more : 1 + position_or_len is_between text + 1 ≡ suc (position_or_len is_between text + 1) = omega arith in
        rw more h

-- the first word, which may be empty, before the others
abbrev with_word : List ℕ → List (List ℕ) → List (List ℕ)
with_word word others = cond (is_some word) (word ∷ others) others

words_cut : (text : List ℕ) → words text ≡ with_word (before_first is_between text) (words (after_first is_between text))
unfolding words
words_cut text = ap (filter is_some) (split_is text) ∙ ap (with_word (before_first is_between text)) (rest_is text)

pub words_none : words [] ≡ []
unfolding words
words_none = refl

-- what one turn writes
pub words_turn : (out other text : List ℕ)
    → with_parts out (without other (words text))
    ≡ with_parts (with_parts out (without other (filter is_some (before_first is_between text ∷ [])))) (without other (words (after_first is_between text)))
words_turn out other text = rw (words_cut text) (by (before_first is_between text) (words (after_first is_between text)))
  where
    by : (word : List ℕ) (others : List (List ℕ))
        → with_parts out (without other (with_word word others)) ≡ with_parts (with_parts out (without other (cond (is_some word) (word ∷ []) []))) (without other others)
    by word others = cases (is_some word) (bytes_eq word other) refl
      where
        cases : (s b : Bool) → bytes_eq word other ≡ b → with_parts out (without other (cond s (word ∷ others) others))
            ≡ with_parts (with_parts out (without other (cond s (word ∷ []) []))) (without other others)
        cases true true same = rw same refl
        cases true false same = rw same refl
        cases false b same = refl

-- what one turn looks for
pub among_turn : (text part : List ℕ)
    → is_among (words text) part ≡ ((is_some (before_first is_between text) && bytes_eq part (before_first is_between text)) || is_among (words (after_first is_between text)) part)
among_turn text part = rw (words_cut text) (by (is_some (before_first is_between text)))
  where
    by : (s : Bool) → is_among (cond s (before_first is_between text ∷ words (after_first is_between text)) (words (after_first is_between text))) part
        ≡ ((s && bytes_eq part (before_first is_between text)) || is_among (words (after_first is_between text)) part)
    by true = refl
    by false = refl

-- where nothing is left
pub empty_is : (text : List ℕ) → length text ≡ 0 → text ≡ []
empty_is [] e = refl
empty_is (c ∷ text) e = absurd (omega arith)
