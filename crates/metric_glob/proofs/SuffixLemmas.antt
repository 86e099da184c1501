-- What is left of a pattern against what is left of a text, place by place.
use Rattle.std.proofs.Common.{◌≡◌, ◌||◌, ◌&&◌, ℕ, zero, suc, ◌+◌, ◌<◌, ◌≤◌, Bool, true, false, List, [], ◌∷◌, length, get_or, drop, eqb, refl, sym, ◌∙◌, inl, inr, arith}
use Rattle.std.proofs.lemmas.Bool.{or_cases, or_left, or_right, and_parts, true≢false, cases_lt, eq-eqb, ne_eqb}
use Rattle.std.proofs.lemmas.List.{drop_more, drop_all}
use Rattle.metric_glob.specs.Matching.{takes_any, stands_for, any_suffix, is_empty, is_match, IsStarAt, StandsAt}
use Rattle.metric_glob.specs.MatchingLaws.{is_match-nil, is_match-any, is_match-one}
use Rattle.metric_glob.specs.Walk.{rest_matches}

-- a test that passes on a text passes on one of its suffixes
pub any_suffix-here : (test : List ℕ → Bool) (text : List ℕ) → test text ≡ true → any_suffix test text ≡ true
any_suffix-here test [] passes = passes
any_suffix-here test (x ∷ xs) passes = or_left (test (x ∷ xs)) (any_suffix test xs) passes

-- a suffix of a suffix is a suffix
pub any_suffix-drop : (test : List ℕ → Bool) (k : ℕ) (text : List ℕ) → any_suffix test (drop k text) ≡ true → any_suffix test text ≡ true
any_suffix-drop test zero text passes = passes
any_suffix-drop test (suc k) [] passes = passes
any_suffix-drop test (suc k) (x ∷ xs) passes = or_right (test (x ∷ xs)) (any_suffix test xs) (any_suffix-drop test k xs passes)

pub any_suffix-twice : (test : List ℕ → Bool) (text : List ℕ) → any_suffix (any_suffix test) text ≡ true → any_suffix test text ≡ true
any_suffix-twice test [] passes = passes
any_suffix-twice test (x ∷ xs) passes =
    elim (or_cases (any_suffix test (x ∷ xs)) (any_suffix (any_suffix test) xs) passes) [
      | inl here ↦ here
      | inr later ↦ or_right (test (x ∷ xs)) (any_suffix test xs) (any_suffix-twice test xs later)
    ]

-- the same of two tests that agree
pub any_suffix-like : (test other : List ℕ → Bool) (text : List ℕ) → ((s : List ℕ) → test s ≡ true → other s ≡ true) → any_suffix test text ≡ true → any_suffix other text ≡ true
any_suffix-like test other [] like passes = like [] passes
any_suffix-like test other (x ∷ xs) like passes =
    elim (or_cases (test (x ∷ xs)) (any_suffix test xs) passes) [
      | inl here ↦ or_left (other (x ∷ xs)) (any_suffix other xs) (like (x ∷ xs) here)
      | inr later ↦ or_right (other (x ∷ xs)) (any_suffix other xs) (any_suffix-like test other xs like later)
    ]

-- one more place of the text
pub any_suffix-more : (test : List ℕ → Bool) (at : ℕ) (text : List ℕ) → at < length text
    → any_suffix test (drop at text) ≡ (test (drop at text) || any_suffix test (drop (at + 1) text))
any_suffix-more test at text h = rw (drop_more text at 0 h)

-- A character that stands for one takes one from each suffix.
pub any_suffix-one : (c : ℕ) (cs text : List ℕ) → takes_any c ≡ false → any_suffix (is_match (c ∷ cs)) text ≡ true
    → any_suffix (is_match cs) (drop 1 text) ≡ true
any_suffix-one c cs [] one passes = absurd (true≢false (sym passes ∙ is_match-one c cs [] one))
any_suffix-one c cs (x ∷ xs) one passes =
    elim (or_cases (is_match (c ∷ cs) (x ∷ xs)) (any_suffix (is_match (c ∷ cs)) xs) passes) [
      | inl here ↦
          let both = and_parts (stands_for c x) (is_match cs xs) (sym (is_match-one c cs (x ∷ xs) one) ∙ here) in
          any_suffix-here (is_match cs) xs both.1
      | inr later ↦ any_suffix-drop (is_match cs) 1 xs (any_suffix-one c cs xs one later)
    ]

-- at a `*`
pub is_match-any_at : (pattern text : List ℕ) (place : ℕ) → IsStarAt pattern place
    → is_match (drop place pattern) text ≡ any_suffix (is_match (drop (place + 1) pattern)) text
is_match-any_at pattern text place star =
    rw (drop_more pattern place 0 star.within) (is_match-any (get_or pattern place 0) (drop (place + 1) pattern) text star.any)

pub rest_any : (pattern text : List ℕ) (place at : ℕ) → IsStarAt pattern place
    → rest_matches pattern text place at ≡ any_suffix (is_match (drop (place + 1) pattern)) (drop at text)
rest_any pattern text place at star = is_match-any_at pattern (drop at text) place star

pub rest_any_more : (pattern text : List ℕ) (place at : ℕ) → IsStarAt pattern place → at < length text
    → rest_matches pattern text place at ≡ (rest_matches pattern text (place + 1) at || rest_matches pattern text place (at + 1))
rest_any_more pattern text place at star h =
    rw (rest_any pattern text place (at + 1) star) (rest_any pattern text place at star ∙ any_suffix-more (is_match (drop (place + 1) pattern)) at text h)

pub rest_any_end : (pattern text : List ℕ) (place at : ℕ) → IsStarAt pattern place → length text ≤ at
    → rest_matches pattern text place at ≡ rest_matches pattern text (place + 1) at
rest_any_end pattern text place at star h =
    let none : drop at text ≡ [] = drop_all {X = ℕ} at text h in
    rest_any pattern text place at star ∙ rw none

-- at a character that stands for one
pub rest_one : (pattern text : List ℕ) (place at : ℕ) → place < length pattern → takes_any (get_or pattern place 0) ≡ false → at < length text
    → rest_matches pattern text place at ≡ (stands_for (get_or pattern place 0) (get_or text at 0) && rest_matches pattern text (place + 1) (at + 1))
rest_one pattern text place at within one h =
    rw (drop_more pattern place 0 within, drop_more text at 0 h)
    (is_match-one (get_or pattern place 0) (drop (place + 1) pattern) (get_or text at 0 ∷ drop (at + 1) text) one)

pub rest_one_end : (pattern text : List ℕ) (place at : ℕ) → place < length pattern → takes_any (get_or pattern place 0) ≡ false → length text ≤ at
    → rest_matches pattern text place at ≡ false
rest_one_end pattern text place at within one h =
    let none : drop at text ≡ [] = drop_all {X = ℕ} at text h in
    rw (drop_more pattern place 0 within, none) (is_match-one (get_or pattern place 0) (drop (place + 1) pattern) [] one)

-- at the pattern's end
pub rest_end : (pattern text : List ℕ) (place at : ℕ) → length pattern ≤ place → rest_matches pattern text place at ≡ is_empty (drop at text)
rest_end pattern text place at h =
    let none : drop place pattern ≡ [] = drop_all {X = ℕ} place pattern h in
    rw none (is_match-nil (drop at text))

pub rest_end_more : (pattern text : List ℕ) (place at : ℕ) → length pattern ≤ place → at < length text → rest_matches pattern text place at ≡ false
rest_end_more pattern text place at h more = rest_end pattern text place at h ∙ rw (drop_more text at 0 more)

-- Where the pattern has neither a `*` nor a character that stands for the next one, nothing matches.
pub rest_stops : (pattern text : List ℕ) (place at : ℕ) → (IsStarAt pattern place → ⊥) → (StandsAt pattern place (get_or text at 0) → ⊥) → at < length text
    → rest_matches pattern text place at ≡ false
rest_stops pattern text place at no_star no_stand h =
    elim (cases_lt place (length pattern)) [
      | inl within ↦
          elim (takes_any (get_or pattern place 0)) as (λ b. takes_any (get_or pattern place 0) ≡ b → rest_matches pattern text place at ≡ false) [
            | true ↦ λ any. absurd (no_star (record { within = within; any = any }))
            | false ↦ λ one.
                let split = rest_one pattern text place at within one h in
                elim (stands_for (get_or pattern place 0) (get_or text at 0)) as (λ b. stands_for (get_or pattern place 0) (get_or text at 0) ≡ b → rest_matches pattern text place at ≡ false) [
                  | true ↦ λ stands. absurd (no_stand (record { within = within; one = one; stands = stands }))
                  | false ↦ λ falls. split ∙ rw falls
                ] refl
          ] refl
      | inr past ↦ rest_end_more pattern text place at past h
    ]

-- Against the empty text a `*` counts for nothing.
pub stars_more : (pattern : List ℕ) (place : ℕ) → IsStarAt pattern place → is_match (drop (place + 1) pattern) [] ≡ is_match (drop place pattern) []
stars_more pattern place star = sym (is_match-any_at pattern [] place star)

-- Where no `*` is left, the empty text matches at the pattern's end alone.
pub stars_end : (pattern : List ℕ) (place : ℕ) → place ≤ length pattern → (IsStarAt pattern place → ⊥) → eqb place (length pattern) ≡ is_match (drop place pattern) []
stars_end pattern place h no_star =
    elim (cases_lt place (length pattern)) [
      | inl within ↦
          elim (takes_any (get_or pattern place 0)) as (λ b. takes_any (get_or pattern place 0) ≡ b → eqb place (length pattern) ≡ is_match (drop place pattern) []) [
            | true ↦ λ any. absurd (no_star (record { within = within; any = any }))
            | false ↦ λ one.
                ne_eqb place (length pattern) (λ same. omega arith)
                ∙ sym (rw (drop_more pattern place 0 within) (is_match-one (get_or pattern place 0) (drop (place + 1) pattern) [] one))
          ] refl
      | inr past ↦
          let none : drop place pattern ≡ [] = drop_all {X = ℕ} place pattern past in
          eq-eqb place (length pattern) (omega arith) ∙ sym (rw none (is_match-nil []))
    ]
