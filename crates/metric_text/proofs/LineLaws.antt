-- The lines of an input, one after the other.
use Rattle.std.proofs.Common.{◌≡◌, ◌≤◌, ℕ, Bool, true, false, ◌&&◌, ◌==◌, List, [], ◌∷◌, length, refl, sym, ap, ◌∙◌, ◌⊎◌, inl, inr, arith}
use Rattle.std.specs.List.{onto_first}
use Rattle.std.proofs.lemmas.Bool.{and_parts, and_right}
use Rattle.metric_text.specs.Lines.{is_feed, begins_with_feed, lines_of, line_in, without_return}
use Rattle.metric_text.specs.Reading.{split_before}

pub true_or_false : (test : Bool) → (test ≡ true) ⊎ (test ≡ false)
true_or_false true = inl refl
true_or_false false = inr refl

-- the lines are the first and then those of the rest
pub lines_of-first : (b : ℕ) (bytes : List ℕ) → lines_of (b ∷ bytes) ≡ (line_in (b ∷ bytes)).0 ∷ lines_of (line_in (b ∷ bytes)).1
lines_of-first b [] =
    elim (true_or_false (is_feed b)) [
      | inl feed ↦ rw feed refl
      | inr other ↦
          elim (true_or_false (b == 13)) [ inl return ↦ rw (other, return) refl | inr more ↦ rw (other, more) refl ]
    ]
lines_of-first b (c ∷ bytes) =
    elim (true_or_false (is_feed b)) [
      | inl feed ↦ rw feed refl
      | inr other ↦
          elim (true_or_false ((b == 13) && is_feed c)) [
            | inl ends ↦ rw (other, ends) (lines_of-first c bytes)
            | inr goes ↦ rw (other, goes) (ap (onto_first b) (lines_of-first c bytes))
          ]
    ]

-- what follows a line is shorter
pub length-line_in : (b : ℕ) (bytes : List ℕ) → length (line_in (b ∷ bytes)).1 ≤ length bytes
length-line_in b [] =
    elim (true_or_false (is_feed b)) [
      | inl feed ↦ rw feed (omega arith)
      | inr other ↦
          elim (true_or_false (b == 13)) [ inl return ↦ rw (other, return) (omega arith) | inr more ↦ rw (other, more) (omega arith) ]
    ]
length-line_in b (c ∷ bytes) =
    let shorter = length-line_in c bytes in
    elim (true_or_false (is_feed b)) [
      | inl feed ↦ rw feed (omega arith)
      | inr other ↦
          elim (true_or_false ((b == 13) && is_feed c)) [ inl ends ↦ rw (other, ends) (omega arith) | inr goes ↦ rw (other, goes) (omega arith) ]
    ]

line_in-plain : (b : ℕ) (bytes : List ℕ) → is_feed b ≡ false → ((b == 13) && begins_with_feed bytes) ≡ false
    → ((line_in (b ∷ bytes)).0 ≡ b ∷ (line_in bytes).0) × ((line_in (b ∷ bytes)).1 ≡ (line_in bytes).1)
line_in-plain b bytes other goes = rw (other, goes) (refl, refl)

line_in-return : (b : ℕ) (bytes : List ℕ) → is_feed b ≡ false → ((b == 13) && begins_with_feed bytes) ≡ true
    → ((line_in (b ∷ bytes)).0 ≡ (line_in bytes).0) × ((line_in (b ∷ bytes)).1 ≡ (line_in bytes).1)
line_in-return b bytes other ends = rw (other, ends) (refl, refl)

cut-plain : (b : ℕ) (bytes : List ℕ) → is_feed b ≡ false
    → ((split_before is_feed (b ∷ bytes)).0 ≡ b ∷ (split_before is_feed bytes).0) × ((split_before is_feed (b ∷ bytes)).1 ≡ (split_before is_feed bytes).1)
cut-plain b bytes other = rw other (refl, refl)

cut-feed : (b : ℕ) (bytes : List ℕ) → is_feed b ≡ true
    → ((split_before is_feed (b ∷ bytes)).0 ≡ []) × ((split_before is_feed (b ∷ bytes)).1 ≡ b ∷ bytes)
cut-feed b bytes feed = rw feed (refl, refl)

and_first : (a b : Bool) → (a && b) ≡ false → b ≡ true → a ≡ false
and_first true b e yes_b = absurd cc
and_first false b e yes_b = refl

-- no feed stands first where none is left
no_feed_first : (bytes : List ℕ) → (split_before is_feed bytes).1 ≡ [] → begins_with_feed bytes ≡ false
no_feed_first [] e = refl
no_feed_first (c ∷ bytes) e =
    elim (true_or_false (is_feed c)) [
      | inl feed ↦ (let cut = (cut-feed c bytes feed).1 in absurd cc)
      | inr other ↦ other
    ]

-- a feed that stands first leaves nothing before it, and so does nothing else
feed_first : (bytes : List ℕ) → begins_with_feed bytes ≡ true → (split_before is_feed bytes).0 ≡ []
feed_first [] e = refl
feed_first (c ∷ bytes) e = (cut-feed c bytes e).0

first_feed : (bytes : List ℕ) (feed : ℕ) (rest : List ℕ) → (split_before is_feed bytes).1 ≡ feed ∷ rest → (split_before is_feed bytes).0 ≡ [] → begins_with_feed bytes ≡ true
first_feed [] feed rest e none = absurd cc
first_feed (c ∷ bytes) feed rest e none =
    elim (true_or_false (is_feed c)) [
      | inl is ↦ is
      | inr other ↦ (let cut = (cut-plain c bytes other).0 in absurd cc)
    ]

return_kept : (b : ℕ) (line : List ℕ) → (line ≡ [] → (b == 13) ≡ false) → without_return (b ∷ line) ≡ b ∷ without_return line
return_kept b [] last = rw (last refl) refl
return_kept b (c ∷ line) last = refl

return_dropped : (b : ℕ) → (b == 13) ≡ true → without_return (b ∷ []) ≡ []
return_dropped b is = rw is refl

-- An input without a line feed is one line.
pub line_in-open : (bytes : List ℕ) → (split_before is_feed bytes).1 ≡ [] → ((line_in bytes).0 ≡ (split_before is_feed bytes).0) × ((line_in bytes).1 ≡ [])
line_in-open [] e = (refl, refl)
line_in-open (b ∷ bytes) e =
    elim (true_or_false (is_feed b)) [
      | inl feed ↦ (let cut = (cut-feed b bytes feed).1 in absurd cc)
      | inr other ↦
          let cut = cut-plain b bytes other in
          let left : (split_before is_feed bytes).1 ≡ [] = sym cut.1 ∙ e in
          let first = line_in-plain b bytes other (and_right (b == 13) (begins_with_feed bytes) (no_feed_first bytes left)) in
          let rest = line_in-open bytes left in
          (first.0 ∙ ap (λ xs. b ∷ xs) rest.0 ∙ sym cut.0, first.1 ∙ rest.1)
    ]

-- A line feed ends the first line, and a carriage return before it is dropped.
pub line_in-ended : (bytes : List ℕ) (feed : ℕ) (rest : List ℕ) → (split_before is_feed bytes).1 ≡ feed ∷ rest
    → ((line_in bytes).0 ≡ without_return (split_before is_feed bytes).0) × ((line_in bytes).1 ≡ rest)
line_in-ended [] feed rest e = absurd cc
line_in-ended (b ∷ bytes) feed rest e =
    elim (true_or_false (is_feed b)) [
      | inl ends ↦
          let cut : b ∷ bytes ≡ feed ∷ rest = sym (cut-feed b bytes ends).1 ∙ e in
          let same : bytes ≡ rest = cc in
          rw ends (refl, same)
      | inr other ↦
          let cut = cut-plain b bytes other in
          let left : (split_before is_feed bytes).1 ≡ feed ∷ rest = sym cut.1 ∙ e in
          let below = line_in-ended bytes feed rest left in
          elim (true_or_false ((b == 13) && begins_with_feed bytes)) [
            | inl returns ↦
                let both = and_parts (b == 13) (begins_with_feed bytes) returns in
                let first = line_in-return b bytes other returns in
                let none = feed_first bytes both.1 in (
                  first.0 ∙ below.0 ∙ ap without_return none ∙ sym (return_dropped b both.0) ∙ ap without_return (ap (λ xs. b ∷ xs) (sym none) ∙ sym cut.0),
                  first.1 ∙ below.1,
                )
            | inr goes ↦
                let first = line_in-plain b bytes other goes in
                let kept = return_kept b (split_before is_feed bytes).0 (λ none. and_first (b == 13) (begins_with_feed bytes) goes (first_feed bytes feed rest left none)) in
                (first.0 ∙ ap (λ xs. b ∷ xs) below.0 ∙ sym kept ∙ ap without_return (sym cut.0), first.1 ∙ below.1)
          ]
    ]
