-- Languages of lines. A language tells which lines spell a value; a reader finds the value, or the lines from the
-- faulty one on.
use Rattle.std.proofs.Common.{◌≡◌, ℕ, ◌+◌, suc, Bool, true, false, cond, ◌&&◌, List, [], ◌∷◌, ◌++◌, take, drop, Option, None, Some, Result, Ok, Err, refl, sym, ap, ◌∙◌, arith}
use Rattle.std.specs.List.{list_all}
use Rattle.std.proofs.lemmas.Bool.{and_parts}
use Rattle.metric_parts.specs.Input.{is_content}
use Rattle.metric_parts.specs.Reading.{contents_len}

abbrev pub Lines : Type 0
Lines = List (List ℕ)

abbrev pub first : Lines → Option (List ℕ)
first [] = None
first (line ∷ lines) = Some line

-- no content stands at the front
abbrev pub IsEnded : Lines → Type 0
IsEnded lines = (line : List ℕ) → first lines ≡ Some line → is_content line ≡ false

-- more goes on as the rest does: with the same line, or not at all
abbrev pub Follows : Lines → Lines → Type 0
Follows [] more = more ≡ []
Follows (line ∷ rest) more = first more ≡ Some line

pub first_same : (before rest more : Lines) → Follows rest more → first (before ++ more) ≡ first (before ++ rest)
first_same [] [] more f = ap first f
first_same [] (line ∷ rest) more f = f
first_same (b ∷ before) rest more f = refl

-- Some spelled lines begin with these.
pub record GoesOn {Y : Type 0} (L : Lines → Y → Type 0) (lines : Lines) : Type 0 where
  pub more : Lines
  pub value : Y
  pub spelled : L (lines ++ more) value

-- The first line of the rest is the first with which no spelled lines go on.
pub record FaultAt {Y : Type 0} (L : Lines → Y → Type 0) (lines rest : Lines) : Type 0 where
  pub before : Lines
  pub whole : lines ≡ before ++ rest
  pub begun : GoesOn L before
  pub stuck : (more : Lines) (y : Y) → Follows rest more → L (before ++ more) y → ⊥

-- The reader finds what the lines spell, or the first fault. Spelled lines begin with no content.
pub record Reads {Y : Type 0} (L : Lines → Y → Type 0) (read : Lines → Result Y Lines) : Type 0 where
  pub found : (lines : Lines) (y : Y) → read lines ≡ Ok y → L lines y
  pub only : (lines : Lines) (y : Y) → L lines y → read lines ≡ Ok y
  pub fault : (lines rest : Lines) → read lines ≡ Err rest → FaultAt L lines rest
  pub ended : (lines : Lines) (y : Y) → L lines y → IsEnded lines
  pub begun : GoesOn L []

true_false : (b : Bool) → b ≡ true → b ≡ false → ⊥
true_false b p q = cc

consed : {A : Type 0} (x y : A) (xs ys : List A) → x ≡ y → xs ≡ ys → (x ∷ xs) ≡ (y ∷ ys)
consed x y xs ys p q = cc

-- contents and then none can be cut in one way only
pub same_cut : (a b s t : Lines) → list_all is_content a ≡ true → list_all is_content b ≡ true → IsEnded s → IsEnded t
    → a ++ s ≡ b ++ t → (a ≡ b) × (s ≡ t)
same_cut [] [] s t ca cb es et e = (refl, e)
same_cut [] (y ∷ b) s t ca cb es et e = absurd (true_false (is_content y) (and_parts (is_content y) _ cb).0 (es y (ap first e)))
same_cut (x ∷ a) [] s t ca cb es et e = absurd (true_false (is_content x) (and_parts (is_content x) _ ca).0 (et x (ap first (sym e))))
same_cut (x ∷ a) (y ∷ b) s t ca cb es et e =
    let heads : x ≡ y = cc in
    let tails : a ++ s ≡ b ++ t = cc in
    let rest = same_cut a b s t (and_parts (is_content x) _ ca).1 (and_parts (is_content y) _ cb).1 es et tails in
    (consed x y a b heads rest.0, rest.1)

one_more : (n : ℕ) → 1 + n ≡ suc n
one_more n = omega arith

cut_contents : (x : List ℕ) (xs : Lines) (n : ℕ) (b : Bool) → is_content x ≡ b → list_all is_content (take n xs) ≡ true
    → list_all is_content (take (cond b (1 + n) 0) (x ∷ xs)) ≡ true
cut_contents x xs n true e h = rw (one_more n, e) h
cut_contents x xs n false e h = refl

cut_ended : (x : List ℕ) (xs : Lines) (n : ℕ) (b : Bool) → is_content x ≡ b → IsEnded (drop n xs) → IsEnded (drop (cond b (1 + n) 0) (x ∷ xs))
cut_ended x xs n true e h = rw (one_more n) h
cut_ended x xs n false e h = λ line f. let same : x ≡ line = cc in ap is_content (sym same) ∙ e

-- the contents at the front, and what comes after them
pub contents-front : (lines : Lines) → list_all is_content (take (contents_len lines) lines) ≡ true
contents-front [] = refl
contents-front (x ∷ xs) = cut_contents x xs (contents_len xs) (is_content x) refl (contents-front xs)

pub contents-back : (lines : Lines) → IsEnded (drop (contents_len lines) lines)
contents-back [] = λ line f. absurd cc
contents-back (x ∷ xs) = cut_ended x xs (contents_len xs) (is_content x) refl (contents-back xs)
