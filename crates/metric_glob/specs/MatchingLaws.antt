-- The test for a match that computes is the definition by pieces.
use Rattle.std.proofs.Common.{◌≡◌, ℕ, Bool, true, false, List, [], ◌∷◌, ◌++◌, refl, sym, ap, ◌∙◌}
use Rattle.std.proofs.Common.{inl, inr}
use Rattle.std.proofs.lemmas.Bool.{or_cases, or_left, or_right, and_parts, and_from}
use Rattle.std.specs.List.{concat, AllZip}
use Rattle.std.specs.Bool.{Decides}
use Rattle.metric_glob.specs.Matching.{takes_any, stands_for, IsPiece, Matches, any_suffix}
use Rattle.metric_glob.specs.Matching.{first_stands, is_empty, is_match}

-- the equations of the test, one for each kind of pattern character
pub is_match-nil : (text : List ℕ) → is_match [] text ≡ is_empty text
unfolding is_match
is_match-nil text = refl

pub is_match-any : (c : ℕ) (cs text : List ℕ) → takes_any c ≡ true
    → is_match (c ∷ cs) text ≡ any_suffix (is_match cs) text
unfolding is_match
is_match-any c cs text any = rw any

pub is_match-one : (c : ℕ) (cs text : List ℕ) → takes_any c ≡ false
    → is_match (c ∷ cs) text ≡ first_stands c (is_match cs) text
unfolding is_match
is_match-one c cs text one = rw one

-- the text in two parts, with the test passed on the second
pub record SplitsBefore (test : List ℕ → Bool) (text : List ℕ) : Type 0 where
  pub front : List ℕ
  pub rest : List ℕ
  pub joined : text ≡ front ++ rest
  pub passes : test rest ≡ true

any_suffix-splits : (test : List ℕ → Bool) (text : List ℕ) → any_suffix test text ≡ true
    → SplitsBefore test text
any_suffix-splits test [] passes = record { front = []; rest = []; joined = refl; passes = passes }
any_suffix-splits test (x ∷ xs) found =
    elim (or_cases (test (x ∷ xs)) (any_suffix test xs) found) [
      | inl here ↦ record { front = []; rest = x ∷ xs; joined = refl; passes = here }
      | inr later ↦
          let split = any_suffix-splits test xs later in
          record {
            front = x ∷ split.front;
            rest = split.rest;
            joined = ap (λ ys. x ∷ ys) split.joined;
            passes = split.passes;
          }
    ]

-- the test is passed on the second part of a text
any_suffix-append : (test : List ℕ → Bool) (front rest : List ℕ) → test rest ≡ true
    → any_suffix test (front ++ rest) ≡ true
any_suffix-append test [] [] passes = passes
any_suffix-append test [] (x ∷ xs) passes = or_left (test (x ∷ xs)) (any_suffix test xs) passes
any_suffix-append test (x ∷ front) rest passes =
    or_right (test (x ∷ (front ++ rest))) (any_suffix test (front ++ rest))
    (any_suffix-append test front rest passes)

-- a text and a character that stands before it
pub record TakesFirst (c : ℕ) (test : List ℕ → Bool) (text : List ℕ) : Type 0 where
  pub first : ℕ
  pub rest : List ℕ
  pub joined : text ≡ first ∷ rest
  pub stands : stands_for c first ≡ true
  pub passes : test rest ≡ true

first_stands-takes : (c : ℕ) (test : List ℕ → Bool) (text : List ℕ)
    → first_stands c test text ≡ true → TakesFirst c test text
first_stands-takes c test [] found = cc
first_stands-takes c test (x ∷ xs) found =
    let both = and_parts (stands_for c x) (test xs) found in
    record { first = x; rest = xs; joined = refl; stands = both.0; passes = both.1 }

pub is_empty-nil : (text : List ℕ) → is_empty text ≡ true → text ≡ []
is_empty-nil [] empty = refl
is_empty-nil (x ∷ xs) empty = cc

-- a piece of either kind
pub any_piece : (c : ℕ) (piece : List ℕ) → takes_any c ≡ true → IsPiece c piece
any_piece c piece any = rw any tt

pub one_piece : (c x : ℕ) → takes_any c ≡ false → stands_for c x ≡ true → IsPiece c (x ∷ [])
one_piece c x one stands = rw one (x, refl, stands)

-- what a text that passes the test divides into
divided_any : (c : ℕ) (cs text : List ℕ) → takes_any c ≡ true
    → (split : SplitsBefore (is_match cs) text) → Matches cs split.rest → Matches (c ∷ cs) text
divided_any c cs text any split rest =
    record {
      pieces = split.front ∷ rest.pieces;
      division = record {
        fit = (any_piece c split.front any, rest.division.fit);
        spell = split.joined ∙ ap (λ ys. split.front ++ ys) rest.division.spell;
      };
    }

divided_one : (c : ℕ) (cs text : List ℕ) → takes_any c ≡ false
    → (taken : TakesFirst c (is_match cs) text) → Matches cs taken.rest → Matches (c ∷ cs) text
divided_one c cs text one taken rest =
    record {
      pieces = (taken.first ∷ []) ∷ rest.pieces;
      division = record {
        fit = (one_piece c taken.first one taken.stands, rest.division.fit);
        spell = taken.joined ∙ ap (λ ys. taken.first ∷ ys) rest.division.spell;
      };
    }

pub Matches-from_test : (pattern text : List ℕ) → is_match pattern text ≡ true
    → Matches pattern text
Matches-from_test [] text passes =
    record {
      pieces = [];
      division = record { fit = tt; spell = is_empty-nil text (sym (is_match-nil text) ∙ passes) };
    }
Matches-from_test (c ∷ cs) text passes =
    elim (takes_any c) as (λ b. takes_any c ≡ b → Matches (c ∷ cs) text) [
      | true ↦ λ any.
          let split =
          any_suffix-splits (is_match cs) text (sym (is_match-any c cs text any) ∙ passes) in
          divided_any c cs text any split (Matches-from_test cs split.rest split.passes)
      | false ↦ λ one.
          let taken =
          first_stands-takes c (is_match cs) text (sym (is_match-one c cs text one) ∙ passes) in
          divided_one c cs text one taken (Matches-from_test cs taken.rest taken.passes)
    ] refl

-- a text that is such pieces passes the test
any_passes : (c : ℕ) (cs piece rest : List ℕ) → takes_any c ≡ true → is_match cs rest ≡ true
    → is_match (c ∷ cs) (piece ++ rest) ≡ true
any_passes c cs piece rest any passes =
    is_match-any c cs (piece ++ rest) any ∙ any_suffix-append (is_match cs) piece rest passes

one_passes : (c x : ℕ) (cs rest : List ℕ) → takes_any c ≡ false → stands_for c x ≡ true
    → is_match cs rest ≡ true → is_match (c ∷ cs) (x ∷ rest) ≡ true
one_passes c x cs rest one stands passes =
    is_match-one c cs (x ∷ rest) one ∙ and_from (stands_for c x) (is_match cs rest) stands passes

pub one_of_piece : (c : ℕ) (piece : List ℕ) → takes_any c ≡ false → IsPiece c piece
    → (x : ℕ) × (piece ≡ x ∷ []) × (stands_for c x ≡ true)
one_of_piece c piece one fit = rw one at fit

pieces_pass : (pattern : List ℕ) (pieces : List (List ℕ)) → AllZip IsPiece pattern pieces
    → is_match pattern (concat pieces) ≡ true
pieces_pass [] [] fit = is_match-nil []
pieces_pass [] (piece ∷ pieces) fit = absurd fit
pieces_pass (c ∷ cs) [] fit = absurd fit
pieces_pass (c ∷ cs) (piece ∷ pieces) fit =
    elim (takes_any c) as (λ b. takes_any c ≡ b
    → is_match (c ∷ cs) (piece ++ concat pieces) ≡ true) [
      | true ↦ λ any. any_passes c cs piece (concat pieces) any (pieces_pass cs pieces fit.1)
      | false ↦ λ one.
          let taken = one_of_piece c piece one fit.0 in
          rw (taken.1)
          (one_passes c taken.0 cs (concat pieces) one taken.2 (pieces_pass cs pieces fit.1))
    ] refl

pub test-from_Matches : (pattern text : List ℕ) → Matches pattern text
    → is_match pattern text ≡ true
test-from_Matches pattern text matches =
    rw (matches.division.spell) (pieces_pass pattern matches.pieces matches.division.fit)

-- the test passes exactly where the text matches
pub is_match-Decides : (pattern text : List ℕ)
    → Decides (is_match pattern text) (Matches pattern text)
is_match-Decides pattern text = (Matches-from_test pattern text, test-from_Matches pattern text)
