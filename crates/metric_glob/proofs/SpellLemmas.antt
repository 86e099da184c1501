-- Takes that spell a text: the test step by step, and what it means.
use Rattle.std.proofs.Common.{◌≡◌, ◌&&◌, ℕ, ◌+◌, ◌<◌, ◌≤◌, Bool, true, false, List, [], ◌∷◌, ◌++◌, length, get_or, drop, take, eqb, leb, refl, sym, ap, ◌∙◌, arith, Some, None}
use Rattle.std.specs.Bool.{Decides}
use Rattle.std.specs.List.{concat, AllZip}
use Rattle.std.proofs.lemmas.Bool.{and_parts, true≢false, leb-true, le-leb}
use Rattle.std.proofs.lemmas.List.{drop_more, drop_all, drop_at, take-append-drop, length-take-le, length-append}
use Rattle.metric_glob.specs.Matching.{takes_any, stands_for, is_empty, IsPiece, Matches}
use Rattle.metric_glob.specs.MatchingLaws.{any_piece, one_piece, one_of_piece, is_empty-nil}
use Rattle.metric_glob.specs.Reasons.{any_lengths, Spells, after_piece, is_spelled}

-- the test, one pattern character on
pub spelled_goes : (pattern takes text takes' text' : List ℕ) (place : ℕ) → place < length pattern
    → Some (takes', text') ≡ after_piece (get_or pattern place 0) takes text
    → is_spelled (drop place pattern) takes text ≡ is_spelled (drop (place + 1) pattern) takes' text'
unfolding is_spelled
spelled_goes pattern takes text takes' text' place h goes = rw (drop_more pattern place 0 h, ← goes) refl

pub spelled_stops : (pattern takes text : List ℕ) (place : ℕ) → place < length pattern
    → None ≡ after_piece (get_or pattern place 0) takes text
    → is_spelled (drop place pattern) takes text ≡ false
unfolding is_spelled
spelled_stops pattern takes text place h stops = rw (drop_more pattern place 0 h, ← stops) refl

is_empty-length : (text : List ℕ) → is_empty text ≡ eqb (length text) 0
is_empty-length [] = refl
is_empty-length (x ∷ xs) = grind arith

pub spelled_ends : (pattern takes text : List ℕ) (place : ℕ) → length pattern ≤ place
    → is_spelled (drop place pattern) takes text ≡ (eqb (length takes) 0 && eqb (length text) 0)
unfolding is_spelled
spelled_ends pattern takes text place h =
    let none : drop place pattern ≡ [] = drop_all {X = ℕ} place pattern h in
    rw (none, is_empty-length takes, is_empty-length text) refl

-- two tests in turn, the first of which passes or fails
pub both_empty : (e0 e1 r0 r1 whole : Bool) → r0 ≡ e0 → r0 ≡ true → r1 ≡ e1 → whole ≡ (e0 && e1) → r1 ≡ whole
both_empty e0 e1 r0 r1 whole is0 passes is1 is =
    let e0_true : e0 ≡ true = sym is0 ∙ passes in
    let last = rw e0_true at is in
    is1 ∙ sym last

pub first_left : (e0 e1 r0 whole : Bool) → r0 ≡ e0 → r0 ≡ false → whole ≡ (e0 && e1) → r0 ≡ whole
first_left e0 e1 r0 whole is0 fails is =
    let e0_false : e0 ≡ false = sym is0 ∙ fails in
    let last = rw e0_false at is in
    fails ∙ sym last

-- a `*` takes some characters, and another takes one
pub any_spelled : (c count : ℕ) (cs takes text : List ℕ) → takes_any c ≡ true → count ≤ length text → is_spelled (c ∷ cs) (count ∷ takes) text ≡ is_spelled cs takes (drop count text)
unfolding is_spelled
any_spelled c count cs takes text any h = rw (any, le-leb count (length text) h) refl

pub one_spelled : (c x : ℕ) (cs takes text : List ℕ) → takes_any c ≡ false → stands_for c x ≡ true → is_spelled (c ∷ cs) takes (x ∷ text) ≡ is_spelled cs takes text
unfolding is_spelled
one_spelled c x cs takes text one stands = rw (one, stands) refl

-- what a pattern character took of a text that is spelled
record TakesMany (cs takes text : List ℕ) : Type 0 where
  count : ℕ
  others : List ℕ
  is : takes ≡ count ∷ others
  within : count ≤ length text
  onward : is_spelled cs others (drop count text) ≡ true

record TakesOne (c : ℕ) (cs takes text : List ℕ) : Type 0 where
  first : ℕ
  rest : List ℕ
  is : text ≡ first ∷ rest
  stands : stands_for c first ≡ true
  onward : is_spelled cs takes rest ≡ true

many_taken : (c : ℕ) (cs takes text : List ℕ) → takes_any c ≡ true → is_spelled (c ∷ cs) takes text ≡ true → TakesMany cs takes text
unfolding is_spelled
many_taken c cs [] text any passes = absurd (true≢false (sym passes ∙ rw any refl))
many_taken c cs (count ∷ others) text any passes =
    elim (leb count (length text)) as (λ b. leb count (length text) ≡ b → TakesMany cs (count ∷ others) text) [
      | true ↦ λ within. record { count = count; others = others; is = refl; within = leb-true count (length text) within; onward = rw (any, within) at passes }
      | false ↦ λ past. absurd (true≢false (sym passes ∙ rw (any, past) refl))
    ] refl

one_taken : (c : ℕ) (cs takes text : List ℕ) → takes_any c ≡ false → is_spelled (c ∷ cs) takes text ≡ true → TakesOne c cs takes text
unfolding is_spelled
one_taken c cs takes [] one passes = absurd (true≢false (sym passes ∙ rw one refl))
one_taken c cs takes (x ∷ xs) one passes =
    elim (stands_for c x) as (λ b. stands_for c x ≡ b → TakesOne c cs takes (x ∷ xs)) [
      | true ↦ λ stands. record { first = x; rest = xs; is = refl; stands = stands; onward = rw (one, stands) at passes }
      | false ↦ λ falls. absurd (true≢false (sym passes ∙ rw (one, falls) refl))
    ] refl

any_lengths-any : (c : ℕ) (cs piece : List ℕ) (pieces : List (List ℕ)) → takes_any c ≡ true → any_lengths (c ∷ cs) (piece ∷ pieces) ≡ length piece ∷ any_lengths cs pieces
any_lengths-any c cs piece pieces any = rw any refl

any_lengths-one : (c : ℕ) (cs piece : List ℕ) (pieces : List (List ℕ)) → takes_any c ≡ false → any_lengths (c ∷ cs) (piece ∷ pieces) ≡ any_lengths cs pieces
any_lengths-one c cs piece pieces one = rw one refl

spells_many : (c : ℕ) (cs takes text : List ℕ) → takes_any c ≡ true → (taken : TakesMany cs takes text) → Spells cs taken.others (drop taken.count text) → Spells (c ∷ cs) takes text
spells_many c cs takes text any taken onward =
    let piece = take taken.count text in
    record {
      pieces = piece ∷ onward.pieces;
      division = record {
        fit = (any_piece c piece any, onward.division.fit);
        spell = sym (take-append-drop taken.count text) ∙ ap (λ ys. piece ++ ys) onward.division.spell;
      };
      given = any_lengths-any c cs piece onward.pieces any
          ∙ (rw (length-take-le taken.count text taken.within, onward.given) (sym taken.is));
    }

spells_one : (c : ℕ) (cs takes text : List ℕ) → takes_any c ≡ false → (taken : TakesOne c cs takes text) → Spells cs takes taken.rest → Spells (c ∷ cs) takes text
spells_one c cs takes text one taken onward =
    record {
      pieces = (taken.first ∷ []) ∷ onward.pieces;
      division = record {
        fit = (one_piece c taken.first one taken.stands, onward.division.fit);
        spell = taken.is ∙ ap (λ ys. taken.first ∷ ys) onward.division.spell;
      };
      given = any_lengths-one c cs (taken.first ∷ []) onward.pieces one ∙ onward.given;
    }

spells_none : (takes text : List ℕ) → is_spelled [] takes text ≡ true → (takes ≡ []) × (text ≡ [])
unfolding is_spelled
spells_none takes text passes =
    let both = and_parts (is_empty takes) (is_empty text) passes in
    (is_empty-nil takes both.0, is_empty-nil text both.1)

Spells-from_test : (pattern takes text : List ℕ) → is_spelled pattern takes text ≡ true → Spells pattern takes text
Spells-from_test [] takes text passes =
    let none = spells_none takes text passes in
    record { pieces = []; division = record { fit = tt; spell = none.1 }; given = sym none.0 }
Spells-from_test (c ∷ cs) takes text passes =
    elim (takes_any c) as (λ b. takes_any c ≡ b → Spells (c ∷ cs) takes text) [
      | true ↦ λ any.
          let taken = many_taken c cs takes text any passes in
          spells_many c cs takes text any taken (Spells-from_test cs taken.others (drop taken.count text) taken.onward)
      | false ↦ λ one.
          let taken = one_taken c cs takes text one passes in
          spells_one c cs takes text one taken (Spells-from_test cs takes taken.rest taken.onward)
    ] refl

-- the pieces of a division spell the text with their own lengths
any_piece_spelled : (c : ℕ) (cs piece text : List ℕ) (pieces : List (List ℕ)) → takes_any c ≡ true → is_spelled cs (any_lengths cs pieces) text ≡ true
    → is_spelled (c ∷ cs) (any_lengths (c ∷ cs) (piece ∷ pieces)) (piece ++ text) ≡ true
any_piece_spelled c cs piece text pieces any passes =
    rw (any_lengths-any c cs piece pieces any)
    (any_spelled c (length piece) cs (any_lengths cs pieces) (piece ++ text) any (omega (arith, length-append piece text))
    ∙ rw (drop_at piece text (length piece) refl) passes)

one_piece_spelled : (c x : ℕ) (cs text : List ℕ) (pieces : List (List ℕ)) → takes_any c ≡ false → stands_for c x ≡ true → is_spelled cs (any_lengths cs pieces) text ≡ true
    → is_spelled (c ∷ cs) (any_lengths (c ∷ cs) ((x ∷ []) ∷ pieces)) (x ∷ text) ≡ true
one_piece_spelled c x cs text pieces one stands passes =
    rw (any_lengths-one c cs (x ∷ []) pieces one) (one_spelled c x cs (any_lengths cs pieces) text one stands ∙ passes)

nothing_spelled : (text : List ℕ) → text ≡ [] → is_spelled [] [] text ≡ true
unfolding is_spelled
nothing_spelled text none = rw none refl

pieces_spelled : (pattern : List ℕ) (pieces : List (List ℕ)) → AllZip IsPiece pattern pieces → is_spelled pattern (any_lengths pattern pieces) (concat pieces) ≡ true
pieces_spelled [] [] fit = nothing_spelled [] refl
pieces_spelled [] (piece ∷ pieces) fit = absurd fit
pieces_spelled (c ∷ cs) [] fit = absurd fit
pieces_spelled (c ∷ cs) (piece ∷ pieces) fit =
    elim (takes_any c) as (λ b. takes_any c ≡ b → is_spelled (c ∷ cs) (any_lengths (c ∷ cs) (piece ∷ pieces)) (piece ++ concat pieces) ≡ true) [
      | true ↦ λ any. any_piece_spelled c cs piece (concat pieces) pieces any (pieces_spelled cs pieces fit.1)
      | false ↦ λ one.
          let taken = one_of_piece c piece one fit.0 in
          rw (taken.1) (one_piece_spelled c taken.0 cs (concat pieces) pieces one taken.2 (pieces_spelled cs pieces fit.1))
    ] refl

test-from_Spells : (pattern takes text : List ℕ) → Spells pattern takes text → is_spelled pattern takes text ≡ true
test-from_Spells pattern takes text spells =
    rw (spells.division.spell, ← spells.given) (pieces_spelled pattern spells.pieces spells.division.fit)

-- The test passes exactly where the takes spell the text.
pub is_spelled-Decides : (pattern takes text : List ℕ) → Decides (is_spelled pattern takes text) (Spells pattern takes text)
is_spelled-Decides pattern takes text = (Spells-from_test pattern takes text, test-from_Spells pattern takes text)

-- Takes that spell a text show that it matches.
pub Matches-from_Spells : (pattern takes text : List ℕ) → Spells pattern takes text → Matches pattern text
Matches-from_Spells pattern takes text spells = record { pieces = spells.pieces; division = spells.division }
