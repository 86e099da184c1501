-- The lines that begin with a header, as a loop over the lines finds them.
use denote.Ref.{Bor}
use Rattle.std.proofs.Common.{◌≡◌, ℕ, zero, suc, ◌+◌, ◌-◌, ◌<◌, ◌≤◌, ◌==◌, Bool, true, false, cond, List, [], ◌∷◌, length, get_or, drop, filter, map, Option, Some, None, refl, sym, ap, ◌∙◌, arith}
use Rattle.std.specs.Prelude.{slice_get}
use Rattle.std.specs.List.{enumerate_from}
use Rattle.std.proofs.lemmas.Bool.{eqb-true}
use Rattle.std.proofs.lemmas.List.{drop_all, length-map}
use Rattle.std.proofs.lemmas.List.FromFn.{length-enumerate_from}
use Rattle.metric_lint.specs.Positions.{begins, begins_with, indent_of, position_of}

-- the lines with their numbers
abbrev pub numbered : ℕ → List (Bor (List ℕ)) → List (ℕ × List ℕ)
numbered first lines = enumerate_from first (map (λ line. line.now) lines)

-- those that begin with a header
abbrev pub kept : List ℕ → List (ℕ × List ℕ) → List (ℕ × List ℕ)
kept header lines = filter (λ line. begins header line.1) lines

numbered_at : (first : ℕ) (lines : List (Bor (List ℕ))) (n : ℕ) (d : Bor (List ℕ)) → n < length lines
    → drop n (numbered first lines) ≡ (first + n, (get_or lines n d).now) ∷ drop (n + 1) (numbered first lines)
numbered_at first [] n d within = absurd (omega arith)
numbered_at first (line ∷ lines) zero d within =
    let is : first ≡ first + 0 = omega arith in
    ap (λ (k : ℕ). (k, line.now) ∷ numbered (first + 1) lines) is
numbered_at first (line ∷ lines) (suc n) d within =
    let longer : suc n + 1 ≡ suc (n + 1) = omega arith in
    let is : first + 1 + n ≡ first + suc n = omega arith in
    rw longer (numbered_at (first + 1) lines n d (omega arith) ∙ ap (λ (k : ℕ). (k, (get_or lines n d).now) ∷ drop (n + 1) (numbered (first + 1) lines)) is)

at_header : (header : List ℕ) (lines : List (Bor (List ℕ))) (n : ℕ) (d : Bor (List ℕ)) → n < length lines → begins header (get_or lines n d).now ≡ true
    → kept header (drop n (numbered 1 lines)) ≡ (1 + n, (get_or lines n d).now) ∷ kept header (drop (n + 1) (numbered 1 lines))
at_header header lines n d within test =
    let rest = kept header (drop (n + 1) (numbered 1 lines)) in
    ap (kept header) (numbered_at 1 lines n d within) ∙ ap (λ (b : Bool). cond b ((1 + n, (get_or lines n d).now) ∷ rest) rest) test

past_other : (header : List ℕ) (lines : List (Bor (List ℕ))) (n : ℕ) (d : Bor (List ℕ)) → n < length lines → begins header (get_or lines n d).now ≡ false
    → kept header (drop n (numbered 1 lines)) ≡ kept header (drop (n + 1) (numbered 1 lines))
past_other header lines n d within test =
    let rest = kept header (drop (n + 1) (numbered 1 lines)) in
    ap (kept header) (numbered_at 1 lines n d within) ∙ ap (λ (b : Bool). cond b ((1 + n, (get_or lines n d).now) ∷ rest) rest) test

skip_one : {X : Type 0} (x : X) (xs : List X) (left : ℕ) → 0 < left → slice_get (x ∷ xs) left ≡ slice_get xs (left - 1)
skip_one x xs zero some = absurd (omega arith)
skip_one x xs (suc left) some = let is : left ≡ suc left - 1 = omega arith in ap (slice_get xs) is

-- the line that is looked for
pub found_here : (header : List ℕ) (lines : List (Bor (List ℕ))) (n : ℕ) (d : Bor (List ℕ)) (left column : ℕ) (wanted : Option (ℕ × List ℕ)) → n < length lines
    → begins header (get_or lines n d).now ≡ true → left ≡ 0 → column ≡ indent_of (get_or lines n d).now → slice_get (kept header (drop n (numbered 1 lines))) left ≡ wanted
    → Some (record { line = n + 1; column = column + 1 }) ≡ position_of wanted
found_here header lines n d left column wanted within test none indent is =
    let here : Some (1 + n, (get_or lines n d).now) ≡ wanted =
    ap (λ (xs : List (ℕ × List ℕ)). slice_get xs 0) (sym (at_header header lines n d within test)) ∙ ap (slice_get (kept header (drop n (numbered 1 lines)))) (sym none) ∙ is in
    let place : n + 1 ≡ 1 + n = omega arith in
    ap (λ (k : ℕ). Some (record { line = k; column = column + 1 })) place
    ∙ ap (λ (k : ℕ). Some (record { line = 1 + n; column = k + 1 })) indent
    ∙ ap position_of here

-- one line less
pub after_header : (header : List ℕ) (lines : List (Bor (List ℕ))) (n : ℕ) (d : Bor (List ℕ)) (left next : ℕ) (wanted : Option (ℕ × List ℕ)) → n < length lines
    → begins header (get_or lines n d).now ≡ true → 0 < left → next ≡ left - 1 → slice_get (kept header (drop n (numbered 1 lines))) left ≡ wanted
    → slice_get (kept header (drop (n + 1) (numbered 1 lines))) next ≡ wanted
after_header header lines n d left next wanted within test some less is =
    let rest = kept header (drop (n + 1) (numbered 1 lines)) in
    ap (slice_get rest) less ∙ sym (skip_one (1 + n, (get_or lines n d).now) rest left some)
    ∙ ap (λ (xs : List (ℕ × List ℕ)). slice_get xs left) (sym (at_header header lines n d within test)) ∙ is

pub after_other : (header : List ℕ) (lines : List (Bor (List ℕ))) (n : ℕ) (d : Bor (List ℕ)) (left next : ℕ) (wanted : Option (ℕ × List ℕ)) → n < length lines
    → begins header (get_or lines n d).now ≡ false → next ≡ left → slice_get (kept header (drop n (numbered 1 lines))) left ≡ wanted
    → slice_get (kept header (drop (n + 1) (numbered 1 lines))) next ≡ wanted
after_other header lines n d left next wanted within test same is =
    ap (slice_get (kept header (drop (n + 1) (numbered 1 lines)))) same
    ∙ ap (λ (xs : List (ℕ × List ℕ)). slice_get xs left) (sym (past_other header lines n d within test)) ∙ is

-- no line left
pub none_left : (header : List ℕ) (lines : List (Bor (List ℕ))) (n left : ℕ) (wanted : Option (ℕ × List ℕ)) → length lines ≤ n
    → slice_get (kept header (drop n (numbered 1 lines))) left ≡ wanted → None ≡ position_of wanted
none_left header lines n left wanted past is =
    let texts = map (λ (line : Bor (List ℕ)). line.now) lines in
    let long = length-enumerate_from 1 texts ∙ length-map lines (λ (line : Bor (List ℕ)). line.now) in
    let gone : drop n (numbered 1 lines) ≡ [] = drop_all n (numbered 1 lines) (omega arith) in
    ap position_of (ap (λ (xs : List (ℕ × List ℕ)). slice_get (kept header xs) left) (sym gone) ∙ is)

-- a beginning of nothing
pub empty_begins : (first : List ℕ) → (length first == 0) ≡ begins_with first []
empty_begins [] = refl
empty_begins (byte ∷ first) = by (length (byte ∷ first) == 0) refl
  where
    by : (b : Bool) → (length (byte ∷ first) == 0) ≡ b → b ≡ false
    by true e = absurd (let none = eqb-true (length (byte ∷ first)) 0 e in omega arith)
    by false e = refl
