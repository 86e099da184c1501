-- What a server moves of two series is told apart, where there is one place at most.
use Rattle.std.proofs.Common.{◌≡◌, ℕ, zero, suc, ◌+◌, ◌<◌, ◌≤◌, Bool, true, false, cond, ◌&&◌, List, [], ◌∷◌, refl, sym, ap, subst, ◌∙◌, arith, below_more}
use Rattle.std.specs.Prelude.{nat_lt}
use Rattle.std.specs.List.{list_all, range_with_len}
use Rattle.std.proofs.lemmas.Bool.Decides.{nat_tests}
use Rattle.metric_family.specs.Words.{is_some}
use Rattle.metric_exposure.specs.Laws.{are_shown, held_by}

pub all_of : (test : ℕ → Bool) (a n : ℕ) → ((k : ℕ) → k < n → test (a + k) ≡ true) → list_all test (range_with_len a n) ≡ true
all_of test a zero each = refl
all_of test a (suc n) each =
    let same : a + 0 ≡ a = omega arith in
    let here : test a ≡ true = ap test (sym same) ∙ each 0 (omega arith) in
    rw here (all_of test (a + 1) n (λ k below. let next : a + 1 + k ≡ a + suc k = omega arith in ap test next ∙ each (suc k) (omega arith)))

and_none : (b : Bool) → (b && false) ≡ false
and_none true = refl
and_none false = refl

not_all : (test : ℕ → Bool) (a n k : ℕ) → k < n → test (a + k) ≡ false → list_all test (range_with_len a n) ≡ false
not_all test a zero k below e = absurd (omega arith)
not_all test a (suc n) zero below e =
    let same : a ≡ a + 0 = omega arith in
    ap (λ b. b && list_all test (range_with_len (a + 1) n)) (ap test same ∙ e)
not_all test a (suc n) (suc k) below e =
    let next : a + 1 + k ≡ a + suc k = omega arith in
    ap (λ b. test a && b) (not_all test (a + 1) n k (omega arith) (ap test next ∙ e)) ∙ and_none (test a)

-- The texts of two series: those that stand under a label with so many `exported_`.
abbrev pub Texts : Type 0
Texts = ℕ → List ℕ

abbrev Full : Texts → ℕ → Type 0
Full texts n = (k : ℕ) → k < n → is_some (texts (suc k)) ≡ true

full : (texts : Texts) (n : ℕ) → Full texts n → are_shown texts n ≡ true
full texts n each = all_of (λ k. is_some (texts (suc k))) 0 n (λ k below. let same : suc (0 + k) ≡ suc k = omega arith in ap (λ j. is_some (texts j)) same ∙ each k below)

not_full : (texts : Texts) (n k : ℕ) → k < n → is_some (texts (suc k)) ≡ false → are_shown texts n ≡ false
not_full texts n k below e = not_all (λ k. is_some (texts (suc k))) 0 n k below (let same : suc (0 + k) ≡ suc k = omega arith in ap (λ j. is_some (texts j)) same ∙ e)

pub some_is : (c : ℕ) (text : List ℕ) → is_some (c ∷ text) ≡ true
some_is c text = grind (arith, nat_tests)

pub none_is : (text : List ℕ) → is_some text ≡ false → text ≡ []
none_is [] e = refl
none_is (c ∷ text) e = let wrong : true ≡ false = sym (some_is c text) ∙ e in absurd cc

-- what is held where a text stands, where it does not and all before it do, and where one before it does not
held_own : (texts : Texts) (n : ℕ) → is_some (texts (suc n)) ≡ true → held_by texts n ≡ texts (suc n)
held_own texts n e = ap (λ b. cond b (texts (suc n)) (cond (are_shown texts n) (texts 0) [])) e

held_moved : (texts : Texts) (n : ℕ) → is_some (texts (suc n)) ≡ false → Full texts n → held_by texts n ≡ texts 0
held_moved texts n e each =
    ap (λ b. cond b (texts (suc n)) (cond (are_shown texts n) (texts 0) [])) e ∙ ap (λ b. cond b (texts 0) []) (full texts n each)

held_behind : (texts : Texts) (n k : ℕ) → k < n → is_some (texts (suc k)) ≡ false → held_by texts n ≡ texts (suc n)
held_behind texts n k below gap = by (is_some (texts (suc n))) refl
  where
    by : (b : Bool) → is_some (texts (suc n)) ≡ b → cond b (texts (suc n)) (cond (are_shown texts n) (texts 0) []) ≡ texts (suc n)
    by true e = refl
    by false e = ap (λ b. cond b (texts 0) []) (not_full texts n k below gap) ∙ sym (none_is (texts (suc n)) e)

more_full : (texts : Texts) (n : ℕ) → Full texts n → is_some (texts (suc n)) ≡ true → Full texts (n + 1)
more_full texts n each here = below_more (λ k. is_some (texts (suc k)) ≡ true) n each here

-- texts of a series: each is a key's
pub record Real (There Lacks : ℕ → Type 0) (Has : ℕ → List ℕ → Type 0) (texts : Texts) : Type 0 where
  pub shown : (n : ℕ) → is_some (texts n) ≡ true → There n
  pub has : (n : ℕ) → is_some (texts n) ≡ true → Has n (texts n)
  pub lacks : (n : ℕ) → There n → is_some (texts n) ≡ false → Lacks n

-- Keys have the label with so many `exported_`, may be absent there, and may have a text there. A text has one place where it
-- may come to stand, and so many labels at most are keys'.
module _ (There Lacks : ℕ → Type 0) (Has : ℕ → List ℕ → Type 0) (Place : ℕ → Type 0) (most : ℕ)
    (place : (n : ℕ) (text : List ℕ) → ((k : ℕ) → k < n → There k) → There n → Lacks n → is_some text ≡ true → Has 0 text → Has n text → Place n)
    (one_place : (i k : ℕ) → i < k → Place i → Place k → ⊥)
    (few : (n : ℕ) → ((k : ℕ) → k < n → There (suc k)) → n ≤ most) where
  reached : (texts : Texts) → Real There Lacks Has texts → (n : ℕ) → is_some (texts 0) ≡ true → Full texts n → (k : ℕ) → k < suc n → There k
  reached texts r n first each zero below = r.shown 0 first
  reached texts r n first each (suc k) below = r.shown (suc k) (each k (omega arith))

  -- a gap of one series at which the other has a text
  module _ (X Y : Texts) (x : Real There Lacks Has X) (y : Real There Lacks Has Y) (same : (n : ℕ) → held_by X n ≡ held_by Y n) (n : ℕ) (gap : is_some (X (suc n)) ≡ false) (own : Place (suc n)) (first : is_some (Y 0) ≡ true) where
    follow : (fuel j : ℕ) → most + 1 ≤ j + fuel → n < j → Full Y j → ⊥
    follow zero j enough behind each =
        let less = few j (λ k below. y.shown (suc k) (each k below)) in
        omega arith
    follow (suc fuel) j enough behind each = by (is_some (Y (suc j))) refl (λ here. follow fuel (j + 1) (omega arith) (omega arith) (more_full Y j each here))
      where
        by : (b : Bool) → is_some (Y (suc j)) ≡ b → (is_some (Y (suc j)) ≡ true → ⊥) → ⊥
        by true here later = later here
        by false here later =
            let moved : X (suc j) ≡ Y 0 = sym (held_behind X j n behind gap) ∙ same j ∙ held_moved Y j here each in
            let shown : is_some (X (suc j)) ≡ true = ap is_some moved ∙ first in
            let there = x.shown (suc j) shown in
            one_place (suc n) (suc j) (omega arith) own
            (place (suc j) (Y 0) (reached Y y j first each) there (y.lacks (suc j) there here) first (y.has 0 first) (subst (Has (suc j)) moved (x.has (suc j) shown)))

  clash : (X Y : Texts) → Real There Lacks Has X → Real There Lacks Has Y → ((n : ℕ) → held_by X n ≡ held_by Y n) → (n : ℕ) → Full X n → Full Y n → is_some (X (suc n)) ≡ false → is_some (Y (suc n)) ≡ true → ⊥
  clash X Y x y same n each also gap here =
      let moved : X 0 ≡ Y (suc n) = sym (held_moved X n gap each) ∙ same n ∙ held_own Y n here in
      let first : is_some (X 0) ≡ true = ap is_some moved ∙ here in
      let there = y.shown (suc n) here in
      let own = place (suc n) (X 0) (reached X x n first each) there (x.lacks (suc n) there gap) first (x.has 0 first) (subst (Has (suc n)) (sym moved) (y.has (suc n) here)) in
      by own first (is_some (Y 0)) refl
    where
      by : Place (suc n) → is_some (X 0) ≡ true → (b : Bool) → is_some (Y 0) ≡ b → ⊥
      by own first true e = follow X Y x y same n gap own e (most + 1) (n + 1) (omega arith) (omega arith) (more_full Y n also here)
      by own first false e =
          let there = x.shown 0 first in
          one_place 0 (suc n) (omega arith) (place 0 (X 0) (λ k below. absurd (omega arith)) there (y.lacks 0 there e) first (x.has 0 first) (x.has 0 first)) own

  -- two series of which the same is held
  module _ (X Y : Texts) (x : Real There Lacks Has X) (y : Real There Lacks Has Y) (same : (n : ℕ) → held_by X n ≡ held_by Y n) where
    -- behind a gap of both
    behind : (n : ℕ) → Full X n → ((k : ℕ) → k < n → X (suc k) ≡ Y (suc k)) → is_some (X (suc n)) ≡ false → is_some (Y (suc n)) ≡ false → Full Y n → (m : ℕ) → X m ≡ Y m
    behind n each alike gap also every zero = sym (held_moved X n gap each) ∙ same n ∙ held_moved Y n also every
    behind n each alike gap also every (suc k) = by (nat_lt k n) refl (nat_lt n k) refl
      where
        by : (b : Bool) → (nat_lt k n) ≡ b → (d : Bool) → (nat_lt n k) ≡ d → X (suc k) ≡ Y (suc k)
        by true e d f = alike k (grind (arith, nat_tests))
        by false e true f = sym (held_behind X k n (grind (arith, nat_tests)) gap) ∙ same k ∙ held_behind Y k n (grind (arith, nat_tests)) also
        by false e false f = let here : k ≡ n = grind (arith, nat_tests) in rw here (none_is (X (suc n)) gap ∙ sym (none_is (Y (suc n)) also))

    scan : (fuel n : ℕ) → most + 1 ≤ n + fuel → Full X n → Full Y n → ((k : ℕ) → k < n → X (suc k) ≡ Y (suc k)) → (m : ℕ) → X m ≡ Y m
    scan zero n enough each also alike m =
        let less = few n (λ k below. x.shown (suc k) (each k below)) in
        absurd (omega arith)
    scan (suc fuel) n enough each also alike m =
        by (is_some (X (suc n))) refl (is_some (Y (suc n))) refl (λ here there next. scan fuel (n + 1) (omega arith) (more_full X n each here) (more_full Y n also there) next m)
      where
        by : (b : Bool) → is_some (X (suc n)) ≡ b → (d : Bool) → is_some (Y (suc n)) ≡ d
            → (is_some (X (suc n)) ≡ true → is_some (Y (suc n)) ≡ true → ((k : ℕ) → k < n + 1 → X (suc k) ≡ Y (suc k)) → X m ≡ Y m) → X m ≡ Y m
        by true e true f later = later e f (below_more (λ k. X (suc k) ≡ Y (suc k)) n alike (sym (held_own X n e) ∙ same n ∙ held_own Y n f))
        by false e false f later = behind n each alike e f also m
        by false e true f later = absurd (clash X Y x y same n each also e f)
        by true e false f later = absurd (clash Y X y x (λ k. sym (same k)) n also each f e)

    pub all_same : (m : ℕ) → X m ≡ Y m
    all_same = scan (most + 1) 0 (omega arith) (λ k below. absurd (omega arith)) (λ k below. absurd (omega arith)) (λ k below. absurd (omega arith))
