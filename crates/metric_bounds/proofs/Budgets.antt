-- Budgets of one recorder, one after the other.
use Rattle.std.proofs.Common.{◌≡◌, ◌≢◌, ◌<◌, ◌+◌, ℕ, zero, suc, Bool, true, false, cond, List, [], ◌∷◌, length, get_or, take, All, AllPairs, Option, Some, None, refl, sym, ap, subst, ◌∙◌, arith, length-take}
use Rattle.std.specs.Prelude.{find}
use Rattle.std.specs.Option.{option_or}
use Rattle.std.proofs.lemmas.Bool.{eq-eqb, eqb-true}
use Rattle.std.proofs.lemmas.List.{get_or-set_other, get_or-set_same, get_or-take, take_more}
use Rattle.std.proofs.Math.ListN.{set}
use Rattle.std.proofs.Math.Dec.{eqb}
use Rattle.std.proofs.lemmas.List.Folds.{find-append}
use Rattle.metric_contents.specs.declared.contents.Budget.{Budget}
use Rattle.metric_contents.specs.Budgets.{amount_in}
use Rattle.metric_contents.specs.Budgets.{is_budget}
use Rattle.metric_catalogue.specs.Sound.{IsSoundBudget}
use Rattle.std.proofs.lemmas.List.Elements.{All-head, All-tail}
use Rattle.std.specs.Prelude.{◌^◌}

-- The budgets are for distinct instruments.
abbrev pub AreApart : List Budget → Type 0
AreApart = AllPairs (λ b other. b.instrument ≢ other.instrument)

find_none : {X : Type 0} (p : X → Bool) (xs : List X) → ((k : ℕ) (x : X) → k < length xs → get_or xs k x ≡ x → p x ≡ false) → find p xs ≡ None
find_none p [] fails = refl
find_none p (x ∷ xs) fails = rw (fails 0 x (omega arith) refl) (find_none p xs (λ k y less is. fails (suc k) y (omega arith) is))

-- an element within a list is the same at any default
pub at_any : {X : Type 0} (xs : List X) (j : ℕ) (d e : X) → j < length xs → get_or xs j d ≡ get_or xs j e
at_any [] j d e within = absurd (omega arith)
at_any (y ∷ xs) zero d e within = refl
at_any (y ∷ xs) (suc j) d e within = at_any xs j d e (omega arith)

either : {P : Type 0} (t : Bool) → (t ≡ true → P) → (t ≡ false → P) → P
either true yes_then no_then = yes_then refl
either false yes_then no_then = no_then refl

-- no budget before is for the same instrument
pub absent : (budgets : List Budget) (j : ℕ) (d : Budget) → j < length budgets → AreApart budgets
    → find (is_budget (get_or budgets j d).instrument) (take j budgets) ≡ None
absent budgets j d within apart =
    let own = (get_or budgets j d).instrument in
    find_none (is_budget own) (take j budgets)
    (λ k other less here.
    either (is_budget own other)
    (λ same.
    let before : k < j = omega (arith, length-take j budgets) in
    let there : get_or budgets k other ≡ other = sym (get_or-take j budgets k other before) ∙ here in
    absurd (apart k j other before within
    (ap (λ (x : Budget). x.instrument) there ∙ eqb-true other.instrument own same ∙ ap (λ (x : Budget). x.instrument) (at_any budgets j d other within))))
    (λ differs. differs))

with_next : (t : Bool) (b : Budget) (o : Option Budget) → (t ≡ true → o ≡ None) → amount_in (option_or o (cond t (Some b) None)) ≡ amount_in o + cond t b.amount 0
with_next true b None alone = omega arith
with_next true b (Some other) alone = absurd (let none = alone refl in cc)
with_next false b None alone = refl
with_next false b (Some other) alone = omega arith

-- what one more budget adds
amount_more : (budgets : List Budget) (j : ℕ) (d : Budget) (i : ℕ) → j < length budgets → AreApart budgets
    → amount_in (find (is_budget i) (take (j + 1) budgets))
    ≡ amount_in (find (is_budget i) (take j budgets)) + cond (is_budget i (get_or budgets j d)) (get_or budgets j d).amount 0
amount_more budgets j d i within apart =
    let b = get_or budgets j d in
    ap (λ (bs : List Budget). amount_in (find (is_budget i) bs)) (take_more budgets j d within)
    ∙ ap amount_in (find-append (is_budget i) (take j budgets) (b ∷ []))
    ∙ with_next (is_budget i b) b (find (is_budget i) (take j budgets))
    (λ own. subst (λ (n : ℕ). find (is_budget n) (take j budgets) ≡ None) (eqb-true b.instrument i own) (absent budgets j d within apart))

-- the totals with one more budget
pub added_more : (before totals : List ℕ) (budgets : List Budget) (j : ℕ) (d : Budget) → length totals ≡ length before → (get_or budgets j d).instrument < length totals
    → j < length budgets → AreApart budgets
    → ((i : ℕ) → i < length before → get_or totals i 0 ≡ get_or before i 0 + amount_in (find (is_budget i) (take j budgets)))
    → (i : ℕ) → i < length before
    → get_or (set totals (get_or budgets j d).instrument (get_or totals (get_or budgets j d).instrument 0 + (get_or budgets j d).amount)) i 0
    ≡ get_or before i 0 + amount_in (find (is_budget i) (take (j + 1) budgets))
added_more before totals budgets j d long known within apart added i inside =
    let b = get_or budgets j d in
    let more = amount_more budgets j d i within apart in
    either (is_budget i b)
    (λ own.
    let same : i ≡ b.instrument = sym (eqb-true b.instrument i own) in
    let at : get_or (set totals b.instrument (get_or totals b.instrument 0 + b.amount)) b.instrument 0 ≡ get_or totals b.instrument 0 + b.amount =
    get_or-set_same totals b.instrument (get_or totals b.instrument 0 + b.amount) 0 known in
    let here : get_or (set totals b.instrument (get_or totals b.instrument 0 + b.amount)) i 0 ≡ get_or totals i 0 + b.amount =
    ap (λ (n : ℕ). get_or (set totals b.instrument (get_or totals b.instrument 0 + b.amount)) n 0) same ∙ at ∙ ap (λ (n : ℕ). get_or totals n 0 + b.amount) (sym same) in
    let one : cond (is_budget i b) b.amount 0 ≡ b.amount = rw own refl in
    omega (arith, added i inside))
    (λ other.
    let apart_from : i ≢ b.instrument = λ same. differ (b.instrument) i other (sym same) in
    let at : get_or (set totals b.instrument (get_or totals b.instrument 0 + b.amount)) i 0 ≡ get_or totals i 0 =
    get_or-set_other totals b.instrument i (get_or totals b.instrument 0 + b.amount) 0 apart_from in
    let none : cond (is_budget i b) b.amount 0 ≡ 0 = rw other refl in
    omega (arith, added i inside))
  where
    differ : (m n : ℕ) → eqb m n ≡ false → m ≡ n → ⊥
    differ m n e same = let t = eq-eqb m n same in absurd cc

-- a budget is at most 2^63 - 1
pub amount_limited : (n : ℕ) (i : ℕ) (budgets : List Budget) → All (IsSoundBudget n) budgets → amount_in (find (is_budget i) budgets) < 2 ^ 63
amount_limited n i [] all = omega arith
amount_limited n i (b ∷ budgets) all =
    either (is_budget i b)
    (λ own. let here = (All-head (IsSoundBudget n) b budgets all).limited in rw own here)
    (λ other. rw other (amount_limited n i budgets (All-tail (IsSoundBudget n) b budgets all)))
