-- What a recording, a collection and a grant make of the numbers that a cell keeps.
use Rattle.std.proofs.Common.{◌≡◌, ◌≢◌, ℕ, zero, suc, ◌+◌, ◌-◌, ◌^◌, ◌<◌, ◌≤◌, Bool, true, false, cond, ℤ, pos, neg_ℤ, ◌+ℤ◌, ◌≤ℤ◌, List, [], ◌∷◌, ◌++◌, length, refl, sym, ap, subst, ◌∙◌, arith}
use Rattle.std.specs.Prelude.{◌==◌, Ok, nat_lt, replicate, slice_index, slice_index_or, slice_set, sum}
use Rattle.std.proofs.lemmas.Bool.{and_parts, ltb-true}
use Rattle.std.proofs.lemmas.Bool.Decides.{nat_tests}
use Rattle.std.proofs.lemmas.Int.{ints}
use Rattle.std.proofs.lemmas.List.{length-set, length-replicate, length_push, get_or-set_same, get_or-set_other}
use Rattle.std.proofs.lemmas.List.Folds.{sum_by-replicate}
use Rattle.std.proofs.lemmas.List.Sums.{get_or-le-sum_by, sum_by_push}
use Rattle.metric_history.specs.Journals.{MayAnswer, MayTake, Standing, no_marks}
use Rattle.metric_combinations.specs.Combinations.{permits}
use Rattle.metric_history.specs.declared.entry.Entry.{Entry}
use Rattle.metric_facts.specs.declared.facts.Facts.{Facts}
use Rattle.metric_history.specs.Answers.{spent}
use Rattle.metric_facts.specs.Facts.{in_bounds, is_allowed_set, is_full_set}
use Rattle.metric_history.specs.SumLaws.{sum_push}
use Rattle.metric_core.proofs.BudgetLaws.{raised_more, raised_within, sum_raised}
use Rattle.metric_core.specs.BudgetLaws.{has_room}
use Rattle.metric_safety.specs.AdmissionLaws.{admitted_more}
use Rattle.metric_safety.specs.SafeFacts.{is_admitted, total}
use Rattle.metric_core.specs.Cells.{CellKept, CellStands, CellValue, new_cell}
use Rattle.metric_core.specs.CellAnswers.{budget_of, with_batch, with_entry, with_grant}

-- an element after one was replaced
pub set_at : (xs : List ℕ) (q r x d : ℕ) → q < length xs → slice_index_or (slice_set xs q x) r d ≡ cond (q == r) x (slice_index_or xs r d)
set_at xs q r x d below = at (q == r) refl
  where
    at : (b : Bool) → (q == r) ≡ b → slice_index_or (slice_set xs q x) r d ≡ cond b x (slice_index_or xs r d)
    at true e = let same : q ≡ r = grind (arith, nat_tests) in subst (λ (k : ℕ). slice_index_or (slice_set xs q x) k d ≡ x) same (get_or-set_same xs q x d below)
    at false e = let other : r ≢ q = grind (arith, nat_tests) in get_or-set_other xs q r x d other

-- how many recordings a recorder made, with one more
spent_push : (journal : List Entry) (entry : Entry) (r : ℕ) → spent (journal ++ entry ∷ []) r ≡ spent journal r + cond (entry.recorder == r) 1 0
spent_push journal entry r = sum_by_push (λ (e : Entry). cond (e.recorder == r) 1 0) journal entry

charged_push : (xs : List ℕ) (journal : List Entry) (entry : Entry) (r : ℕ) → entry.recorder < length xs → slice_index xs r ≡ spent journal r
    → slice_index (slice_set xs entry.recorder (slice_index xs entry.recorder + 1)) r ≡ spent (journal ++ entry ∷ []) r
charged_push xs journal entry r below charged =
    let raised = set_at xs entry.recorder r (slice_index xs entry.recorder + 1) 0 below in
    let pushed = spent_push journal entry r in
    at (entry.recorder == r) refl raised pushed
  where
    at : (b : Bool) → (entry.recorder == r) ≡ b
        → slice_index (slice_set xs entry.recorder (slice_index xs entry.recorder + 1)) r ≡ cond b (slice_index xs entry.recorder + 1) (slice_index xs r)
        → spent (journal ++ entry ∷ []) r ≡ spent journal r + cond b 1 0
        → slice_index (slice_set xs entry.recorder (slice_index xs entry.recorder + 1)) r ≡ spent (journal ++ entry ∷ []) r
    at true e raised pushed =
        let same : entry.recorder ≡ r = grind (arith, nat_tests) in
        let here : slice_index xs entry.recorder ≡ slice_index xs r = ap (slice_index xs) same in
        omega (arith, here)
    at false e raised pushed = omega arith

-- the cell with one recording more, which its book takes, stands for it too
pub stands_pushed : {B : Type 0} (stands : B → Standing) (c : CellValue B) (entry : Entry) (book : B) (journal : List Entry)
    → length c.spent ≡ length c.facts.budgets → entry.recorder < length c.facts.budgets
    → CellStands stands c journal → stands book c.facts (journal ++ entry ∷ []) c.marks
    → CellStands stands (with_entry c entry book) (journal ++ entry ∷ [])
stands_pushed stands c entry book journal long below s taken = record {
  book = taken;
  counted = omega (arith, length_push journal entry, s.counted);
  summed = ap (λ (total : ℤ). total +ℤ entry.value) s.summed ∙ sym (sum_push journal entry);
  charged = λ r known. charged_push c.spent journal entry r (omega arith) (s.charged r known);
}

-- the book may take it
pub may_take : {B : Type 0} (stands : B → Standing) (c : CellValue B) (entry : Entry) → CellKept stands c
    → entry.recorder < length c.facts.budgets → slice_index c.spent entry.recorder < budget_of c entry.recorder
    → is_allowed_set c.facts entry.set ≡ true → in_bounds c.facts entry.value ≡ true → MayTake (stands c.book) entry
may_take stands c entry k below room allowed within = (
  c.facts,
  k.journal,
  c.marks,
  (
    k.known.book,
    record {
      full = (and_parts (is_full_set c.facts.keys entry.set) (permits c.facts.allowed entry.set) allowed).0;
      allowed = (and_parts (is_full_set c.facts.keys entry.set) (permits c.facts.allowed entry.set) allowed).1;
      value = within;
      counted = omega (arith, k.known.counted, k.budgeted, has_room stands c entry.recorder k room);
    },
  ),
)

-- a recorder with recordings left has made less than a u64 of them
pub charge_fits : {B : Type 0} (stands : B → Standing) (c : CellValue B) (recorder : ℕ) → CellKept stands c
    → recorder < length c.facts.budgets → slice_index c.spent recorder < budget_of c recorder → slice_index c.spent recorder + 1 < 2 ^ 64
charge_fits stands c recorder k known left =
    omega (arith, left, k.budgeted, k.shared, get_or-le-sum_by (λ (n : ℕ). n) c.facts.budgets recorder 0 known, get_or-le-sum_by (λ (n : ℕ). n) c.granted recorder 0 (omega (arith, k.one_grant_each)))

-- what a recorder was granted is with a grant more still a u64
pub grant_fits : {B : Type 0} (stands : B → Standing) (c : CellValue B) (recorder amount : ℕ) → CellKept stands c
    → recorder < length c.facts.budgets → amount ≤ c.spare → slice_index c.granted recorder + amount < 2 ^ 64
grant_fits stands c recorder amount k known left =
    omega (arith, k.budgeted, k.shared, get_or-le-sum_by (λ (n : ℕ). n) c.granted recorder 0 (omega (arith, k.one_grant_each)))

-- where there is room for one more, the sum of those so far is an i128 with room for one value more
pub sum_low : {B : Type 0} (stands : B → Standing) (c : CellValue B) → CellKept stands c → c.count + 1 ≤ total c.facts → neg_ℤ (pos (2 ^ 127 - 2 ^ 63)) ≤ℤ c.total
sum_low stands c k room = let before = k.low in let most = k.budgeted in omega (arith, ints)

pub sum_high : {B : Type 0} (stands : B → Standing) (c : CellValue B) → CellKept stands c → c.count + 1 ≤ total c.facts → c.total ≤ℤ pos (2 ^ 127 - 2 ^ 63)
sum_high stands c k room = let before = k.high in let most = k.budgeted in omega (arith, ints)

-- what a cell keeps, with one recording more
pub kept_pushed : {B : Type 0} (stands : B → Standing) (c : CellValue B) (entry : Entry) (book : B) → CellKept stands c
    → entry.recorder < length c.facts.budgets → slice_index c.spent entry.recorder < budget_of c entry.recorder
    → is_admitted c.facts entry ≡ true → neg_ℤ (pos (2 ^ 63)) ≤ℤ entry.value → entry.value ≤ℤ pos (2 ^ 63)
    → ((journal : List Entry) → stands c.book c.facts journal c.marks → stands book c.facts (journal ++ entry ∷ []) c.marks)
    → CellKept stands (with_entry c entry book)
kept_pushed stands c entry book k below room one low high taken = record {
  journal = k.journal ++ entry ∷ [];
  known = stands_pushed stands c entry book k.journal k.one_budget_each below k.known (taken k.journal k.known.book);
  admitted = admitted_more c.facts k.journal entry k.admitted one;
  one_mark_each = k.one_mark_each;
  one_time_each = k.one_time_each;
  one_budget_each = length-set c.spent entry.recorder (slice_index c.spent entry.recorder + 1) ∙ k.one_budget_each;
  one_grant_each = k.one_grant_each;
  within = raised_within c.spent (budget_of c) entry.recorder (omega (arith, k.one_budget_each)) k.within room;
  shared = k.shared;
  past = λ reader. omega (arith, k.past reader);
  counted = omega (arith, k.counted, sum_raised c.spent entry.recorder 1 (omega (arith, k.one_budget_each)));
  budgeted = k.budgeted;
  low = let before = k.low in omega (arith, ints);
  high = let before = k.high in omega (arith, ints);
}

-- the cell after a batch, where its book moves the mark
pub stands_moved : {B : Type 0} (stands : B → Standing) (c : CellValue B) (reader time : ℕ) (book : B) (journal : List Entry)
    → CellStands stands c journal → stands book c.facts journal (slice_set c.marks reader (length journal))
    → CellStands stands (with_batch c reader time book) journal
stands_moved stands c reader time book journal s moved = record {
  book = subst (λ (n : ℕ). stands book c.facts journal (slice_set c.marks reader n)) (sym s.counted) moved;
  counted = s.counted;
  summed = s.summed;
  charged = s.charged;
}

pub kept_moved : {B : Type 0} (stands : B → Standing) (c : CellValue B) (reader time : ℕ) (book : B) → CellKept stands c
    → reader < length c.facts.delta
    → ((journal : List Entry) → stands c.book c.facts journal c.marks → stands book c.facts journal (slice_set c.marks reader (length journal)))
    → CellKept stands (with_batch c reader time book)
kept_moved stands c reader time book k below moved = record {
  journal = k.journal;
  known = stands_moved stands c reader time book k.journal k.known (moved k.journal k.known.book);
  admitted = k.admitted;
  one_mark_each = length-set c.marks reader c.count ∙ k.one_mark_each;
  one_time_each = length-set c.times reader time ∙ k.one_time_each;
  one_budget_each = k.one_budget_each;
  one_grant_each = k.one_grant_each;
  within = k.within;
  shared = k.shared;
  past = λ r. moved_past c.marks reader r c.count (omega (arith, k.one_mark_each)) k.past;
  counted = k.counted;
  budgeted = k.budgeted;
  low = k.low;
  high = k.high;
}
  where
    moved_past : (xs : List ℕ) (q r n : ℕ) → q < length xs → ((i : ℕ) → slice_index xs i ≤ n) → slice_index (slice_set xs q n) r ≤ n
    moved_past xs q r n known past = at (q == r) (set_at xs q r n 0 known)
      where
        at : (b : Bool) → slice_index (slice_set xs q n) r ≡ cond b n (slice_index xs r) → slice_index (slice_set xs q n) r ≤ n
        at true e = omega arith
        at false e = omega (arith, past r)

-- the cell after a grant
pub stands_granted : {B : Type 0} (stands : B → Standing) (c : CellValue B) (recorder amount : ℕ) (journal : List Entry) → CellStands stands c journal
    → CellStands stands (with_grant c recorder amount) journal
stands_granted stands c recorder amount journal s = record { book = s.book; counted = s.counted; summed = s.summed; charged = s.charged }

pub kept_granted : {B : Type 0} (stands : B → Standing) (c : CellValue B) (recorder amount : ℕ) → CellKept stands c
    → recorder < length c.facts.budgets → amount ≤ c.spare → CellKept stands (with_grant c recorder amount)
kept_granted stands c recorder amount k known left = record {
  journal = k.journal;
  known = stands_granted stands c recorder amount k.journal k.known;
  admitted = k.admitted;
  one_mark_each = k.one_mark_each;
  one_time_each = k.one_time_each;
  one_budget_each = k.one_budget_each;
  one_grant_each = length-set c.granted recorder (slice_index c.granted recorder + amount) ∙ k.one_grant_each;
  within = λ r. omega (arith, k.within r, raised_more c.granted recorder amount (omega (arith, k.one_grant_each)) r);
  shared = omega (arith, k.shared, left, sum_raised c.granted recorder amount (omega (arith, k.one_grant_each)));
  past = k.past;
  counted = k.counted;
  budgeted = k.budgeted;
  low = k.low;
  high = k.high;
}

-- what a cell keeps, where its book is the same
pub same_kept : {B : Type 0} (stands : B → Standing) (c : CellValue B) (book : B) → book ≡ c.book → CellKept stands c → CellKept stands (record c { book = book })
same_kept {B} stands c book same k = subst (λ (b : B). CellKept stands (record c { book = b })) (sym same) k

-- one element everywhere
pub same_everywhere : (n x r : ℕ) → slice_index_or (replicate n x) r x ≡ x
same_everywhere zero x r = refl
same_everywhere (suc n) x zero = refl
same_everywhere (suc n) x (suc r) = same_everywhere n x r

-- a cell without recordings
pub new_stands : {B : Type 0} (stands : B → Standing) (facts : Facts) (start : ℕ) (book : B) → stands book facts [] (no_marks facts)
    → CellStands stands (new_cell facts start book) []
new_stands stands facts start book begins = record {
  book = begins;
  counted = refl;
  summed = refl;
  charged = λ r known. same_everywhere (length facts.budgets) 0 r;
}

pub new_kept : {B : Type 0} (stands : B → Standing) (facts : Facts) (start : ℕ) (book : B) → stands book facts [] (no_marks facts)
    → total facts < 2 ^ 64 → CellKept stands (new_cell facts start book)
new_kept stands facts start book begins budgeted = record {
  journal = [];
  known = new_stands stands facts start book begins;
  admitted = refl;
  one_mark_each = length-replicate (length facts.delta) 0;
  one_time_each = length-replicate (length facts.delta) start;
  one_budget_each = length-replicate (length facts.budgets) 0;
  one_grant_each = length-replicate (length facts.budgets) 0;
  within = λ r. omega (arith, same_everywhere (length facts.budgets) 0 r);
  shared = let none : sum (replicate (length facts.budgets) 0) ≡ 0 = sum_by-replicate (λ (n : ℕ). n) (length facts.budgets) 0 ∙ omega arith in omega (arith, none);
  past = λ r. omega (arith, same_everywhere (length facts.delta) 0 r);
  counted = sym (sum_by-replicate (λ (n : ℕ). n) (length facts.budgets) 0 ∙ omega arith);
  budgeted = budgeted;
  low = omega (arith, ints);
  high = omega (arith, ints);
}

-- the test of what is left, where the budgets are given
pub has_left : (made budgets granted : List ℕ) (recorder : ℕ) (b : Bool) (given : List ℕ) → given ≡ budgets
    → b ≡ nat_lt (slice_index made recorder) (slice_index given recorder + slice_index granted recorder) → b ≡ true
    → slice_index made recorder < slice_index budgets recorder + slice_index granted recorder
has_left made budgets granted recorder b given is_budget is holds =
    let before : nat_lt (slice_index made recorder) (slice_index given recorder + slice_index granted recorder) ≡ true = sym is ∙ holds in
    ltb-true (slice_index made recorder) (slice_index budgets recorder + slice_index granted recorder)
    (subst (λ (xs : List ℕ). nat_lt (slice_index made recorder) (slice_index xs recorder + slice_index granted recorder) ≡ true) is_budget before)

-- what was taken keeps each series in range
pub fits_taken : (fits : Bool) → MayAnswer fits (Ok tt) → fits ≡ true
fits_taken true taken = refl
fits_taken false taken = absurd taken

pub stands_recorded : {B : Type 0} (stands : B → Standing) (c new : CellValue B) (entry : Entry) (journal : List Entry) → new ≡ with_entry c entry new.book
    → length c.spent ≡ length c.facts.budgets → entry.recorder < length c.facts.budgets
    → CellStands stands c journal → stands new.book c.facts (journal ++ entry ∷ []) c.marks → CellStands stands new (journal ++ entry ∷ [])
stands_recorded {B} stands c new entry journal made long below s taken =
    subst (λ (v : CellValue B). CellStands stands v (journal ++ entry ∷ [])) (sym made) (stands_pushed stands c entry new.book journal long below s taken)

pub kept_recorded : {B : Type 0} (stands : B → Standing) (c new : CellValue B) (entry : Entry) → new ≡ with_entry c entry new.book → CellKept stands c
    → entry.recorder < length c.facts.budgets → slice_index c.spent entry.recorder < budget_of c entry.recorder
    → is_admitted c.facts entry ≡ true → neg_ℤ (pos (2 ^ 63)) ≤ℤ entry.value → entry.value ≤ℤ pos (2 ^ 63)
    → ((journal : List Entry) → stands c.book c.facts journal c.marks → stands new.book c.facts (journal ++ entry ∷ []) c.marks) → CellKept stands new
kept_recorded {B} stands c new entry made k below room one low high taken =
    subst (λ (v : CellValue B). CellKept stands v) (sym made) (kept_pushed stands c entry new.book k below room one low high taken)

pub stands_new : {B : Type 0} (stands : B → Standing) (c : CellValue B) (start : ℕ) → c ≡ new_cell c.facts start c.book → stands c.book c.facts [] (no_marks c.facts) → CellStands stands c []
stands_new {B} stands c start made begins = subst (λ (v : CellValue B). CellStands stands v []) (sym made) (new_stands stands c.facts start c.book begins)

pub kept_new : {B : Type 0} (stands : B → Standing) (c : CellValue B) (start : ℕ) → c ≡ new_cell c.facts start c.book → stands c.book c.facts [] (no_marks c.facts)
    → total c.facts < 2 ^ 64 → CellKept stands c
kept_new {B} stands c start made begins budgeted = subst (λ (v : CellValue B). CellKept stands v) (sym made) (new_kept stands c.facts start c.book begins budgeted)

pub granted_kept : {B : Type 0} (stands : B → Standing) (c new : CellValue B) (recorder amount : ℕ) → new ≡ with_grant c recorder amount → CellKept stands c
    → recorder < length c.facts.budgets → amount ≤ c.spare → CellKept stands new
granted_kept {B} stands c new recorder amount made k known left = subst (λ (v : CellValue B). CellKept stands v) (sym made) (kept_granted stands c recorder amount k known left)
