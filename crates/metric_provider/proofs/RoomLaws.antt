-- The room of a recorder is a u64, within its budget and the spare.
use Rattle.std.proofs.Common.{◌≡◌, ◌<◌, ◌≤◌, ◌+◌, ◌-◌, ◌^◌, ℕ, length, subst, arith}
use Rattle.std.specs.Prelude.{slice_index}
use Rattle.std.proofs.lemmas.List.Sums.{get_or-le-sum_by}
use Rattle.metric_history.specs.Journals.{Standing}
use Rattle.metric_core.specs.Cells.{CellKept, CellValue}
use Rattle.metric_core.specs.CellAnswers.{budget_of}
use Rattle.metric_facts.specs.declared.facts.Facts.{Facts}

pub room_fits : {B : Type 0} (stands : B → Standing) (c : CellValue B) (own : Facts) (recorder : ℕ) → CellKept stands c → c.facts ≡ own
    → recorder < length own.budgets → slice_index own.budgets recorder + slice_index c.granted recorder < 2 ^ 64
room_fits stands c own recorder k same =
    let P : Facts → Type 0 = λ f. recorder < length f.budgets → slice_index f.budgets recorder + slice_index c.granted recorder < 2 ^ 64 in
    subst P same
    (λ known. omega (arith, k.budgeted, k.shared, get_or-le-sum_by (λ (n : ℕ). n) c.facts.budgets recorder 0 known, get_or-le-sum_by (λ (n : ℕ). n) c.granted recorder 0 (omega (arith, k.one_grant_each))))

pub room_most : {B : Type 0} (stands : B → Standing) (c : CellValue B) (own : Facts) (recorder told room : ℕ) → CellKept stands c → c.facts ≡ own
    → recorder < length own.budgets → slice_index c.spent recorder ≡ told → room ≡ budget_of c recorder - told
    → told + room ≤ slice_index own.budgets recorder + own.spare
room_most stands c own recorder told room k same =
    let P : Facts → Type 0 = λ f. recorder < length f.budgets → slice_index c.spent recorder ≡ told → room ≡ budget_of c recorder - told
    → told + room ≤ slice_index f.budgets recorder + f.spare in
    subst P same
    (λ known spent is. omega (arith, known, spent, is, k.within recorder, k.shared, get_or-le-sum_by (λ (n : ℕ). n) c.granted recorder 0 (omega (arith, k.one_grant_each))))
