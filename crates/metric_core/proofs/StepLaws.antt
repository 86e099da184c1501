-- Which recordings are legal.
use Rattle.std.proofs.Common.{◌≡◌, ℕ, ◌+◌, ◌<◌, Bool, true, false, not, ℤ, List, Result, Ok, length, refl, sym, ap, subst, ◌∙◌, arith}
use Rattle.std.specs.Prelude.{nat_lt, slice_index}
use Rattle.std.proofs.lemmas.Bool.Decides.{nat_tests}
use Rattle.metric_base.specs.Steps.{◌>>=◌, require}
use Rattle.metric_history.specs.Journals.{Standing}
use Rattle.metric_contents.specs.declared.refusal.Refusal.{Refusal}
use Rattle.metric_contents.specs.declared.refusal.Refusal.TheVariants.{UnknownRecorder, ValueRange, Closed, Budget, SumRange}
use Rattle.metric_history.specs.declared.entry.Entry.{Entry}
use Rattle.metric_history.specs.declared.event.Reply.TheVariants.{Accepted}
use Rattle.metric_facts.specs.declared.facts.Facts.{Facts}
use Rattle.metric_history.specs.Answers.{Past, recorded, spent}
use Rattle.metric_facts.specs.Facts.{in_bounds}
use Rattle.metric_history.specs.Legal.{LegalRecord}
use Rattle.metric_history.specs.Windows.{fits_all}
use Rattle.metric_core.specs.Cells.{CellStands, CellValue, told_by}
use Rattle.metric_core.specs.CellAnswers.{GainsEntry, IsJudged, budget_of, entry_of, with_entry}
use Rattle.metric_core.specs.Steps.{RecordStep, encoded_entry, outcome}

-- what a recording comes to, test by test
recorded_by : (facts : Facts) (told : Past) (recorder : ℕ) (set : List ℕ) (value : ℤ) (given : Result (List ℕ) Refusal) → given ≡ Ok set
    → nat_lt recorder (length facts.budgets) ≡ true → in_bounds facts value ≡ true → told.closed ≡ false
    → nat_lt (spent told.accepted recorder) (slice_index facts.budgets recorder + told.granted recorder) ≡ true
    → fits_all facts told.mark told.accepted (entry_of recorder set value) ≡ true
    → recorded facts told given recorder value ≡ Ok (entry_of recorder set value)
recorded_by facts told recorder set value given is known within opened left fits =
    ap (λ (b : Bool). require b UnknownRecorder >>= λ _.
    given >>= λ s.
    require (in_bounds facts value) ValueRange >>= λ _.
    require (not told.closed) Closed >>= λ _.
    require (nat_lt (spent told.accepted recorder) (slice_index facts.budgets recorder + told.granted recorder)) Budget >>= λ _.
    require (fits_all facts told.mark told.accepted (entry_of recorder s value)) SumRange >>= λ _. Ok (entry_of recorder s value)) known
    ∙ ap (λ (r : Result (List ℕ) Refusal). r >>= λ s.
    require (in_bounds facts value) ValueRange >>= λ _.
    require (not told.closed) Closed >>= λ _.
    require (nat_lt (spent told.accepted recorder) (slice_index facts.budgets recorder + told.granted recorder)) Budget >>= λ _.
    require (fits_all facts told.mark told.accepted (entry_of recorder s value)) SumRange >>= λ _. Ok (entry_of recorder s value)) is
    ∙ ap (λ (b : Bool). require b ValueRange >>= λ _.
    require (not told.closed) Closed >>= λ _.
    require (nat_lt (spent told.accepted recorder) (slice_index facts.budgets recorder + told.granted recorder)) Budget >>= λ _.
    require (fits_all facts told.mark told.accepted (entry_of recorder set value)) SumRange >>= λ _. Ok (entry_of recorder set value)) within
    ∙ ap (λ (b : Bool). require (not b) Closed >>= λ _.
    require (nat_lt (spent told.accepted recorder) (slice_index facts.budgets recorder + told.granted recorder)) Budget >>= λ _.
    require (fits_all facts told.mark told.accepted (entry_of recorder set value)) SumRange >>= λ _. Ok (entry_of recorder set value)) opened
    ∙ ap (λ (b : Bool). require b Budget >>= λ _.
    require (fits_all facts told.mark told.accepted (entry_of recorder set value)) SumRange >>= λ _. Ok (entry_of recorder set value)) left
    ∙ ap (λ (b : Bool). require b SumRange >>= λ _. Ok (entry_of recorder set value)) fits

-- a recording that a cell accepts
pub accepted_legal : {B : Type 0} (stands : B → Standing) (c : CellValue B) (recorder : ℕ) (set : List ℕ) (value : ℤ) (given : Result (List ℕ) Refusal) (journal : List Entry)
    → given ≡ Ok set → recorder < length c.facts.budgets → in_bounds c.facts value ≡ true
    → IsJudged stands c (entry_of recorder set value) true → CellStands stands c journal
    → LegalRecord (recorded c.facts (told_by c journal) given recorder value) Accepted
accepted_legal stands c recorder set value given journal is known within judged s =
    let charged = s.charged recorder known in
    let room = judged.has_budget in
    let left : nat_lt (spent journal recorder) (budget_of c recorder) ≡ true = grind (arith, nat_tests) in
    let counted : nat_lt recorder (length c.facts.budgets) ≡ true = grind (arith, nat_tests) in
    subst (λ (r : Result Entry Refusal). LegalRecord r Accepted)
    (sym (recorded_by c.facts (told_by c journal) recorder set value given is counted within judged.is_open left (judged.fitting journal s))) tt

-- the step of an accepted recording
accepted_step_of : {B : Type 0} (stands : B → Standing) (c new : CellValue B) (recorder : ℕ) (set : List ℕ) (value : ℤ)
    → recorder < length c.facts.budgets → in_bounds c.facts value ≡ true → IsJudged stands c (entry_of recorder set value) true
    → new ≡ with_entry c (entry_of recorder set value) new.book → GainsEntry stands c new (entry_of recorder set value)
    → RecordStep stands c (entry_of recorder set value) (Ok set) (outcome Accepted new)
accepted_step_of stands c new recorder set value known within judged made gains = record {
  legal = λ journal s. accepted_legal stands c recorder set value (Ok set) journal refl known within judged s;
  gains = gains;
  after = made;
}

pub accepted_step : {B : Type 0} (stands : B → Standing) (c new : CellValue B) (recorder : ℕ) (set : List ℕ) (value told : ℤ) (given : Result (List ℕ) Refusal)
    → given ≡ Ok set → told ≡ value → recorder < length c.facts.budgets → in_bounds c.facts value ≡ true → IsJudged stands c (entry_of recorder set told) true
    → new ≡ with_entry c (entry_of recorder set told) new.book → GainsEntry stands c new (entry_of recorder set told)
    → RecordStep stands c (encoded_entry recorder given value) given (outcome Accepted new)
accepted_step stands c new recorder set value told given is same known within judged made gains =
    subst (λ (r : Result (List ℕ) Refusal). RecordStep stands c (encoded_entry recorder r value) r (outcome Accepted new)) (sym is)
    (accepted_step_of stands c new recorder set value known within
    (subst (λ (v : ℤ). IsJudged stands c (entry_of recorder set v) true) same judged)
    (subst (λ (v : ℤ). new ≡ with_entry c (entry_of recorder set v) new.book) same made)
    (subst (λ (v : ℤ). GainsEntry stands c new (entry_of recorder set v)) same gains))
