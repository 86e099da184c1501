-- The instruments compared one after the other, and by whose seats.
use Rattle.std.proofs.Common.{◌≡◌, ◌<◌, ◌≤◌, ℕ, zero, suc, ◌+◌, Bool, true, false, List, [], ◌∷◌, ◌++◌, Some, Ok, length, drop, refl, sym, ap, subst, ◌∙◌, append_assoc, arith}
use Rattle.std.specs.Prelude.{◌==◌, Result, Err, slice_get}
use Rattle.std.proofs.lemmas.Bool.Decides.{nat_tests}
use Rattle.std.proofs.lemmas.List.{append-nil, drop_all}
use Rattle.std.proofs.lemmas.Option.{same_Some}
use Rattle.metric_base.specs.Steps.{◌>>=◌, require}
use Rattle.metric_core.specs.Cells.{CellValue}
use Rattle.metric_facts.specs.declared.facts.Facts.{Facts}
use Rattle.metric_history.specs.declared.entry.Entry.{Entry}
use Rattle.metric_seat.specs.declared.fault.FinishFault.{FinishFault}
use Rattle.metric_seat.specs.declared.fault.FinishFault.TheVariants.{RecorderMissing, Stranger, AuditMismatch, Memory}
use Rattle.metric_seat.specs.declared.total.Total.{Total}
use Rattle.metric_seat.specs.Seats.{ProviderValue, RecorderValue}
use Rattle.metric_seat.specs.Settlements.{has_each, told_total}
use Rattle.metric_provider.specs.Totals.{RefusesFinish, RefusesTotals, number_of, partly_seated, seated, told_on, told_totals}

has_all : (b : Bool) → require b RecorderMissing ≡ Ok tt → b ≡ true
has_all true e = refl
has_all false e = absurd cc

-- seats without a fault, of which none may be missing, are those of all recorders
pub seated_each : (p : ProviderValue) (seats : List RecorderValue) → seated p seats ≡ Ok tt → has_each number_of seats (length p.plan.facts.contents.recorders) ≡ true
seated_each p seats ok = has_all (has_each number_of seats (length p.plan.facts.contents.recorders)) (at (partly_seated p seats) ok)
  where
    at : (r : Result (Unit {0}) FinishFault) → (r >>= λ _. require (has_each number_of seats (length p.plan.facts.contents.recorders)) RecorderMissing) ≡ Ok tt
        → require (has_each number_of seats (length p.plan.facts.contents.recorders)) RecorderMissing ≡ Ok tt
    at (Ok done) e = e
    at (Err fault) e = absurd cc

drop_at : {X : Type 0} (xs : List X) (n : ℕ) (x : X) → slice_get xs n ≡ Some x → drop n xs ≡ x ∷ drop (n + 1) xs
drop_at [] n x found = absurd cc
drop_at (y ∷ xs) zero x found = ap (λ z. z ∷ xs) (same_Some y x found)
drop_at (y ∷ xs) (suc n) x found =
    let next : n + 1 ≡ suc n = omega arith in
    let last : suc n + 1 ≡ suc (n + 1) = omega arith in
    drop_at xs n x found ∙ ap (λ (k : ℕ). x ∷ drop k (y ∷ xs)) (sym last)

-- the total of one instrument more
pub totals_more : (seats : List RecorderValue) (number : ℕ) (instruments : List Facts) (done new all : List Total) (own : Facts) (total : Total)
    → slice_get instruments number ≡ Some own → total ≡ told_total (told_on number) own.lo seats → new ≡ done ++ total ∷ []
    → done ++ told_totals seats number (drop number instruments) ≡ all
    → new ++ told_totals seats (number + 1) (drop (number + 1) instruments) ≡ all
totals_more seats number instruments done new all own total found is pushed before =
    ap (λ (ts : List Total). ts ++ told_totals seats (number + 1) (drop (number + 1) instruments)) pushed
    ∙ append_assoc done (total ∷ []) (told_totals seats (number + 1) (drop (number + 1) instruments))
    ∙ ap (λ (t : Total). done ++ t ∷ told_totals seats (number + 1) (drop (number + 1) instruments)) is
    ∙ ap (λ (rest : List Facts). done ++ told_totals seats number rest) (sym (drop_at instruments number own found))
    ∙ before

-- what holds of the lanes of each instrument, and of one instrument more
pub told_more_cells : {X : Type 0} (P : Facts → X → ℕ → Type 0) (instruments : List Facts) (cells : List X) (number : ℕ) (own : Facts) (c : X)
    → slice_get instruments number ≡ Some own → slice_get cells number ≡ Some c → P own c number
    → ((i : ℕ) (f : Facts) (d : X) → i < number → slice_get instruments i ≡ Some f → slice_get cells i ≡ Some d → P f d i)
    → (i : ℕ) (f : Facts) (d : X) → i < number + 1 → slice_get instruments i ≡ Some f → slice_get cells i ≡ Some d → P f d i
told_more_cells {X} P instruments cells number own c found there told before i f d below at_i in_i = at (i == number) refl
  where
    at : (b : Bool) → (i == number) ≡ b → P f d i
    at true e =
        let same : number ≡ i = grind (arith, nat_tests) in
        let facts : own ≡ f = same_Some own f (sym found ∙ ap (λ (n : ℕ). slice_get instruments n) same ∙ at_i) in
        let cell : c ≡ d = same_Some c d (sym there ∙ ap (λ (n : ℕ). slice_get cells n) same ∙ in_i) in
        subst (λ (x : X). P f x i) cell (subst (λ (x : Facts). P x c i) facts (subst (λ (n : ℕ). P own c n) same told))
    at false e =
        let earlier : i < number = grind (arith, nat_tests) in
        before i f d earlier at_i in_i

-- past the last instrument, the totals so far are those of all
pub totals_end : (seats : List RecorderValue) (number : ℕ) (all : List Facts) (totals whole : List Total)
    → length all ≤ number → totals ++ told_totals seats number (drop number all) ≡ whole → totals ≡ whole
totals_end seats number all totals whole past so_far =
    sym (append-nil totals) ∙ ap (λ (rest : List Facts). totals ++ told_totals seats number rest) (sym (drop_all number all past)) ∙ so_far

-- ---- refusals

-- what refuses the totals refuses to finish
pub finish_refused : {B : Type 0} (whole : Bool) (kept : B → List Entry) (instruments : List Facts) (cells : List (List (CellValue B))) (seats : List RecorderValue) (fault : FinishFault)
    → RefusesTotals whole kept instruments cells seats fault → RefusesFinish (Ok tt) fault
finish_refused whole kept instruments cells seats AuditMismatch why = tt
finish_refused whole kept instruments cells seats Memory why = tt
finish_refused whole kept instruments cells seats RecorderMissing why = absurd why
finish_refused whole kept instruments cells seats Stranger why = absurd why
