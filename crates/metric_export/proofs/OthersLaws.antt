-- What an exporter refuses since it is another's, and that no call changes whose batches it takes.
use Rattle.std.proofs.Common.{◌≡◌, ℕ, ◌+◌, ◌<◌, ◌≤◌, Bool, List, [], ◌∷◌, length, get_or, take, drop, Option, Some, None, Result, Ok, Err, refl, ap, sym, ◌∙◌}
use Rattle.std.proofs.Common.{true, false, true≢false}
use Rattle.std.proofs.lemmas.List.{at_drop_all, at_drop_more}
use Rattle.std.specs.Option.{option_or}
use Rattle.metric_history.specs.declared.batch.Batch.{Batch}
use Rattle.metric_plan.specs.Plans.{PlanValue}
use Rattle.metric_export.specs.ExporterCalls.{IsExport}
use Rattle.metric_export.specs.Exports.{answer_to, is_own, refused_as, refuses}
use Rattle.metric_export.specs.Handings.{HandsOnInOrder, TakesEach}
use Rattle.metric_export.specs.Queues.{TriesLast, TriesWhenDue, refuses_any}
use Rattle.metric_export.specs.declared.exporter.MetricExporter as exporter
use Rattle.metric_export.specs.States.{Answers}
use Rattle.metric_export.specs.declared.fault.ExportFault.{ExportFault}
use Rattle.metric_export.specs.declared.fault.ExportFault.TheVariants as fault
use Rattle.metric_export.specs.declared.state.ExporterState.{ExporterState}
use Rattle.metric_export.specs.declared.state.ExporterState.TheVariants.{Open}

-- ---- what is refused

-- nothing, where the answer is Ok
pub none_refused : (refused : Option ExportFault) (done : Unit {0}) → Ok done ≡ answer_to refused → refused ≡ None
none_refused None done is = refl
none_refused (Some why) done is = absurd cc

-- else by what is answered
pub some_refused : (refused : Option ExportFault) (why : ExportFault) → Err why ≡ answer_to refused → refused ≡ Some why
some_refused None why is = absurd cc
some_refused (Some told) why is = cc

-- one of the two
pub not_both : {X : Type 0} (refused : Option X) (why : X) → refused ≡ None → refused ≡ Some why → ⊥
not_both refused why none some = cc

-- the first of those that are left is not refused
pub next_refused : (takes : ℕ → ℕ → Bool) (plan : PlanValue) (batches : List Batch) (i : ℕ) (batch : Batch) → i < length batches
    → batch ≡ get_or batches i batch → refuses takes plan batch ≡ None
    → refuses_any takes plan (drop i batches) ≡ refuses_any takes plan (drop (i + 1) batches)
next_refused takes plan batches i batch within is none =
    let rest = refuses_any takes plan (drop (i + 1) batches) in
    at_drop_more (refuses_any takes plan) batches i batch within
    ∙ ap (λ (x : Batch). option_or (refuses takes plan x) rest) (sym is) ∙ ap (λ (r : Option ExportFault). option_or r rest) none

-- or it is
pub this_refused : (takes : ℕ → ℕ → Bool) (plan : PlanValue) (batches : List Batch) (i : ℕ) (batch : Batch) (why : ExportFault) → i < length batches
    → batch ≡ get_or batches i batch → refuses takes plan batch ≡ Some why
    → refuses_any takes plan (drop i batches) ≡ Some why
this_refused takes plan batches i batch why within is some =
    let rest = refuses_any takes plan (drop (i + 1) batches) in
    at_drop_more (refuses_any takes plan) batches i batch within
    ∙ ap (λ (x : Batch). option_or (refuses takes plan x) rest) (sym is) ∙ ap (λ (r : Option ExportFault). option_or r rest) some

-- where none is left, none is
pub none_left : (takes : ℕ → ℕ → Bool) (plan : PlanValue) (batches : List Batch) (i : ℕ) → length batches ≤ i
    → refuses_any takes plan (drop i batches) ≡ None
none_left takes plan batches i over = at_drop_all (refuses_any takes plan) batches i over

-- the first, and then the others
pub none_of_all : (first all : Option ExportFault) → first ≡ None → all ≡ None → option_or first all ≡ None
none_of_all first all none others = cc

-- whether a fault says that a batch is another's
abbrev is_another : ExportFault → Bool
is_another fault.Write = false
is_another fault.ShutDown = false
is_another fault.Memory = false
is_another fault.Kept = false
is_another fault.OtherPlan = true
is_another fault.OtherReader = true

same_fault : (told why : ExportFault) → Some told ≡ Some why → is_another told ≡ true → is_another why ≡ true
same_fault told why is another = let e : told ≡ why = cc in rw (← e) another

refused_another : (own takes : Bool) (why : ExportFault) → refused_as own takes ≡ Some why → is_another why ≡ true
refused_another false takes why is = same_fault fault.OtherPlan why is refl
refused_another true false why is = same_fault fault.OtherReader why is refl
refused_another true true why is = absurd cc

either : (first rest : Option ExportFault) (why : ExportFault) → option_or first rest ≡ Some why
    → (first ≡ Some why → is_another why ≡ true) → (rest ≡ Some why → is_another why ≡ true) → is_another why ≡ true
either None rest why is now later = later is
either (Some told) rest why is now later = now is

any_another : (takes : ℕ → ℕ → Bool) (plan : PlanValue) (batches : List Batch) (why : ExportFault) → refuses_any takes plan batches ≡ Some why
    → is_another why ≡ true
any_another takes plan [] why is = absurd cc
any_another takes plan (batch ∷ batches) why is =
    either (refuses takes plan batch) (refuses_any takes plan batches) why is (refused_another (is_own plan batch) (takes batch.plan batch.reader) why)
    (any_another takes plan batches why)

-- an open exporter may say so
answers_another : (state : ExporterState) (failed : Type 0) (why : ExportFault) → is_another why ≡ true → state ≡ Open
    → Answers {T = Unit {0}} state failed (Err why)
answers_another state failed fault.Write another is = absurd (true≢false (sym another))
answers_another state failed fault.ShutDown another is = absurd (true≢false (sym another))
answers_another state failed fault.Memory another is = is
answers_another state failed fault.Kept another is = is
answers_another state failed fault.OtherPlan another is = is
answers_another state failed fault.OtherReader another is = is

pub answers_refused : (state : ExporterState) (failed : Type 0) (takes : ℕ → ℕ → Bool) (plan : PlanValue) (batches : List Batch) (why : ExportFault)
    → state ≡ Open → refuses_any takes plan batches ≡ Some why → Answers {T = Unit {0}} state failed (Err why)
answers_refused state failed takes plan batches why is some = answers_another state failed why (any_another takes plan batches why some) is

-- ---- whose batches are taken

module _ {E : Type 0} (by : exporter.Ghosts E) (plan : PlanValue) where
  same_of_each : (a b : E) (batches : List Batch) → TakesEach (IsExport by plan) a b batches → by.takes b ≡ by.takes a
  same_of_each a b [] p = ap by.takes p
  same_of_each a b (batch ∷ batches) p = same_of_each p.0 b batches p.1.1 ∙ p.1.0.call.same_takes

  pub same_of_handed : (a b : E) (batches : List Batch) (taken : ℕ) (refused : Option ExportFault)
      → HandsOnInOrder (IsExport by plan) a b batches taken refused → by.takes b ≡ by.takes a
  same_of_handed a b batches taken None p = same_of_each a b batches p.0
  same_of_handed a b batches taken (Some why) p =
      p.refused.call.same_takes ∙ same_of_each a p.mid (take taken batches) p.took

  same_of_last : (a b : E) (batch : Batch) (taken : ℕ) (refused : Option ExportFault) (sent : ℕ) (told : Result (Unit {0}) ExportFault)
      → TriesLast (IsExport by plan) a b batch taken refused sent told → by.takes b ≡ by.takes a
  same_of_last a b batch taken None sent told p = p.0.same_takes
  same_of_last a b batch taken (Some why) sent told p = ap by.takes p.0

  pub same_of_tries : (due : Bool) (a b : E) (kept : List Batch) (batch : Batch) (sent : ℕ) (told : Result (Unit {0}) ExportFault)
      → TriesWhenDue due (IsExport by plan) a b kept batch sent told → by.takes b ≡ by.takes a
  same_of_tries true a b kept batch sent told p =
      same_of_last p.mid b batch p.taken p.refused sent told p.last ∙ same_of_handed a p.mid kept p.taken p.refused p.first
  same_of_tries false a b kept batch sent told p = ap by.takes p.0
