-- one recording more
use Rattle.std.proofs.Common.{◌≡◌, ◌<◌, ◌^◌, ◌≤ℤ◌, ℤ, pos, neg_ℤ, to_z, of_z, w64, true, [], ◌∷◌, ◌++◌, length, slice_index, rules, sym, ap, subst, ◌∙◌, arith}
use Rattle.std.proofs.lemmas.Int.{ints, to_z-of_z}
use Rattle.std.proofs.lemmas.Result.{err_from_is_err_and}
use Rattle.metric_history.specs.Journals.{MayTake}
use Rattle.metric_history.specs.declared.entry.Entry.{Entry}
use Rattle.metric_facts.specs.declared.facts.Facts.{Facts}
use Rattle.metric_history.specs.Windows.{fits_all}
use Rattle.metric_facts.specs.Facts.{in_bounds, is_allowed_set}
use Rattle.metric_core.specs.BudgetLaws.{has_room}
use Rattle.metric_core.specs.Cells.{CellStands, CellValue}
use Rattle.metric_core.specs.CellAnswers.{IsJudged, entry_of}
use Rattle.metric_core.proofs.CellLaws.{charge_fits, fits_taken, has_left, kept_recorded, may_take, same_kept, stands_recorded, sum_high, sum_low}
use Rattle.metric_safety.specs.AdmissionLaws.{admitted}
use Rattle.metric_core.proofs.cell.Cell.record.Goals as goal

pub push-requires : goal.push-requires
push-requires g c =
    let same : to_z w64 (of_z w64 c.args.value) ≡ c.args.value = to_z-of_z w64 c.args.value c.ranges.value in
    let known : c.args.recorder < length c.self.inside.facts.budgets = subst (λ (v : CellValue g.row.B.Denot). c.args.recorder < length v.facts.budgets) (sym c.self.view_is) c.requires.recorder in
    let allowed : is_allowed_set c.self.inside.facts c.args.set ≡ true = subst (λ (v : CellValue g.row.B.Denot). is_allowed_set v.facts c.args.set ≡ true) (sym c.self.view_is) c.requires.set in
    let within : in_bounds c.self.inside.facts c.args.value ≡ true = subst (λ (v : CellValue g.row.B.Denot). in_bounds v.facts c.args.value ≡ true) (sym c.self.view_is) c.requires.value in
    let left = has_left c.self.inside.budgets.spent.items c.self.inside.facts.budgets c.self.inside.budgets.granted.items c.args.recorder c.has_left.result _ (c.as_slice-declared.ensures ∙ ap (λ (f : Facts). f.budgets) c.deref.ensures) c.has_left.ensures c.if-not-has_left.false in
    subst (λ (v : ℤ). MayTake (g.B.Book.stands c.self.inside.book) (entry_of c.args.recorder c.args.set v)) (sym same)
    (may_take g.B.Book.stands _ (entry_of c.args.recorder c.args.set c.args.value) c.self.invariant known left allowed within)

pub charge-requires-clause-room : goal.charge-requires-clause-room
charge-requires-clause-room g c =
    let known : c.args.recorder < length c.self.inside.facts.budgets = subst (λ (v : CellValue g.row.B.Denot). c.args.recorder < length v.facts.budgets) (sym c.self.view_is) c.requires.recorder in
    let left = has_left c.self.inside.budgets.spent.items c.self.inside.facts.budgets c.self.inside.budgets.granted.items c.args.recorder c.has_left.result _ (c.as_slice-declared.ensures ∙ ap (λ (f : Facts). f.budgets) c.deref.ensures) c.has_left.ensures c.if-not-has_left.false in
    charge_fits g.B.Book.stands _ c.args.recorder c.self.invariant known left

pub total_with-self-inside-requires-clause-low : goal.total_with-self-inside-requires-clause-low
total_with-self-inside-requires-clause-low g c =
    let left = has_left c.self.inside.budgets.spent.items c.self.inside.facts.budgets c.self.inside.budgets.granted.items c.args.recorder c.has_left.result _ (c.as_slice-declared.ensures ∙ ap (λ (f : Facts). f.budgets) c.deref.ensures) c.has_left.ensures c.if-not-has_left.false in
    sum_low g.B.Book.stands _ c.self.invariant (has_room g.B.Book.stands _ c.args.recorder c.self.invariant left)

pub total_with-self-inside-requires-clause-high : goal.total_with-self-inside-requires-clause-high
total_with-self-inside-requires-clause-high g c =
    let left = has_left c.self.inside.budgets.spent.items c.self.inside.facts.budgets c.self.inside.budgets.granted.items c.args.recorder c.has_left.result _ (c.as_slice-declared.ensures ∙ ap (λ (f : Facts). f.budgets) c.deref.ensures) c.has_left.ensures c.if-not-has_left.false in
    sum_high g.B.Book.stands _ c.self.invariant (has_room g.B.Book.stands _ c.args.recorder c.self.invariant left)

pub overflow_add-self : goal.overflow_add-self
overflow_add-self g c =
    let known : c.args.recorder < length c.self.inside.facts.budgets = subst (λ (v : CellValue g.row.B.Denot). c.args.recorder < length v.facts.budgets) (sym c.self.view_is) c.requires.recorder in
    let left = has_left c.self.inside.budgets.spent.items c.self.inside.facts.budgets c.self.inside.budgets.granted.items c.args.recorder c.has_left.result _ (c.as_slice-declared.ensures ∙ ap (λ (f : Facts). f.budgets) c.deref.ensures) c.has_left.ensures c.if-not-has_left.false in
    record { fits = omega (arith, c.self.invariant.budgeted, has_room g.B.Book.stands _ c.args.recorder c.self.invariant left) }

pub invariant_of-self : goal.invariant_of-self
invariant_of-self g c = same_kept g.B.Book.stands _ c.push.new.self c.in_err-push.ensures.err c.self.invariant

pub invariant_of-self-2 : goal.invariant_of-self-2
invariant_of-self-2 g c =
    let entry : Entry = entry_of c.args.recorder c.args.set c.args.value in
    let same : to_z w64 (of_z w64 c.args.value) ≡ c.args.value = to_z-of_z w64 c.args.value c.ranges.value in
    let known : c.args.recorder < length c.self.inside.facts.budgets = subst (λ (v : CellValue g.row.B.Denot). c.args.recorder < length v.facts.budgets) (sym c.self.view_is) c.requires.recorder in
    let allowed : is_allowed_set c.self.inside.facts c.args.set ≡ true = subst (λ (v : CellValue g.row.B.Denot). is_allowed_set v.facts c.args.set ≡ true) (sym c.self.view_is) c.requires.set in
    let within : in_bounds c.self.inside.facts c.args.value ≡ true = subst (λ (v : CellValue g.row.B.Denot). in_bounds v.facts c.args.value ≡ true) (sym c.self.view_is) c.requires.value in
    let left = has_left c.self.inside.budgets.spent.items c.self.inside.facts.budgets c.self.inside.budgets.granted.items c.args.recorder c.has_left.result _ (c.as_slice-declared.ensures ∙ ap (λ (f : Facts). f.budgets) c.deref.ensures) c.has_left.ensures c.if-not-has_left.false in
    let eight : length c.args.set ≡ 8 = search rules in
    let low : neg_ℤ (pos (2 ^ 63)) ≤ℤ c.args.value = omega (arith, ints) in
    let high : c.args.value ≤ℤ pos (2 ^ 63) = omega (arith, ints) in
    kept_recorded g.B.Book.stands _ _ entry (search rules) c.self.invariant known left (admitted c.self.inside.facts entry eight allowed within) low high
    (λ journal s. subst (λ (v : ℤ). g.B.Book.stands c.push.new.self c.self.inside.facts (journal ++ entry_of c.args.recorder c.args.set v ∷ []) c.self.inside.marks.items) same
    (c.in_ok-push.ensures.stands c.self.inside.facts journal c.self.inside.marks.items s))

pub returns-clause-answer : goal.returns-clause-answer
returns-clause-answer g c =
    let entry : Entry = entry_of c.args.recorder c.args.set c.args.value in
    let same : to_z w64 (of_z w64 c.args.value) ≡ c.args.value = to_z-of_z w64 c.args.value c.ranges.value in
    let left = has_left c.self.inside.budgets.spent.items c.self.inside.facts.budgets c.self.inside.budgets.granted.items c.args.recorder c.has_left.result _ (c.as_slice-declared.ensures ∙ ap (λ (f : Facts). f.budgets) c.deref.ensures) c.has_left.ensures c.if-not-has_left.false in
    subst (λ (v : CellValue g.row.B.Denot). IsJudged g.B.Book.stands v entry true) c.self.view_is (record {
      is_open = c.if-self.false;
      has_budget = left;
      fitting = λ journal s.
          subst (λ (v : ℤ). fits_all c.self.inside.facts (slice_index c.self.inside.marks.items) journal (entry_of c.args.recorder c.args.set v) ≡ true) same
          (fits_taken _ (c.in_ok-push.ensures.answer c.self.inside.facts journal c.self.inside.marks.items s.book));
    })

pub returns-clause-stands : goal.returns-clause-stands
returns-clause-stands g c = λ journal s.
    let entry : Entry = entry_of c.args.recorder c.args.set c.args.value in
    let same : to_z w64 (of_z w64 c.args.value) ≡ c.args.value = to_z-of_z w64 c.args.value c.ranges.value in
    let known : c.args.recorder < length c.self.inside.facts.budgets = subst (λ (v : CellValue g.row.B.Denot). c.args.recorder < length v.facts.budgets) (sym c.self.view_is) c.requires.recorder in
    let before = subst (λ (v : CellValue g.row.B.Denot). CellStands g.B.Book.stands v journal) (sym c.self.view_is) s in
    stands_recorded g.B.Book.stands _ _ entry journal (search rules) c.self.invariant.one_budget_each known before
    (subst (λ (v : ℤ). g.B.Book.stands c.push.new.self c.self.inside.facts (journal ++ entry_of c.args.recorder c.args.set v ∷ []) c.self.inside.marks.items) same
    (c.in_ok-push.ensures.stands c.self.inside.facts journal c.self.inside.marks.items before.book))

pub returns-in_err-push-clause-memory : goal.returns-in_err-push-clause-memory
returns-in_err-push-clause-memory g c = λ spares.
    let p = err_from_is_err_and c.from_residual.result c.from_residual.ensures.1 in
    rw (p.1, p.2)
    (c.in_err-push.ensures.memory c.self.inside.facts c.self.invariant.journal c.self.inside.marks.items c.self.invariant.known.book
    (subst (λ (v : CellValue g.row.B.Denot). g.B.Book.spares_memory v.facts) (sym c.self.view_is) spares))
