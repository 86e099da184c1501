-- one instrument more, each of which is that of the plan and has a slot
use Rattle.std.proofs.Common.{◌≡◌, ◌<◌, ◌≤◌, ◌++◌, ℕ, Bool, true, List, Some, length, rules, sym, ap, subst, ◌∙◌, arith}
use Rattle.std.specs.Prelude.{slice_get}
use Rattle.std.proofs.lemmas.Option.{slice_get-get_or, slice_get_within}
use Rattle.metric_core.specs.Cells.{CellValue}
use Rattle.metric_facts.specs.declared.facts.Facts.{Facts}
use Rattle.metric_seat.specs.declared.total.Total.{Total}
use Rattle.metric_provider.specs.Lanes.{kept_by}
use Rattle.metric_provider.specs.Totals.{AreSettled, IsSettled, IsToldJournal, told_totals}
use Rattle.metric_provider.proofs.SettleLaws.{told_more_cells, totals_end, totals_more}
use Rattle.metric_provider.proofs.settling.settle.Goals as goal

pub loop-instrument-init : goal.loop-instrument-init
loop-instrument-init g c = record {
  count = c.in_ok-totals.ensures.len;
  room = c.in_ok-totals.ensures.capacity;
  totals = ap (λ (totals : List Total). totals ++ told_totals c.args.recorders.now 0 c.args.plan.now.facts.instruments) c.in_ok-totals.ensures.items;
  told = λ i own cell below found there. absurd (omega (arith, below));
  journals = λ i own cell below found there. absurd (omega (arith, below));
}

pub facts-facts-requires : goal.facts-facts-requires
facts-facts-requires g c = omega (arith, c.loop-instrument-test.true, c.catalogue.ensures.one_each, ap length c.instruments.ensures.instruments)

pub overflow_cast-instrument : goal.overflow_cast-instrument
overflow_cast-instrument g c = record { fits = omega (arith, c.loop-instrument-test.true, c.instruments.ensures.few) }

pub offset_bounds-unlocked-instrument : goal.offset_bounds-unlocked-instrument
offset_bounds-unlocked-instrument g c =
    omega (arith, c.requires, c.loop-instrument-test.true, c.catalogue.ensures.one_each, ap length c.instruments.ensures.instruments)

pub bounds-unlocked-instrument : goal.bounds-unlocked-instrument
bounds-unlocked-instrument g c =
    omega (arith, c.requires, c.loop-instrument-test.true, c.catalogue.ensures.one_each, ap length c.instruments.ensures.instruments)

pub push_reserved-requires : goal.push_reserved-requires
push_reserved-requires g c =
    let below : c.loop-instrument.instrument < length c.args.unlocked.now =
    omega (arith, c.requires, c.loop-instrument-test.true, c.catalogue.ensures.one_each, ap length c.instruments.ensures.instruments) in
    omega (arith, below, c.loop-instrument.invariant.count, c.loop-instrument.invariant.room)

pub returns-in-None-clause-refused : goal.returns-in-None-clause-refused
returns-in-None-clause-refused g c =
    let number = c.loop-instrument.instrument in
    let below : number < length c.args.unlocked.now =
    omega (arith, c.requires, c.loop-instrument-test.true, c.catalogue.ensures.one_each, ap length c.instruments.ensures.instruments) in
    let there : slice_get c.args.unlocked.now number ≡ Some c.slots-lanes.result.now =
    slice_get-get_or c.args.unlocked.now number c.index-unlocked-instrument.result below ∙ ap (λ (v : List (CellValue g.row.B.Denot)). Some v) (sym c.index-unlocked-instrument.is ∙ sym c.slots-lanes.ensures.slots) in
    subst (λ (whole : Bool). AreSettled whole g.B.Book.kept c.args.plan.now.facts.instruments c.args.unlocked.now c.args.recorders.now → ⊥) c.has_all-whole.ensures
    (λ all. c.in-None.ensures.other (all number c.facts-facts.result.now c.slots-lanes.result.now c.facts-facts.ensures.facts there))

pub loop-instrument-preserved : goal.loop-instrument-preserved
loop-instrument-preserved g c =
    let number = c.loop-instrument.instrument in
    let below : number < length c.args.unlocked.now =
    omega (arith, c.requires, c.loop-instrument-test.true, c.catalogue.ensures.one_each, ap length c.instruments.ensures.instruments) in
    let there : slice_get c.args.unlocked.now number ≡ Some c.slots-lanes.result.now =
    slice_get-get_or c.args.unlocked.now number c.index-unlocked-instrument.result below ∙ ap (λ (v : List (CellValue g.row.B.Denot)). Some v) (sym c.index-unlocked-instrument.is ∙ sym c.slots-lanes.ensures.slots) in
    record {
      count = omega (arith, c.push_reserved.ensures.len, c.loop-instrument.invariant.count);
      room = omega (arith, c.push_reserved.ensures.capacity, c.loop-instrument.invariant.room);
      totals = totals_more c.args.recorders.now number c.args.plan.now.facts.instruments c.loop-instrument.totals.items c.push_reserved.new.self.items _ c.facts-facts.result.now c.in-Some.total
          c.facts-facts.ensures.facts c.in-Some.ensures.total c.push_reserved.ensures.items c.loop-instrument.invariant.totals;
      told = told_more_cells (λ (own : Facts) (cell : List (CellValue g.row.B.Denot)) (i : ℕ). IsSettled c.has_all-whole.result g.B.Book.kept own cell c.args.recorders.now i)
          c.args.plan.now.facts.instruments c.args.unlocked.now number c.facts-facts.result.now c.slots-lanes.result.now
          c.facts-facts.ensures.facts there c.in-Some.ensures.told c.loop-instrument.invariant.told;
      journals = told_more_cells
          (λ (own : Facts) (cell : List (CellValue g.row.B.Denot)) (i : ℕ). c.has_all-whole.result ≡ true → IsToldJournal g.B.Book.KEEPS_ENTRIES own c.args.recorders.now i (kept_by g.B.Book.kept cell))
          c.args.plan.now.facts.instruments c.args.unlocked.now number c.facts-facts.result.now c.slots-lanes.result.now
          c.facts-facts.ensures.facts there c.in-Some.ensures.journal c.loop-instrument.invariant.journals;
    }

pub returns-clause-totals : goal.returns-clause-totals
returns-clause-totals g c =
    totals_end c.args.recorders.now c.loop-instrument.instrument c.args.plan.now.facts.instruments c.loop-instrument.totals.items _
    (omega (arith, c.loop-instrument-test.false, c.catalogue.ensures.one_each, ap length c.instruments.ensures.instruments))
    c.loop-instrument.invariant.totals

pub returns-clause-settled : goal.returns-clause-settled
returns-clause-settled g c =
    let instruments = c.args.plan.now.facts.instruments in
    let all : length instruments ≤ c.loop-instrument.instrument =
    omega (arith, c.loop-instrument-test.false, c.catalogue.ensures.one_each, ap length c.instruments.ensures.instruments) in
    subst (λ (whole : Bool). AreSettled whole g.B.Book.kept instruments c.args.unlocked.now c.args.recorders.now) c.has_all-whole.ensures
    (λ i own cell found there. c.loop-instrument.invariant.told i own cell (omega (arith, all, slice_get_within instruments i own found)) found there)

pub returns-clause-journals : goal.returns-clause-journals
returns-clause-journals g c = λ whole i own cell found there.
    let instruments = c.args.plan.now.facts.instruments in
    let all : length instruments ≤ c.loop-instrument.instrument =
    omega (arith, c.loop-instrument-test.false, c.catalogue.ensures.one_each, ap length c.instruments.ensures.instruments) in
    c.loop-instrument.invariant.journals i own cell (omega (arith, all, slice_get_within instruments i own found)) found there (c.has_all-whole.ensures ∙ whole)

pub settled-requires-clause-journal : goal.settled-requires-clause-journal
settled-requires-clause-journal g c = search rules

pub settled-requires-clause-kept : goal.settled-requires-clause-kept
settled-requires-clause-kept g c = c.in_ok-journal.ensures.kept
