-- each number is that of an instrument, and each slot stands at its place
use Rattle.std.proofs.Common.{◌≡◌, ℕ, List, length, sym, ap, subst, ◌∙◌, arith}
use Rattle.std.proofs.lemmas.List.{length_push}
use Rattle.metric_contents.specs.declared.contents.Instrument.{Instrument}
use Rattle.metric_core.specs.Cells.{CellValue}
use Rattle.metric_provider.specs.NewSlots.{AreNewSlots, IsNewSlot}
use Rattle.metric_provider.proofs.CollectLaws.{at_each_push}
use Rattle.metric_provider.proofs.starting.new_slots.Goals as goal

pub with_seed-requires : goal.with_seed-requires
with_seed-requires g c =
    let all : length c.args.plan.now.facts.instruments ≡ length c.instruments.result.now =
    c.catalogue.ensures.one_each ∙ ap (λ (xs : List Instrument). length xs) (sym c.instruments.ensures.instruments) in
    record { certified = c.requires; known = omega (arith, all, c.loop-instrument-test.true) }

pub loop-instrument-preserved : goal.loop-instrument-preserved
loop-instrument-preserved g c =
    let own = c.args.plan.now.facts.instruments in
    let done = c.loop-instrument.slots.items in
    let here : IsNewSlot g.B.Book.stands own c.args.start (length done) c.in_ok-slot.slot =
    subst (λ (n : ℕ). IsNewSlot g.B.Book.stands own c.args.start n c.in_ok-slot.slot) (sym c.loop-instrument.invariant.long)
    (record { facts = c.in_ok-slot.ensures.facts; new = c.in_ok-slot.ensures.new; stands = c.in_ok-slot.ensures.stands }) in
    record {
      count = omega (arith, c.in_ok-push.ensures.len, c.loop-instrument.invariant.count);
      long = omega (arith, ap length c.in_ok-push.ensures.items, length_push done c.in_ok-slot.slot, c.loop-instrument.invariant.long);
      each = subst (λ (all : List (CellValue g.row.B.Denot)). AreNewSlots g.B.Book.stands own c.args.start all) (sym c.in_ok-push.ensures.items)
          (at_each_push (λ (n : ℕ) (slot : CellValue g.row.B.Denot). IsNewSlot g.B.Book.stands own c.args.start n slot) done c.in_ok-slot.slot c.loop-instrument.invariant.each here);
    }

pub overflow_cast-count : goal.overflow_cast-count
overflow_cast-count g c = record { fits = omega (arith, c.instruments.ensures.few, ap length c.instruments.ensures.instruments) }

pub loop-instrument-init : goal.loop-instrument-init
loop-instrument-init g c = record {
  count = c.new-slots.ensures.len;
  long = ap (λ (slots : List (CellValue g.row.B.Denot)). length slots) c.new-slots.ensures.items;
  each = subst (λ (slots : List (CellValue g.row.B.Denot)). AreNewSlots g.B.Book.stands c.args.plan.now.facts.instruments c.args.start slots) (sym c.new-slots.ensures.items)
      (λ number slot found. absurd cc);
}

pub returns-clause-all : goal.returns-clause-all
returns-clause-all g c =
    let all : length c.args.plan.now.facts.instruments ≡ length c.instruments.result.now =
    c.catalogue.ensures.one_each ∙ ap (λ (xs : List Instrument). length xs) (sym c.instruments.ensures.instruments) in
    omega (arith, all, c.loop-instrument.invariant.count, c.loop-instrument.auto.instrument-end, c.loop-instrument-test.false)

pub returns-clause-each : goal.returns-clause-each
returns-clause-each g c = c.loop-instrument.invariant.each
