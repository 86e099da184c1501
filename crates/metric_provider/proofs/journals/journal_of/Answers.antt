-- the entries of one lane more
use Rattle.std.proofs.Common.{List, ◌++◌, rules, sym, ap, subst, ◌∙◌}
use Rattle.std.specs.Prelude.{All}
use Rattle.std.proofs.lemmas.List.{take_all}
use Rattle.std.proofs.lemmas.List.Elements.{All-more, All-nil}
use Rattle.metric_core.specs.Cells.{CellKept, CellValue}
use Rattle.metric_history.specs.declared.entry.Entry.{Entry}
use Rattle.metric_provider.specs.Lanes.{kept_by}
use Rattle.metric_provider.proofs.LaneLaws.{kept_more}
use Rattle.metric_provider.proofs.journals.journal_of.Goals as goal

pub loop-slot-init : goal.loop-slot-init
loop-slot-init g c = record { entries = search rules; kept = All-nil (CellKept g.B.Book.stands) }

pub loop-slot-preserved : goal.loop-slot-preserved
loop-slot-preserved g c =
    let done = c.loop-slot.slot-index in
    record {
      entries = c.in_ok-push_entries.ensures.entries
          ∙ ap (λ (entries : List Entry). entries ++ g.B.Book.kept c.slot-item.result.book) c.loop-slot.invariant.entries
          ∙ sym (kept_more g.B.Book.kept c.args.lanes.now done c.slot-item.result c.loop-slot-test.true c.slot-item.is);
      kept = All-more (CellKept g.B.Book.stands) c.args.lanes.now done c.slot-item.result c.loop-slot-test.true c.loop-slot.invariant.kept
          (subst (λ (slot : CellValue g.row.B.Denot). CellKept g.B.Book.stands slot) c.slot-item.is c.push_entries.ensures.kept);
    }

pub returns-clause-journal : goal.returns-clause-journal
returns-clause-journal g c =
    c.from_vec.ensures
    ∙ c.loop-slot.invariant.entries
    ∙ ap (kept_by g.B.Book.kept) (take_all c.loop-slot.slot-index c.args.lanes.now c.loop-slot-test.false)

pub returns-clause-kept : goal.returns-clause-kept
returns-clause-kept g c =
    subst (λ (lanes : List (CellValue g.row.B.Denot)). All (CellKept g.B.Book.stands) lanes) (take_all c.loop-slot.slot-index c.args.lanes.now c.loop-slot-test.false)
    c.loop-slot.invariant.kept
