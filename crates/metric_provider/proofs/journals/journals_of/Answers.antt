-- the journal of one instrument more
use Rattle.std.proofs.Common.{◌<◌, List, [], ◌∷◌, ◌++◌, length, map, rules, take, sym, ap, subst, ◌∙◌}
use Rattle.std.specs.Prelude.{All}
use Rattle.std.proofs.lemmas.List.{map_more, take_all}
use Rattle.std.proofs.lemmas.List.Elements.{All-more, All-nil}
use Rattle.metric_core.specs.Cells.{CellKept, CellValue}
use Rattle.metric_history.specs.declared.entry.Entry.{Entry}
use Rattle.metric_provider.specs.Lanes.{kept_by}
use Rattle.metric_provider.specs.Locked.{AreLanes}
use Rattle.metric_provider.proofs.journals.journals_of.Goals as goal

pub loop-lanes-init : goal.loop-lanes-init
loop-lanes-init g c = record { journals = search rules; kept = All-nil (AreLanes g.B.Book.stands) }

pub loop-lanes-preserved : goal.loop-lanes-preserved
loop-lanes-preserved g c =
    let done = c.loop-lanes.lanes-index in
    let here : AreLanes g.B.Book.stands c.lanes-item.result = record {
      some = subst (λ (cells : List (CellValue g.row.B.Denot)). 0 < length cells) c.slots.ensures.slots c.slots.ensures.some;
      kept = subst (λ (cells : List (CellValue g.row.B.Denot)). All (CellKept g.B.Book.stands) cells) c.slots.ensures.slots c.in_ok-journal_of.ensures.kept;
    } in
    record {
      journals = c.in_ok-push.ensures.items
          ∙ ap (λ (journals : List (List Entry)). journals ++ c.in_ok-journal_of.field-0 ∷ []) c.loop-lanes.invariant.journals
          ∙ ap (λ (journal : List Entry). map (kept_by g.B.Book.kept) (take done c.args.unlocked.now) ++ journal ∷ [])
          (c.in_ok-journal_of.ensures.journal ∙ ap (kept_by g.B.Book.kept) (c.slots.ensures.slots ∙ c.lanes-item.is))
          ∙ sym (map_more (kept_by g.B.Book.kept) c.args.unlocked.now done c.lanes-item.result c.loop-lanes-test.true);
      kept = All-more (AreLanes g.B.Book.stands) c.args.unlocked.now done c.lanes-item.result c.loop-lanes-test.true c.loop-lanes.invariant.kept
          (subst (λ (cells : List (CellValue g.row.B.Denot)). AreLanes g.B.Book.stands cells) c.lanes-item.is here);
    }

pub returns-clause-journals : goal.returns-clause-journals
returns-clause-journals g c =
    c.loop-lanes.invariant.journals
    ∙ ap (λ (all : List (List (CellValue g.row.B.Denot))). map (kept_by g.B.Book.kept) all) (take_all c.loop-lanes.lanes-index c.args.unlocked.now c.loop-lanes-test.false)

pub returns-clause-kept : goal.returns-clause-kept
returns-clause-kept g c =
    subst (λ (all : List (List (CellValue g.row.B.Denot))). All (AreLanes g.B.Book.stands) all) (take_all c.loop-lanes.lanes-index c.args.unlocked.now c.loop-lanes-test.false)
    c.loop-lanes.invariant.kept
