-- one cell more, and all cells
use Rattle.std.proofs.Common.{◌≡◌, ℕ, ◌+◌, Some, [], ◌∷◌, ◌++◌, List, length, sym, ap, subst, ◌∙◌, arith}
use Rattle.std.specs.Prelude.{slice_get}
use Rattle.std.proofs.lemmas.List.{length_push}
use Rattle.metric_core.specs.Cells.{CellValue}
use Rattle.metric_core.specs.CoreStands.{CellKeepsTo}
use Rattle.metric_history.specs.History.{told_of}
use Rattle.metric_core.proofs.FollowingLaws.{new_follows}
use Rattle.metric_core.proofs.RunLaws.{at_each_push}
use Rattle.metric_core.proofs.run.new_cells.Goals as goal

pub overflow_cast-count : goal.overflow_cast-count
overflow_cast-count g c = record { fits = omega (arith, c.instruments.ensures.few, ap length c.instruments.ensures.instruments) }

pub new-requires : goal.new-requires
new-requires g c = omega (arith, c.loop-instrument-test.true, c.catalogue.ensures.one_each, ap length c.instruments.ensures.instruments)

pub loop-instrument-preserved : goal.loop-instrument-preserved
loop-instrument-preserved g c =
    let before : List (CellValue g.row.B.Denot) = c.loop-instrument.cells.items in
    let cell : CellValue g.row.B.Denot = c.in_ok-new.field-0 in
    let facts = c.args.plan.now.facts in
    let pushed : c.push.new.self.items ≡ before ++ cell ∷ [] = c.in_ok-push.ensures.items in
    let count : length before ≡ c.loop-instrument.instrument = c.loop-instrument.invariant.count in
    record {
      count = ap length pushed ∙ length_push before cell ∙ ap (λ (n : ℕ). n + 1) count;
      own = λ i d found. at_each_push (λ (n : ℕ) (v : CellValue g.row.B.Denot). slice_get facts.instruments n ≡ Some v.facts) before cell c.loop-instrument.invariant.own
          (subst (λ (n : ℕ). slice_get facts.instruments n ≡ Some cell.facts) (sym count) c.in_ok-new.ensures.facts) i d
          (subst (λ (cells : List (CellValue g.row.B.Denot)). slice_get cells i ≡ Some d) pushed found);
      each = λ i d found. at_each_push (λ (n : ℕ) (v : CellValue g.row.B.Denot). CellKeepsTo g.B.Book.stands v c.args.start (told_of facts c.args.start [] n)) before cell c.loop-instrument.invariant.each
          (new_follows g.B.Book.stands facts c.args.start (length before) cell c.in_ok-new.ensures.new c.in_ok-new.ensures.stands) i d
          (subst (λ (cells : List (CellValue g.row.B.Denot)). slice_get cells i ≡ Some d) pushed found);
    }

pub returns : goal.returns
returns g c = record {
  cells_of = record {
    one_each = omega (arith, c.loop-instrument.invariant.count, c.loop-instrument.auto.instrument-end, c.loop-instrument-test.false, c.catalogue.ensures.one_each, ap length c.instruments.ensures.instruments);
    own = c.loop-instrument.invariant.own;
  };
  each = c.loop-instrument.invariant.each;
}
