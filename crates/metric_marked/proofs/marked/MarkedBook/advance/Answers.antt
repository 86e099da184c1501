-- the reader's window is closed, and its mark moved
use Rattle.std.proofs.Common.{◌≡◌, ◌<◌, Bool, List, false, length, sym, ap, subst, ◌∙◌, arith}
use Rattle.std.specs.Prelude.{slice_index_or}
use Rattle.metric_facts.specs.Facts.{is_delta}
use Rattle.metric_marked.specs.Marks.{ClosesWindow, StandsMarked}
use Rattle.metric_marked.proofs.MarkLaws.{marked_moves}
use Rattle.metric_marked.proofs.marked.MarkedBook.advance.Goals as goal

pub returns : goal.returns
returns c = λ facts journal marks stands.
    let known = subst (λ b. StandsMarked b facts journal marks) (sym c.self.view_is) stands in
    let below : c.args.reader < length marks = omega (arith, c.requires.3.1, ap length c.requires.3.0.delta, ap length stands.delta, stands.one_each) in
    let delta : c.is_delta-is_delta.result ≡ is_delta facts c.args.reader =
    c.is_delta-is_delta.ensures ∙ ap (λ (flags : List Bool). slice_index_or flags c.args.reader false) (c.as_slice.ensures ∙ known.delta) in
    let closes : ClosesWindow c.self.inside.tables.items c.close_window.new.tables.items (is_delta facts c.args.reader) c.args.reader =
    subst (λ d. ClosesWindow c.self.inside.tables.items c.close_window.new.tables.items d c.args.reader) delta c.close_window.ensures.closes in
    marked_moves _ c.close_window.new.tables.items c.args.reader facts journal marks known below closes
