-- empty tables, and a mark of 0 for each reader
use Rattle.std.proofs.Common.{◌≡◌, [], Bool, List, ℕ, sym, subst, rules}
use Rattle.metric_history.specs.Journals.{no_marks}
use Rattle.metric_marked.specs.Marks.{StandsMarked}
use Rattle.metric_marked.proofs.MarkLaws.{marked_begins}
use Rattle.metric_marked.proofs.marked.MarkedBook.new.Goals as goal

pub returns : goal.returns
returns c =
    let delta : c.from_vec.result ≡ c.args.facts.now.delta = search rules in
    let marks : c.in_ok-zeros.field-0.items ≡ no_marks c.args.facts.now = search rules in
    subst (λ (d : List Bool). StandsMarked (record { tables = c.in_ok-empty_tables.field-0.items; delta = d; marks = c.in_ok-zeros.field-0.items; count = 0 }) c.args.facts.now [] (no_marks c.args.facts.now)) (sym delta)
    (subst (λ (m : List ℕ). StandsMarked (record { tables = c.in_ok-empty_tables.field-0.items; delta = c.args.facts.now.delta; marks = m; count = 0 }) c.args.facts.now [] (no_marks c.args.facts.now)) (sym marks)
    (marked_begins c.in_ok-empty_tables.field-0.items c.args.facts.now c.in_ok-empty_tables.ensures.stand c.in_ok-empty_tables.ensures.takes c.in_ok-empty_tables.ensures.room))
