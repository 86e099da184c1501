-- lanes that are settled, and some that are not
use Rattle.std.proofs.Common.{◌≡◌, true, false, List, refl, sym, subst, ◌∙◌}
use Rattle.metric_history.specs.declared.entry.Entry.{Entry}
use Rattle.metric_provider.specs.Lanes.{kept_by}
use Rattle.metric_provider.specs.Totals.{AreNoted}
use Rattle.metric_provider.proofs.LaneLaws.{told_journal}
use Rattle.metric_provider.proofs.settling.settled.Goals as goal

pub returns-clause-told : goal.returns-clause-told
returns-clause-told g c = record {
  facts = c.are_of.ensures.0 c.if-not-are_of.false;
  few = c.is_counted.ensures.0 c.if-not-is_counted.false;
  numbers = c.in_ok-total.ensures.told;
  noted = subst (λ (entries : List Entry). AreNoted c.args.recorders.now c.args.instrument entries) c.requires.journal (c.are_noted.ensures.0 c.if-not-are_noted.false);
}

pub returns-clause-journal : goal.returns-clause-journal
returns-clause-journal g c =
    told_journal g.B.Book.stands g.B.Book.kept g.B.Book.KEEPS_ENTRIES c.args.whole c.args.facts.now c.args.lanes.now c.args.recorders.now c.args.instrument (kept_by g.B.Book.kept c.args.lanes.now)
    g.met.B.Book.keeps_all_or_nothing c.requires.kept (c.are_of.ensures.0 c.if-not-are_of.false) refl c.in_ok-total.ensures.told

pub returns-then-not-are_noted-clause-other : goal.returns-then-not-are_noted-clause-other
returns-then-not-are_noted-clause-other g c = λ told.
    let is = c.are_noted.ensures.1 (subst (λ (entries : List Entry). AreNoted c.args.recorders.now c.args.instrument entries) (sym c.requires.journal) told.noted) in
    let never : true ≡ false = sym is ∙ c.if-not-are_noted.true in
    absurd cc
