-- the facts with the reader's streams alone tell what all facts tell
use Rattle.std.proofs.Common.{ap, subst, sym, ◌∙◌}
use Rattle.metric_facts.specs.declared.facts.FactsFields.{FactsFields as Facts}
use Rattle.metric_facts.specs.Products.{AreDense}
use Rattle.metric_audit.specs.Replays.{are_of_reader}
use Rattle.metric_audit.proofs.BatchLaws.{first-none, own-dense, own-streams-alone, whole-result}
use Rattle.metric_audit.proofs.batches.first_wrong_by.Goals as goal

pub returns-then-not-has_batch_of : goal.returns-then-not-has_batch_of
returns-then-not-has_batch_of c =
    let run = c.args.run.now in
    first-none c.args.facts.now run.instrument run.start run.entries.now c.args.batches.now c.args.reader (sym c.if-not-has_batch_of.ensures)

pub new-requires : goal.new-requires
new-requires c = subst AreDense (sym c.in_ok-own.ensures) (own-dense c.args.facts.now c.args.reader c.requires.dense)

pub first_wrong_of-requires-clause-own : goal.first_wrong_of-requires-clause-own
first_wrong_of-requires-clause-own c =
    ap (λ (f : Facts). are_of_reader f c.args.reader) c.in_ok-own.ensures ∙ own-streams-alone c.args.facts.now c.args.reader

pub returns : goal.returns
returns c =
    let run = c.args.run.now in
    whole-result c.args.facts.now c.in_ok-own.own run.instrument run.start run.entries.now c.args.batches.now c.args.reader c.first_wrong_of.result c.in_ok-own.ensures c.first_wrong_of.ensures
