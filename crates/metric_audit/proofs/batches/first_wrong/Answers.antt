-- one reader more
use Rattle.std.proofs.Common.{ap, length, ◌∙◌}
use Rattle.metric_facts.specs.declared.facts.FactsFields.{FactsFields as Facts}
use Rattle.metric_audit.proofs.BatchLaws.{narrowed-first, narrowed-next}
use Rattle.metric_audit.proofs.batches.first_wrong.Goals as goal

pub loop-reader-init : goal.loop-reader-init
loop-reader-init c =
    let run = c.args.run.now in
    narrowed-first c.args.facts.now run.instrument run.start run.entries.now c.args.batches.now c.len-readers.result c.first_strange-first.result
    (c.len-readers.ensures ∙ ap (λ (f : Facts). length f.delta) c.deref.ensures) c.first_strange-first.ensures

pub loop-reader-preserved : goal.loop-reader-preserved
loop-reader-preserved c =
    let run = c.args.run.now in
    narrowed-next c.args.facts.now run.instrument run.start run.entries.now c.args.batches.now c.len-readers.result c.loop-reader.reader c.loop-reader.first c.in_ok-first.first
    c.loop-reader.invariant c.in_ok-first.ensures
