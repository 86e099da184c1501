-- the sections of the batches so far
use Rattle.std.proofs.Common.{◌≡◌, map, take}
use Rattle.metric_exposition.specs.Sections.{batch_sections}
use Rattle.wormweekly_c.proofs.pages.kept_sections.Given as goal

abbrev pub invariant-loop-batch : goal.invariant-loop-batch
invariant-loop-batch l =
    l.all.items ≡ map (batch_sections l.dialect l.own.plan.facts.contents l.own.plan.streams) (take l.batch-index l.own.kept)
