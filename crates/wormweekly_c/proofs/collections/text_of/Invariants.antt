-- the texts of the batches so far
use Rattle.std.proofs.Common.{◌≡◌, take}
use Rattle.std.specs.List.{flat_map}
use Rattle.metric_lines.specs.Batches.{batch_text}
use Rattle.wormweekly_c.proofs.collections.text_of.Given as goal

abbrev pub invariant-loop-batch : goal.invariant-loop-batch
invariant-loop-batch l = l.text.items ≡ flat_map (batch_text l.own.plan.facts.contents l.own.plan.config l.own.plan.streams) (take l.batch-index l.own.kept)
