-- the sections of the batches so far
use Rattle.std.proofs.Common.{◌≡◌, map, take}
use Rattle.wormweekly_commands.specs.Paging.{sections_of}
use Rattle.wormweekly_commands.proofs.paging.all_sections.Given as goal

abbrev pub invariant-loop-batch : goal.invariant-loop-batch
invariant-loop-batch l = l.all.items ≡ map (sections_of l.dialect l.plan) (take l.batch-index l.batches)
