-- the places so far
use Rattle.std.proofs.Common.{◌≡◌}
use Rattle.metric_facts.specs.EntryRanges.{are_within}
use Rattle.metric_facts.proofs.entry_ranges.are_within.Given as goal

abbrev pub invariant-loop-place : goal.invariant-loop-place
invariant-loop-place l = l.within ≡ are_within l.place l.least l.most l.set
