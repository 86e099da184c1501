-- the flags of the entries so far
use Rattle.std.proofs.Common.{◌≡◌, take}
use Rattle.metric_check.specs.Products.{entry_flags}
use Rattle.metric_check.proofs.certificates.entry_flags.Given as goal

abbrev pub invariant-loop-entry : goal.invariant-loop-entry
invariant-loop-entry l = l.flags ≡ entry_flags (take l.entry-index l.entries)
