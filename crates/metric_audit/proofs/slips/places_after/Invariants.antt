-- the entries so far have moved the places
use Rattle.std.proofs.Common.{◌≡◌, length, drop}
use Rattle.metric_audit.specs.Slips.{AreAwaited}
use Rattle.metric_audit.proofs.slips.places_after.Given as goal

abbrev pub invariant-loop-entry : goal.invariant-loop-entry
invariant-loop-entry l = record {
  long : length l.places.items ≡ length l.slips;
  awaited : AreAwaited l.places.items l.slips l.entries (drop l.entry-index l.entries);
}
