-- the places of the names so far, each of which was new
use Rattle.std.specs.BTreeMap.{get_by_text}
use Rattle.metric_bind.specs.Apart.{names_in}
use Rattle.metric_bind.proofs.Places.{AreKept}
use Rattle.metric_bind.proofs.apart.first_clash.Given as goal

abbrev pub invariant-loop-second : goal.invariant-loop-second
invariant-loop-second l = AreKept (names_in l.names) l.second (get_by_text l.places)
