-- the facts of the keys so far
use Rattle.std.proofs.Common.{◌≡◌, map, take}
use Rattle.metric_facts.specs.Facts.{key_facts}
use Rattle.metric_facts.proofs.instruments.key_facts_of.Given as goal

abbrev pub invariant-loop-key : goal.invariant-loop-key
invariant-loop-key l = l.all ≡ map key_facts (take l.key-index l.keys)
