-- the facts with the streams so far
use Rattle.std.proofs.Common.{◌≡◌, take}
use Rattle.metric_facts.specs.Facts.{facts_from}
use Rattle.metric_facts.proofs.instruments.all_facts.Given as goal

abbrev pub invariant-loop-number : goal.invariant-loop-number
invariant-loop-number l = l.all.items ≡ facts_from l.plan l.certified l.by_product l.catalogue.recorders l.readers (take l.number l.streams) 0 l.catalogue.instruments
