-- the facts so far and those that are left
use Rattle.std.proofs.Common.{◌≡◌, ◌++◌, [], drop}
use Rattle.metric_facts.specs.Facts.{facts_from}
use Rattle.metric_facts.proofs.instruments.without_streams.Given as goal

abbrev pub invariant-loop-number : goal.invariant-loop-number
invariant-loop-number l =
    l.all.items ++ facts_from l.plan l.certified [] l.recorders l.readers [] l.number (drop l.number l.instruments) ≡ facts_from l.plan l.certified [] l.recorders l.readers [] 0 l.instruments
