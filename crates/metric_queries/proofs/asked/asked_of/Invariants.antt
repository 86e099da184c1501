-- what is asked by the matchers so far
use Rattle.std.proofs.Common.{take}
use Rattle.std.specs.List.{AllZip}
use Rattle.metric_queries.specs.Remarks.{IsAsked}
use Rattle.metric_queries.proofs.asked.asked_of.Given as goal

abbrev pub invariant-loop-test : goal.invariant-loop-test
invariant-loop-test l = AllZip IsAsked (take l.test-index l.tests) l.asked
