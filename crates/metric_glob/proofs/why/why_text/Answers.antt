use Rattle.std.proofs.Common.{sym, ◌∙◌}
use Rattle.std.proofs.lemmas.Bool.{true≢false}
use Rattle.metric_glob.specs.MatchingLaws.{test-from_Matches}
use Rattle.metric_glob.proofs.ReachLemmas.{ShutsOut-reached}
use Rattle.metric_glob.proofs.why.why_text.Goals as goal

pub returns-in_ok-rows_of-in-None-clause-confirmed : goal.returns-in_ok-rows_of-in-None-clause-confirmed
returns-in_ok-rows_of-in-None-clause-confirmed c =
    rw (c.in_ok-rows_of-in-None.ensures) (ShutsOut-reached c.args.pattern.now c.args.text.now (rw c.in-None.is at c.in_ok-takes.ensures))

pub returns-in_ok-rows_of-in-None-clause-shown : goal.returns-in_ok-rows_of-in-None-clause-shown
returns-in_ok-rows_of-in-None-clause-shown c = λ matches.
    true≢false (sym (test-from_Matches c.args.pattern.now c.args.text.now matches) ∙ (rw c.in-None.is at c.in_ok-takes.ensures))
