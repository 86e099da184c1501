-- The parse computes at these words, whatever the name before them is.
use Rattle.std.proofs.Common.{refl}
use Rattle.clap.proofs.OnLiterals.{clap_on_literals}
use Rattle.metric_command_lines.proofs.kit.laws.lines_are_taken.Goals as goal

pub returns-clause-no_words : goal.returns-clause-no_words
unfolding clap_on_literals
returns-clause-no_words c = λ name. (refl, refl)

pub returns-clause-make : goal.returns-clause-make
unfolding clap_on_literals
returns-clause-make c = λ name. (refl, refl)

pub returns-clause-check : goal.returns-clause-check
unfolding clap_on_literals
returns-clause-check c = λ name. (refl, refl)

pub returns-clause-show : goal.returns-clause-show
unfolding clap_on_literals
returns-clause-show c = λ name. (refl, refl)

pub returns-clause-replay : goal.returns-clause-replay
unfolding clap_on_literals
returns-clause-replay c = λ name. (refl, refl)

pub returns-clause-trial : goal.returns-clause-trial
unfolding clap_on_literals
returns-clause-trial c = λ name. (refl, refl)

pub returns-clause-none_each : goal.returns-clause-none_each
unfolding clap_on_literals
returns-clause-none_each c = λ name. (refl, refl)

pub returns-clause-some_each : goal.returns-clause-some_each
unfolding clap_on_literals
returns-clause-some_each c = λ name. (refl, refl)

pub returns-clause-most_each : goal.returns-clause-most_each
unfolding clap_on_literals
returns-clause-most_each c = λ name. (refl, refl)

pub returns-clause-audit : goal.returns-clause-audit
unfolding clap_on_literals
returns-clause-audit c = λ name. (refl, refl)

pub returns-clause-both : goal.returns-clause-both
unfolding clap_on_literals
returns-clause-both c = λ name. (refl, refl)

pub returns-clause-turned : goal.returns-clause-turned
unfolding clap_on_literals
returns-clause-turned c = λ name. (refl, refl)
