-- The parse computes at these words, whatever the name before them is.
use Rattle.clap.proofs.OnLiterals.{clap_on_literals}
use Rattle.metric_command_lines.proofs.LineFaultLemmas.{some_fault}
use Rattle.metric_command_lines.proofs.kit.laws.others_are_refused.Goals as goal

pub returns-clause-help : goal.returns-clause-help
unfolding clap_on_literals
returns-clause-help c = λ name. some_fault _ _

pub returns-clause-help_flag : goal.returns-clause-help_flag
unfolding clap_on_literals
returns-clause-help_flag c = λ name. some_fault _ _

pub returns-clause-short_help : goal.returns-clause-short_help
unfolding clap_on_literals
returns-clause-short_help c = λ name. some_fault _ _

pub returns-clause-help_of_command : goal.returns-clause-help_of_command
unfolding clap_on_literals
returns-clause-help_of_command c = λ name. some_fault _ _

pub returns-clause-version : goal.returns-clause-version
unfolding clap_on_literals
returns-clause-version c = λ name. some_fault _ _

pub returns-clause-unknown : goal.returns-clause-unknown
unfolding clap_on_literals
returns-clause-unknown c = λ name. some_fault _ _

pub returns-clause-no_command : goal.returns-clause-no_command
unfolding clap_on_literals
returns-clause-no_command c = λ name. some_fault _ _

pub returns-clause-twice : goal.returns-clause-twice
unfolding clap_on_literals
returns-clause-twice c = λ name. some_fault _ _

pub returns-clause-value : goal.returns-clause-value
unfolding clap_on_literals
returns-clause-value c = λ name. some_fault _ _

pub returns-clause-more : goal.returns-clause-more
unfolding clap_on_literals
returns-clause-more c = λ name. some_fault _ _

pub returns-clause-no_each : goal.returns-clause-no_each
unfolding clap_on_literals
returns-clause-no_each c = λ name. some_fault _ _

pub returns-clause-no_number : goal.returns-clause-no_number
unfolding clap_on_literals
returns-clause-no_number c = λ name. some_fault _ _

pub returns-clause-above : goal.returns-clause-above
unfolding clap_on_literals
returns-clause-above c = λ name. some_fault _ _

pub returns-clause-below : goal.returns-clause-below
unfolding clap_on_literals
returns-clause-below c = λ name. some_fault _ _

pub returns-clause-audit_twice : goal.returns-clause-audit_twice
unfolding clap_on_literals
returns-clause-audit_twice c = λ name. some_fault _ _

pub returns-clause-audit_of_other : goal.returns-clause-audit_of_other
unfolding clap_on_literals
returns-clause-audit_of_other c = λ name. some_fault _ _
