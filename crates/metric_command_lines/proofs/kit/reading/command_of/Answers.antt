-- The command that is parsed is the one of the definitions, so clap's own clauses are of it.
use Rattle.std.proofs.Common.{◌∙◌, ap, sym, map}
use Rattle.clap.specs.Words.{App, fault_of, is_simple_and_free, takes}
use Rattle.metric_command_lines.proofs.LineFaultLemmas.{memory_is_no_misuse, misuse_is_among}
use Rattle.metric_command_lines.proofs.kit.reading.command_of.Goals as goal

pub returns-clause-accepted : goal.returns-clause-accepted
returns-clause-accepted c =
    let parsed = c.in_ok-kit_command.ensures in
    ap (λ (app : App). fault_of app (map (λ w. w.now) c.args.words.now)) (sym parsed)
    ∙ c.in_ok-matches.ensures.kinds (ap is_simple_and_free parsed)

pub returns-in_err-matches-clause-refused : goal.returns-in_err-matches-clause-refused
returns-in_err-matches-clause-refused c = λ usage none.
    let parsed = c.in_ok-kit_command.ensures in
    misuse_is_among _ _ _ (c.in_err-matches.ensures.kinds (ap is_simple_and_free parsed)) c.from_residual-in_err-matches.ensures.1 usage
    (ap (λ (app : App). fault_of app (map (λ w. w.now) c.args.words.now)) parsed ∙ none)

pub returns-in_err-matches-clause-usage : goal.returns-in_err-matches-clause-usage
returns-in_err-matches-clause-usage c = λ usage taken.
    let parsed = c.in_ok-kit_command.ensures in
    let takes_too = ap (λ (app : App). takes app (map (λ w. w.now) c.args.words.now)) parsed ∙ taken in
    memory_is_no_misuse _ _ (c.in_err-matches.ensures.passes takes_too) c.from_residual-in_err-matches.ensures.1 usage
