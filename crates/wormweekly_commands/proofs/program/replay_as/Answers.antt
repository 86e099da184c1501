-- The form that is asked for is that of the call.
use Rattle.std.proofs.Common.{◌∙◌, Bool, Option, not, subst, sym}
use Rattle.std.specs.Prelude.{is_some}
use Rattle.metric_exposition.specs.declared.dialect.Dialect.{Dialect}
use Rattle.metric_kit_commands.specs.Commands.{sink_run}
use Rattle.wormweekly_commands.specs.Paging.{ReplaysPage}
use Rattle.wormweekly_commands.specs.Runs.{EndsAs, EndsPlain}
use Rattle.wormweekly_commands.proofs.PartsNeeded.{needed_of}
use Rattle.wormweekly_commands.proofs.program.replay_as.Goals as goal

pub returns-in-Some : goal.returns-in-Some
returns-in-Some g c =
    let sink = sink_run g.W.Sink.contents g.W.Sink.failures c.args.sink.now c.replay_as_page.new.sink in
    subst
    (λ (found : Option Dialect). EndsAs found c.args.request.now c.args.parts.now (not (is_some c.args.parts.now.certificate)) sink c.replay_as_page.result)
    (sym c.in-Some.is ∙ c.dialect_of.ensures)
    (subst (λ (trial : Bool). ReplaysPage c.args.request.now c.args.parts.now c.in-Some.dialect trial sink c.replay_as_page.result) c.is_trial-trial.ensures
    c.replay_as_page.ensures)

pub replay_as_page-requires : goal.replay_as_page-requires
replay_as_page-requires g c = needed_of c.is_trial-trial.result c.args.parts.now c.is_trial-trial.ensures c.requires

pub replay_plain-requires-clause-form : goal.replay_plain-requires-clause-form
replay_plain-requires-clause-form g c = sym c.dialect_of.ensures ∙ c.in-None.is

pub replay_plain-requires-clause-needed : goal.replay_plain-requires-clause-needed
replay_plain-requires-clause-needed g c = needed_of c.is_trial-trial.result c.args.parts.now c.is_trial-trial.ensures c.requires

pub returns-in-None : goal.returns-in-None
returns-in-None g c =
    let sink = sink_run g.W.Sink.contents g.W.Sink.failures c.args.sink.now c.replay_plain.new.sink in
    subst
    (λ (found : Option Dialect). EndsAs found c.args.request.now c.args.parts.now (not (is_some c.args.parts.now.certificate)) sink c.replay_plain.result)
    (sym c.in-None.is ∙ c.dialect_of.ensures)
    (subst (λ (trial : Bool). EndsPlain c.args.request.now c.args.parts.now trial sink c.replay_plain.result) c.is_trial-trial.ensures c.replay_plain.ensures)
