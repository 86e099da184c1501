-- the replies that are due
use Rattle.std.proofs.Common.{[], OnOk, refl, subst}
use Rattle.metric_kit_commands.specs.Replaying.{IsTallied}
use Rattle.metric_kit_commands.specs.Runs.{due_replies}
use Rattle.metric_kit_commands.specs.declared.options.ReplayOptions.{ReplayOptions}
use Rattle.metric_kit_commands.proofs.PageRuns.{is_page_run}
use Rattle.metric_kit_commands.proofs.PieceLaws.{on_done}
use Rattle.metric_kit_commands.proofs.tally.tally_replies.Goals as goal

pub returns-clause-told : goal.returns-clause-told
returns-clause-told g c =
    let run = c.in_ok-run.run' in
    subst (λ (o : ReplayOptions). OnOk c.tally_run.result (IsTallied o c.args.parts.now (g.T.Tally.tells c.args.tally.now c.tally_run.new.tally))) c.plain_options.ensures
    (on_done c.tally_run.result
    (λ told. record {
      plan = run.core.plan;
      replies = due_replies run.core.plan.facts run.core.start [] c.event_lines.result;
      answered = is_page_run c.plain_options.result c.args.parts.now run.core.plan run.core.plan run.core.start _ c.event_lines.result _ c.in_ok-run.ensures.ok c.event_lines.ensures refl refl;
      told = told;
    })
    c.tally_run.ensures.told)
