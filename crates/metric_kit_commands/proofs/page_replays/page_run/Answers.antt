-- the replies that are due, and the last batches of the reader
use Rattle.std.proofs.Common.{◌≡◌, ap, length, ◌∙◌}
use Rattle.metric_kit_commands.proofs.PageRuns.{is_kept_run}
use Rattle.metric_kit_commands.proofs.page_replays.page_run.Goals as goal

pub returns-clause-ok : goal.returns-clause-ok
returns-clause-ok c =
    let run = c.in_ok-run.run' in
    let plan = c.plan.ensures in
    let catalogue = c.catalogue.ensures.catalogue in
    let instruments = c.instruments-count.ensures.instruments in
    let counted : length c.instruments-count.result.now ≡ length run.core.plan.facts.contents.instruments = cc in
    is_kept_run c.args.options c.args.parts.now run.core.plan c.tally_run.new.core.plan run.core.start _ c.event_lines.result c.args.reader c.in_ok-batches.batches.reader _ _
    c.tally_run.new.tally.last.items c.in_ok-run.ensures.ok c.event_lines.ensures c.in_ok-tally_run.ensures.plan c.in_ok-batches.ensures.reader c.in_ok-batches.ensures.last.len counted
    c.in_ok-tally_run.ensures.told.1
