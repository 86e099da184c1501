-- what is gathered goes on where what was seen ended
use Rattle.std.proofs.Common.{◌≡◌, rules, subst}
use Rattle.metric_slot.specs.declared.seen.Seen.{Seen}
use Rattle.metric_lanes.specs.Gathering.{IsTold}
use Rattle.metric_lanes.proofs.gathered.Gathered.finish.Goals as goal

pub returns-clause-told : goal.returns-clause-told
returns-clause-told c = λ own safe gathers.
    let g = c.args.self in
    let same : g.last ≡ c.args.seen.now = search rules in
    subst (λ (seen : Seen). IsTold own g.asked seen g.batch) same (record {
      continues = gathers.continues;
      journal = gathers.journal;
      within = c.journal_reports_are_within.ensures own g.asked.start g.asked.reader g.last g.batch safe gathers.continues gathers.journal;
      time = gathers.time;
    })
