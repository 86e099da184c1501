-- the map of the table has one more entry
use Rattle.std.proofs.Common.{ap, ◌∙◌}
use Rattle.toml.specs.View.{members_view}
use Rattle.metric_table.proofs.Members.{members_view-insert}
use Rattle.metric_table.proofs.making.insert.Goals as goal

pub returns : goal.returns
returns c = record {
  put = ap members_view c.in_ok-insert.ensures.entries ∙ members_view-insert c.args.key c.args.value c.args.table.now.entries;
  kept = tt;
}
