-- the same of what is seen of the tables
use Rattle.std.proofs.Common.{◌∙◌}
use Rattle.toml.specs.View.{table_view}
use Rattle.metric_catalogue.specs.Unsaid.{says}
use Rattle.metric_catalogue.proofs.Seen.{any_seen}
use Rattle.metric_catalogue.proofs.unsaid.is_said.Goals as goal

pub returns : goal.returns
returns c = c.is_any_said.ensures ∙ any_seen (λ t. table_view t.now) (says c.args.name.now c.args.path.now) c.args.recorders.now
