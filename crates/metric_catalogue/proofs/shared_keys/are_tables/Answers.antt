-- the same of what is seen of the values
use Rattle.std.proofs.Common.{◌∙◌}
use Rattle.toml.specs.View.{view}
use Rattle.metric_catalogue.specs.SharedKeys.{is_table}
use Rattle.metric_catalogue.proofs.Seen.{all_seen}
use Rattle.metric_catalogue.proofs.shared_keys.are_tables.Goals as goal

pub returns : goal.returns
returns c = c.is_each_table.ensures ∙ all_seen view is_table c.args.values.now
