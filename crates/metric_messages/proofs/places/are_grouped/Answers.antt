-- the same of what is seen of the meters
use Rattle.std.proofs.Common.{◌∙◌}
use Rattle.toml.specs.View.{view}
use Rattle.metric_catalogue.proofs.Seen.{any_seen}
use Rattle.metric_messages.specs.Places.{has_group}
use Rattle.metric_messages.proofs.places.are_grouped.Goals as goal

pub returns : goal.returns
returns c = c.is_any_grouped.ensures ∙ any_seen view has_group c.args.meters.now
