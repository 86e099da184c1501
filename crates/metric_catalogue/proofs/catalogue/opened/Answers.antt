-- what is opened is sound
use Rattle.toml.specs.View.{table_view}
use Rattle.metric_catalogue.proofs.SoundCatalogues.{contents_made}
use Rattle.metric_catalogue.proofs.catalogue.opened.Goals as goal

pub invariant_of-result : goal.invariant_of-result
invariant_of-result c = contents_made c.is_three-is_shared.result (table_view c.in_ok-table.table) c.in_ok-contents.contents c.in_ok-contents.ensures
