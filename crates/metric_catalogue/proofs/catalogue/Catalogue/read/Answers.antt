-- what is read is sound
use Rattle.std.proofs.Common.{false}
use Rattle.toml.specs.View.{table_view}
use Rattle.metric_catalogue.proofs.SoundCatalogues.{contents_made}
use Rattle.metric_catalogue.proofs.catalogue.Catalogue.read.Goals as goal

pub invariant_of-result : goal.invariant_of-result
invariant_of-result c = contents_made false (table_view c.in_ok-table.table) c.in_ok-contents.contents c.in_ok-contents.ensures
