-- Texts that were read.
use Rattle.std.specs.Prelude.{◌≡◌, ℕ, List, codes}
use Rattle.metric_messages.specs.declared.sources.Pair.{Pair}
use Rattle.metric_catalogue.specs.Catalogues.{opened_of}
use Rattle.metric_setup.specs.Setups.{IsDeclared}

-- The texts are this catalogue and this config, under the names by which a host is told of them.
pub record IsPair (catalogue config : List ℕ) (pair : Pair) : Type 0 where
  pub declared : IsDeclared (opened_of catalogue) config pair.catalogue.now pair.config.now
  pub of_catalogue : pair.catalogue_source.text.now ≡ catalogue
  pub of_config : pair.config_source.text.now ≡ config
  pub catalogue_name : pair.catalogue_source.name.now ≡ codes "catalogue"
  pub config_name : pair.config_source.name.now ≡ codes "config"
