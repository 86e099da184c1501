-- The texts of a table.
use Rattle.std.specs.Prelude.{ℕ, List, [], length, Result, not, ◌==◌, unwrap_or}
use Rattle.toml.specs.Data.{Members}
use Rattle.metric_base.specs.Steps.{◌>>=◌, require}
use Rattle.metric_table.specs.Fields.{text_field, optional_text, short_text}
use Rattle.metric_catalogue.specs.declared.fault.CatalogueFault.{CatalogueFault}
use Rattle.metric_catalogue.specs.declared.fault.CatalogueDefect.TheVariants.{BadName}
use Rattle.metric_catalogue.specs.declared.fault.CatalogueFault.TheVariants.{At}
use Rattle.metric_catalogue.specs.declared.fault.CatalogueSpot.{CatalogueSpot}
use Rattle.metric_catalogue.specs.Faults.{faults_at}

-- a needed text
unfoldable pub needed_text : CatalogueSpot → List ℕ → Members → Result (List ℕ) CatalogueFault
needed_text at name table = do
  text ← text_field (faults_at at) name table
  short_text (faults_at at) text

-- a text that may be left out, and is then empty
unfoldable pub free_text : CatalogueSpot → List ℕ → Members → Result (List ℕ) CatalogueFault
free_text at name table = do
  text ← optional_text (faults_at at) name table
  short_text (faults_at at) (unwrap_or text [])

-- a text that is not empty, and not too long
abbrev pub label_of : CatalogueSpot → List ℕ → Result (List ℕ) CatalogueFault
label_of at text = do
  _ ← require (not (length text == 0)) (At BadName at)
  short_text (faults_at at) text

-- the name of a key or a recorder, or the id of a key, which is any text but the empty one
unfoldable pub label_field : CatalogueSpot → List ℕ → Members → Result (List ℕ) CatalogueFault
label_field at name table = do
  text ← text_field (faults_at at) name table
  label_of at text
